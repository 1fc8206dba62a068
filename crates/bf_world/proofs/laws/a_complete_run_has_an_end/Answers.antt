use Rattle.std.proofs.Common.{◌∙◌, ap}
use Rattle.bf_buddy.specs.Members.{is_member}
use Rattle.bf_world.proofs.LawfulLemmas.{after_lawful}
use Rattle.bf_world.proofs.ReachedLemmas.{after_reached}
use Rattle.bf_world.proofs.EndLemmas.{listed_all}
use Rattle.bf_world.proofs.laws.a_complete_run_has_an_end.Goals as goal

pub returns : goal.returns
returns g c = λ setup journal home legal complete stored. let laws = g.met.P.RankProgram.lawful setup in
    let lawful = after_lawful _ _ setup laws.goods laws.stores laws.limits journal legal in
    c.a_complete_journal_has_an_end.ensures _ (after_reached _ _ setup laws.goods laws.stores laws.limits journal legal) complete home
    (listed_all _ _ home (laws.stores.homes _ 0 _ lawful.steady.good_start).1 stored)
    (ap (λ homes. is_member homes home) lawful.steady.stored ∙ stored)
