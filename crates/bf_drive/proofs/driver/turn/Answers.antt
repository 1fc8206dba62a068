use Rattle.std.proofs.Common.{◌≡◌, ℕ, true, subst, ◌∙◌}
use Rattle.bf_world.specs.Runs.{is_journal}
use Rattle.bf_drive.proofs.StayLemmas.{all_at}
use Rattle.bf_drive.proofs.LighterLemmas.{turned_lightens}
use Rattle.bf_drive.proofs.LeadLemmas.{turn_leads}
use Rattle.bf_drive.proofs.TookLemmas.{Grew, took_grown}
use Rattle.bf_drive.proofs.driver.turn.Goals as goal

pub returns-clause-at : goal.returns-clause-at
returns-clause-at g c =
    let setup = c.args.setup.now in
    let laws = g.met.P.RankProgram.lawful setup in
    let m = g.P.RankProgram.meanings in
    let its_rank = (c.requires.at.its c.args.rank c.index-ranks-rank.result c.requires.within).0 in
    let Q : g.row.P-Setup.Denot → Type 0 = λ s. is_journal m s c.turn_here.new.world.journal ≡ true in
    let P : ℕ → Type 0 = λ r. Grew m g.P.RankProgram.good setup r c.args.world.now.journal c.turn_here.new.world.journal in
    all_at m g.P.RankProgram.good setup laws.limits laws.goods laws.stores laws.saves c.args.world.now.journal c.turn_here.new.world.journal c.args.ranks.now c.args.rank
    c.turn_here.new.self
    (subst Q (c.turn_here.ensures.setup ∙ c.requires.same) c.known.ensures.legal)
    c.requires.within c.requires.at
    (subst P its_rank (took_grown m g.P.RankProgram.good setup _ _ _ _ c.turn_here.ensures.turn))
    (c.turn_here.ensures.rank ∙ its_rank)
    c.turn_here.ensures.at

pub returns-clause-turned : goal.returns-clause-turned
returns-clause-turned g c =
    let setup = c.args.setup.now in
    let laws = g.met.P.RankProgram.lawful setup in
    let m = g.P.RankProgram.meanings in
    let Q : g.row.P-Setup.Denot → Type 0 = λ s. is_journal m s c.turn_here.new.world.journal ≡ true in
    turn_leads m g.P.RankProgram.good setup laws.goods laws.stores c.args.rank _ c.args.world.now.journal c.turn_here.new.world.journal c.args.ranks.now c.index-ranks-rank.result c.turn_here.new.self
    c.turn_here.result
    (subst Q (c.turn_here.ensures.setup ∙ c.requires.same) c.known.ensures.legal)
    c.requires.within (c.requires.at.its c.args.rank c.index-ranks-rank.result c.requires.within).0 c.turn_here.ensures.rank c.turn_here.ensures.at
    c.turn_here.ensures.failed c.turn_here.ensures.lacking c.turn_here.ensures.turn c.turn_here.ensures.as_before

pub returns-clause-lighter : goal.returns-clause-lighter
returns-clause-lighter g c =
    let setup = c.args.setup.now in
    let laws = g.met.P.RankProgram.lawful setup in
    let m = g.P.RankProgram.meanings in
    let its_rank = (c.requires.at.its c.args.rank c.index-ranks-rank.result c.requires.within).0 in
    let Q : g.row.P-Setup.Denot → Type 0 = λ s. is_journal m s c.turn_here.new.world.journal ≡ true in
    let P : ℕ → Type 0 = λ r. Grew m g.P.RankProgram.good setup r c.args.world.now.journal c.turn_here.new.world.journal in
    turned_lightens m g.P.RankProgram.good setup laws.limits laws.goods laws.stores laws.peers c.args.rank c.args.world.now.journal c.turn_here.new.world.journal
    (subst Q (c.turn_here.ensures.setup ∙ c.requires.same) c.known.ensures.legal)
    (subst P its_rank (took_grown m g.P.RankProgram.good setup _ _ _ _ c.turn_here.ensures.turn))
