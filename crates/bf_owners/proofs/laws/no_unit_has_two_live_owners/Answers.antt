use Rattle.bf_owners.proofs.OwnerLemmas.{owned_at_most_once}
use Rattle.bf_owners.proofs.laws.no_unit_has_two_live_owners.Goals as goal

pub returns : goal.returns
returns g c = λ view unit seen inside. owned_at_most_once _ _ _ view (g.met.P.RankProgram.lawful view.setup) seen unit inside
