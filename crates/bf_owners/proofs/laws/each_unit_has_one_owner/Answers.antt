use Rattle.bf_owners.proofs.OwnerLemmas.{owned_once}
use Rattle.bf_owners.proofs.laws.each_unit_has_one_owner.Goals as goal

pub returns : goal.returns
returns g c = λ view unit seen unhurt inside. owned_once _ _ _ view (g.met.P.RankProgram.lawful view.setup) seen unit inside unhurt
