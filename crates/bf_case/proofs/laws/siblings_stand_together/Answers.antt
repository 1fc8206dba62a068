use Rattle.std.proofs.Common.{◌∙◌}
use Rattle.std.proofs.lemmas.List.{get_or_default}
use Rattle.bf_id.specs.Id.{BlockId}
use Rattle.bf_case.proofs.PlaceLemmas.{siblings_stand_together}
use Rattle.bf_case.proofs.laws.siblings_stand_together.Goals as goal

pub returns : goal.returns
returns c shape ids parent k octant d tiles named rising eight below is small =
    let all = siblings_stand_together shape ids parent k octant tiles named rising eight (below, λ (e : BlockId). get_or_default ids k e d below ∙ is) small in
    (all.0, all.1 d)
