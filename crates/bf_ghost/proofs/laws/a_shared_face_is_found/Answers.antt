use Rattle.bf_id.specs.Id.{box_of}
use Rattle.bf_ghost.proofs.SharingLemmas.{found_is_shared, shared_is_found}
use Rattle.bf_ghost.proofs.laws.a_shared_face_is_found.Goals as goal

pub returns : goal.returns
returns c shape i j face domain = (
  found_is_shared shape (box_of shape i) (box_of shape j) face,
  shared_is_found shape i j face domain,
)
