-- The law is the lemma.
use Rattle.bf_id.proofs.Cubes.{Meet-from_face}
use Rattle.bf_id.proofs.laws.sharing_a_face_meets.Goals as goal

pub returns : goal.returns
returns c = Meet-from_face
