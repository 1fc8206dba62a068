-- The law is the lemma.
use Rattle.bf_id.proofs.Boxes.{domain_holds}
use Rattle.bf_id.proofs.laws.blocks_lie_in_the_domain.Goals as goal

pub returns : goal.returns
returns c = domain_holds
