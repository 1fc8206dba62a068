use Rattle.bf_id.proofs.Rising.{walk_meets, walk_only, walk_only_octal, walk_rises}
use Rattle.bf_id.proofs.order.order_is_the_walk.Goals as goal

pub returns-clause-rises : goal.returns-clause-rises
returns-clause-rises c = walk_rises

pub returns-clause-meets : goal.returns-clause-meets
returns-clause-meets c = walk_meets

pub returns-clause-only : goal.returns-clause-only
returns-clause-only c = walk_only

pub returns-clause-octal : goal.returns-clause-octal
returns-clause-octal c = walk_only_octal
