use Rattle.bf_plain.proofs.MergingLemmas.{stays_on_level}
use Rattle.bf_plain.proofs.merging.stays_at.Goals as goal

pub returns-then-level : goal.returns-then-level
returns-then-level c = λ p are.
    stays_on_level c.args.leaves.now p c.args.leaf c.args.level c.level.result c.index-leaves-leaf.result c.is_free.result c.requires.leaf_in c.index-leaves-leaf.is
    c.level.ensures.level c.if-level.true (c.is_free.ensures p are)
