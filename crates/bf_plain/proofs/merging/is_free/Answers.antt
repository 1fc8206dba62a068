use Rattle.std.proofs.Common.{sym, ◌∙◌}
use Rattle.std.proofs.lemmas.Bool.{false≢true, lt-leb}
use Rattle.bf_plain.proofs.MergingLemmas.{parent_is_shallow, found_free, no_room_before}
use Rattle.bf_plain.proofs.merging.is_free.Goals as goal

pub all_stand_free-requires-clause-shallow : goal.all_stand_free-requires-clause-shallow
all_stand_free-requires-clause-shallow c =
    parent_is_shallow c.args.leaves.now c.args.leaf c.index-leaves-leaf.result c.in-Some-Some.parent c.requires.leaves.named c.requires.leaf_in c.index-leaves-leaf.is
    c.in-Some-Some.ensures.some

pub returns-then-before-leaf : goal.returns-then-before-leaf
returns-then-before-leaf c = λ p are.
    found_free c.args.leaves.now c.args.held.now p c.args.leaf c.in-Some-Some.octant c.index-leaves-leaf.result c.in-Some-Some.parent c.all_stand_free.result
    c.requires.leaves are c.requires.leaf_in c.index-leaves-leaf.is c.in-Some-Some.ensures.some c.in-Some-Some.ensures'.some
    (λ root. absurd (false≢true (sym (c.in-Some-Some.ensures.none.1 root))))
    c.if-before-leaf.true c.all_stand_free.ensures

pub returns-else-before-leaf : goal.returns-else-before-leaf
returns-else-before-leaf c = λ p are.
    lt-leb c.in-Some-Some.octant c.args.leaf c.if-before-leaf.false
    ∙ sym (no_room_before c.args.leaves.now c.args.held.now p c.args.leaf c.in-Some-Some.octant c.index-leaves-leaf.result
    c.requires.leaves are c.requires.leaf_in c.index-leaves-leaf.is c.in-Some-Some.ensures'.some c.if-before-leaf.false)
