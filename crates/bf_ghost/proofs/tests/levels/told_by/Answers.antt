use Rattle.std.proofs.Common.{◌≡◌, ◌∙◌, ◌++◌, ◌∷◌, [], List, Option, append-nil, arith, ap, sym}
use Rattle.bf_block.specs.Block.{BlockValue, leaf_of}
use Rattle.bf_ghost.specs.Strips.{StripValue}
use Rattle.bf_ghost.specs.Telling.{strip_between}
use Rattle.bf_ghost.proofs.AllLeaves.{filter_map_more}
use Rattle.bf_ghost.proofs.tests.levels.told_by.Goals as goal
use Rattle.bf_ghost.proofs.tests.levels.told_by.Goals.{in-Some+in_ok-push, in_default}

pub loop-block-preserved : goal.loop-block-preserved
loop-block-preserved c =
    let a = c.args in
    let i = c.loop-block.block-index in
    let b = c.block-item.result in
    let tell : BlockValue → Option StripValue = λ b. strip_between b.case.roots (leaf_of b) a.target in
    let given : tell b ≡ c.in_ok-strip.field-0 = sym c.in_ok-strip.ensures in
    elim c.match-branch-2.branch [
      | in-Some+in_ok-push w ↦
          ap (λ v. v.items) w.strips-is ∙ w.in_ok-push.ensures.items
          ∙ ap (λ (told : List StripValue). told ++ w.in-Some.strip ∷ []) c.loop-block.invariant
          ∙ sym (filter_map_more tell a.blocks.now i b _ (omega arith) c.block-item.is (given ∙ w.in-Some.is))
      | in_default w ↦
          ap (λ v. v.items) w.strips-is ∙ c.loop-block.invariant ∙ sym (append-nil _)
          ∙ sym (filter_map_more tell a.blocks.now i b _ (omega arith) c.block-item.is (given ∙ w.in_default.is))
    ]
