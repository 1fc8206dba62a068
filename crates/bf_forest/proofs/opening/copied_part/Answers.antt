use Rattle.std.proofs.Common.{◌≡◌, ◌∙◌, subst, List, []}
use Rattle.std.specs.Prelude.{IfOk}
use Rattle.bf_msg.specs.declared.linked_block.LinkedBlock.{LinkedBlock}
use Rattle.bf_forest.specs.Setup.{case_of}
use Rattle.bf_forest.proofs.OpeningSteps.{part_at}
use Rattle.bf_forest.proofs.opening.copied_part.Goals as goal

pub bounds-parts-rank : goal.bounds-parts-rank
bounds-parts-rank c = (part_at (case_of c.args.setup.now) c.args.parts.now c.args.rank [] c.requires.parts c.requires.rank).0

pub returns : goal.returns
returns c =
    subst (λ (b : List LinkedBlock). IfOk c.copies.result (λ (items : List LinkedBlock). items ≡ b))
    (c.as_slice.ensures ∙ c.index-parts-rank.is
    ∙ (part_at (case_of c.args.setup.now) c.args.parts.now c.args.rank c.index-parts-rank.result c.requires.parts c.requires.rank).1)
    c.copies.ensures
