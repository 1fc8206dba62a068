use Rattle.std.proofs.Common.{sym, subst, All}
use Rattle.std.proofs.lemmas.Result.{IfOk-weaker}
use Rattle.bf_case.specs.Filling.{HasRoom, voxel_at}
use Rattle.bf_case.proofs.BoxLemmas.{rooms, cells_are_filled}
use Rattle.bf_case.proofs.filling.filled_root.Goals as goal

pub filled_cells-requires-clause-fills : goal.filled_cells-requires-clause-fills
filled_cells-requires-clause-fills c = subst (All HasRoom) (sym c.as_slice.ensures) (rooms c.args.case.now c.requires.valid)

pub returns : goal.returns
returns c = IfOk-weaker c.filled_cells.result _ _
    (λ cells are. cells_are_filled c.args.case.now c.args.root cells (voxel_at c.beginning_of-first.result) c.as_slice.result.now
    are c.beginning_of-first.ensures c.as_slice.ensures) c.filled_cells.ensures
