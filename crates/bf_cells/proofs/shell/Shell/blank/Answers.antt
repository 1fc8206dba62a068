-- Squares of zeros are full.
use Rattle.std.proofs.Common.{rules, ◌≡◌, subst, sym}
use Rattle.bf_cells.specs.Shell.{IsShell, blank_walls}
use Rattle.bf_cells.specs.Squares.{walls_with}
use Rattle.bf_cells.proofs.WallLemmas.{IsShell-blank}
use Rattle.bf_cells.proofs.shell.Shell.blank.Goals as goal

pub invariant_of-result : goal.invariant_of-result
invariant_of-result c =
    let zeros : walls_with c.args.side (record {
      x_low = c.in_ok-vec.field-0;
      x_high = c.in_ok-vec-2.field-0;
      y_low = c.in_ok-vec-3.field-0;
      y_high = c.in_ok-vec-4.field-0;
      z_low = c.in_ok-vec-5.field-0;
      z_high = c.in_ok-vec-6.field-0;
    }) ≡ blank_walls c.args.side = search rules in
    subst IsShell (sym zeros) (IsShell-blank c.args.side c.requires.even c.requires.low c.requires.high)
