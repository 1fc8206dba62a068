-- A square that is written in a shell.
use Rattle.std.proofs.Common.{◌≡◌, ℕ, ◌∙◌, ap, sym, subst, List, length}
use Rattle.std.proofs.lemmas.List.{with_items_is}
use Rattle.bf_face.specs.declared.face.Face.{Face}
use Rattle.bf_face.specs.declared.face.Face.TheVariants.{XLow, XHigh, YLow, YHigh, ZLow, ZHigh}
use Rattle.bf_cells.specs.declared.shell.Shell.TheInside.{Inside}
use Rattle.bf_cells.specs.declared.squares.Squares.{Squares}
use Rattle.bf_cells.specs.Shell.{Walls, IsWall, IsShell, wall_of, with_wall}
use Rattle.bf_cells.specs.ShellFields.{walls_in}
use Rattle.bf_cells.specs.Squares.{walls_with, with_square}
use Rattle.bf_cells.proofs.WallLemmas.{IsShell-with_wall}

-- squares that are written are walls with another square
walls-with_square : (side : ℕ) (s : Squares) (face : Face) (wall : List ℕ) → length wall ≡ length (wall_of (walls_with side s) face)
    → walls_with side (with_square s face wall) ≡ with_wall (walls_with side s) face wall
walls-with_square side s XLow wall full = ap (λ l. record (walls_with side s) { x_low = l }) (with_items_is s.x_low wall (full ∙ sym s.x_low.ok.0))
walls-with_square side s XHigh wall full = ap (λ l. record (walls_with side s) { x_high = l }) (with_items_is s.x_high wall (full ∙ sym s.x_high.ok.0))
walls-with_square side s YLow wall full = ap (λ l. record (walls_with side s) { y_low = l }) (with_items_is s.y_low wall (full ∙ sym s.y_low.ok.0))
walls-with_square side s YHigh wall full = ap (λ l. record (walls_with side s) { y_high = l }) (with_items_is s.y_high wall (full ∙ sym s.y_high.ok.0))
walls-with_square side s ZLow wall full = ap (λ l. record (walls_with side s) { z_low = l }) (with_items_is s.z_low wall (full ∙ sym s.z_low.ok.0))
walls-with_square side s ZHigh wall full = ap (λ l. record (walls_with side s) { z_high = l }) (with_items_is s.z_high wall (full ∙ sym s.z_high.ok.0))

-- what a shell becomes whose square at a face is written
pub record IsLaid (s : Inside) (old : Walls) (face : Face) (written wall : List ℕ) : Type 0 where
  pub is : walls_with s.side (with_square s.squares face written) ≡ with_wall old face wall
  pub full : IsShell (walls_with s.side (with_square s.squares face written))

-- a full square was laid in walls that were full
pub laid : (s : Inside) (old : Walls) (face : Face) (written wall : List ℕ) → walls_in s ≡ old → IsShell (walls_in s) → written ≡ wall → IsWall old.side wall
    → IsLaid s old face written wall
laid s old face written wall view valid same full =
    let fits : IsWall s.side written = subst (IsWall s.side) (sym same) (subst (λ w. IsWall w.side wall) (sym view) full) in
    let is : walls_with s.side (with_square s.squares face written) ≡ with_wall (walls_in s) face written =
    walls-with_square s.side s.squares face written (fits.full ∙ sym (valid.full face).full) in
    record {
      is = is ∙ ap (with_wall (walls_in s) face) same ∙ ap (λ w. with_wall w face wall) view;
      full = subst IsShell (sym is) (IsShell-with_wall (walls_in s) face written valid fits);
    }
