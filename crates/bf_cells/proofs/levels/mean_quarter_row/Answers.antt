use Rattle.std.proofs.Common.{arith, ◌≡◌, ◌+◌, ◌-◌, ◌/◌, ◌∙◌, sym, refl, true, false}
use Rattle.bf_cells.specs.Grid.{grid_with}
use Rattle.bf_cells.specs.Levels.{face_mean}
use Rattle.bf_cells.specs.Octant.{is_within}
use Rattle.bf_cells.proofs.OctantLemmas.{part_written, within_part}
use Rattle.bf_cells.proofs.levels.mean_quarter_row.Goals as goal

pub returns-then-has : goal.returns-then-has
returns-then-has c k hk =
    let a = c.args in
    let half = a.side / 2 in
    let size : a.a0 + half - a.a0 ≡ half = omega arith in
    let across : is_within a.b0 half a.b ≡ true = sym c.has.ensures ∙ c.if-has.true in
    let value = face_mean (grid_with a.side a.values.now) a.face in
    rw (across, size) (part_written a.into.now c.mean_face_row.new.into a.a0 half k (omega arith) (omega arith)
    ∙ within_part a.a0 half k _ _ _ (λ below. c.mean_face_row.ensures (k - a.a0) below))

pub returns-else-has : goal.returns-else-has
returns-else-has c k hk =
    let apart : is_within c.args.b0 (c.args.side / 2) c.args.b ≡ false = sym c.has.ensures ∙ c.if-has.false in
    rw apart refl
