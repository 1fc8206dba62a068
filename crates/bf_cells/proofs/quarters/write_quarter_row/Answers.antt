use Rattle.std.proofs.Common.{arith, ◌≡◌, ◌+◌, ◌-◌, ◌/◌, ◌∙◌, sym, refl, ap, true, false, get_or, length}
use Rattle.bf_cells.specs.Octant.{is_within}
use Rattle.bf_cells.proofs.OctantLemmas.{part_written, within_from_test, within_part}
use Rattle.bf_cells.proofs.PlaceLemmas.{row_fits}
use Rattle.bf_cells.proofs.quarters.write_quarter_row.Goals as goal

pub piece-requires : goal.piece-requires
piece-requires c =
    let a = c.args in
    let half = a.side / 2 in
    let within = within_from_test a.b0 half a.b (sym c.has.ensures ∙ c.if-has.true) in
    omega (arith, row_fits half half (a.b - a.b0) (omega arith))

pub returns-then-has : goal.returns-then-has
returns-then-has c k hk =
    let a = c.args in
    let half = a.side / 2 in
    let size : a.a0 + half - a.a0 ≡ half = omega arith in
    let across : is_within a.b0 half a.b ≡ true = sym c.has.ensures ∙ c.if-has.true in
    let same = c.copy_from_slice.ensures.after in
    let len : length c.copy_from_slice.new.self ≡ half = ap length same ∙ c.piece.ensures.len in
    rw (across, size) (part_written a.into.now c.copy_from_slice.new.self a.a0 half k (omega arith) len
    ∙ within_part a.a0 half k _ _ _ (λ below. ap (λ l. get_or l (k - a.a0) 0) same ∙ c.piece.ensures.cells (k - a.a0) below))

pub returns-else-has : goal.returns-else-has
returns-else-has c k hk =
    let apart : is_within c.args.b0 (c.args.side / 2) c.args.b ≡ false = sym c.has.ensures ∙ c.if-has.false in
    rw apart refl
