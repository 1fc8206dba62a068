use Rattle.std.proofs.Common.{◌≡◌, ◌*◌, ℕ, sym, subst, length}
use Rattle.bf_ghost.specs.Strips.{StripValue, strip_side}
use Rattle.bf_ghost.proofs.StripLemmas.{length-strip_values}
use Rattle.bf_ghost.proofs.tests.tell.Goals as goal

pub lay-requires : goal.lay-requires
lay-requires c =
    let a = c.args in
    let h = a.cells.now in
    let Fits : ℕ → StripValue → Type 0 = λ side s. length s.values ≡ strip_side side s.source s.target * strip_side side s.source s.target in
    let full = subst (Fits h.side) (sym c.in_ok-strip.ensures) (length-strip_values h a.source a.target a.face) in
    subst (λ s. Fits s c.in_ok-strip.strip) (sym c.requires) full
