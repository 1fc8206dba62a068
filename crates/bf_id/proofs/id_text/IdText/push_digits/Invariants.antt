use Rattle.std.proofs.Common.{◌≡◌, ◌++◌, take}
use Rattle.bf_id.specs.TextParts.{octant_digits}
use Rattle.bf_id.proofs.id_text.IdText.push_digits.Given as goal

abbrev pub invariant-loop-octant : goal.invariant-loop-octant
invariant-loop-octant l = l.self ≡ l.initial.self ++ octant_digits (take l.octant-index l.octants)
