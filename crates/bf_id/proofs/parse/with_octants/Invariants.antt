use Rattle.std.proofs.Common.{◌≡◌, take}
use Rattle.bf_id.specs.TextParts.{octant_digits}
use Rattle.bf_id.proofs.parse.with_octants.Given as goal

abbrev pub invariant-loop-digit : goal.invariant-loop-digit
invariant-loop-digit l = record {
  same_root : l.id.root ≡ l.root;
  so_far : octant_digits l.id.digits ≡ take l.digit-index l.digits;
}
