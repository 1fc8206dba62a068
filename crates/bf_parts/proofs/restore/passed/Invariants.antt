use Rattle.std.proofs.Common.{◌≡◌, false, take, All}
use Rattle.bf_parts.proofs.restore.passed.Given as goal

abbrev pub invariant-loop-place : goal.invariant-loop-place
invariant-loop-place g l = All (λ other. g.T.Linked.kind.first l.item other ≡ false) (take l.place l.others)
