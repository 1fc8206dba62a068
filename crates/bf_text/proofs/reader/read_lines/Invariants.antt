use Rattle.std.proofs.Common.{length}
use Rattle.bf_text.proofs.ReadLemmas.{Reads}
use Rattle.bf_text.proofs.reader.read_lines.Given as goal

abbrev pub invariant-loop-line : goal.invariant-loop-line
invariant-loop-line l = Reads l.fn.bytes l.draft l.rest l.number

abbrev pub decreases-loop-line : goal.decreases-loop-line
decreases-loop-line l = length l.rest
