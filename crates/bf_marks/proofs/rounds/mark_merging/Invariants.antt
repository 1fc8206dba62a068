use Rattle.std.proofs.Common.{◌≡◌, ◌==◌, cond, length}
use Rattle.bf_id.specs.Id.{level_of}
use Rattle.bf_case.specs.Refinement.{is_among}
use Rattle.bf_marks.specs.Rounds.{octet_may}
use Rattle.bf_marks.proofs.ChosenLemmas.{Said}
use Rattle.bf_marks.proofs.rounds.mark_merging.Given as goal

abbrev pub invariant-loop-place : goal.invariant-loop-place
invariant-loop-place l = record {
  room : length l.next.items ≡ length l.known.leaves;
  said : Said (λ i leaf. cond (level_of i == l.level) (octet_may l.known.may i) (is_among l.known.merging.own i)) l.known.leaves l.known.leaves l.next.items l.place;
}
