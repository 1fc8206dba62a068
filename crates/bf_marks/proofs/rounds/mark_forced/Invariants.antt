use Rattle.std.proofs.Common.{◌≡◌, ◌||◌, length, map}
use Rattle.bf_case.specs.Refinement.{is_among}
use Rattle.bf_marks.specs.Rounds.{is_forced}
use Rattle.bf_marks.proofs.ChosenLemmas.{Said}
use Rattle.bf_marks.proofs.rounds.mark_forced.Given as goal

abbrev pub invariant-loop-place : goal.invariant-loop-place
invariant-loop-place g l = record {
  room : length l.next.items ≡ length l.known.leaves;
  said : Said (λ i links. is_among l.known.refined.own i || is_forced l.known.refined i links) l.known.leaves (map g.L.HasLinks.linked l.links) l.next.items l.place;
}
