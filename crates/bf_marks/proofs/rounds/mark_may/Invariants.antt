use Rattle.std.proofs.Common.{◌≡◌, ◌==◌, cond, length, map}
use Rattle.bf_id.specs.Id.{level_of}
use Rattle.bf_case.specs.Refinement.{is_among}
use Rattle.bf_marks.specs.Rounds.{may_merge}
use Rattle.bf_marks.proofs.ChosenLemmas.{Said}
use Rattle.bf_marks.proofs.rounds.mark_may.Given as goal

abbrev pub invariant-loop-place : goal.invariant-loop-place
invariant-loop-place g l = record {
  room : length l.next.items ≡ length l.known.leaves;
  said : Said (λ i links. cond (level_of i == l.level) (may_merge l.known i links) (is_among l.known.may.own i)) l.known.leaves (map g.L.HasLinks.linked l.links) l.next.items l.place;
}
