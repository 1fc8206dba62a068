use Rattle.std.proofs.Common.{◌&&◌, map}
use Rattle.bf_case.specs.Refinement.{is_among}
use Rattle.bf_links.specs.Links.{is_owner}
use Rattle.bf_mark_rounds.proofs.TellingLemmas.{Found}
use Rattle.bf_mark_rounds.proofs.telling.force_told.Given as goal

abbrev pub invariant-loop-place : goal.invariant-loop-place
invariant-loop-place g l = Found (λ i links. is_among l.marks.refined.own i && is_owner links l.to) l.marks.leaves (map g.L.HasLinks.linked l.links) l.told.items l.place
