use Rattle.std.proofs.Common.{◌≡◌, ◌||◌, ◌∙◌, ℕ, Bool, List, length, map, subst, ap, arith}
use Rattle.std.proofs.lemmas.List.{length-map}
use Rattle.bf_id.specs.Id.{BlockId}
use Rattle.bf_case.specs.Refinement.{is_among}
use Rattle.bf_links.specs.declared.link.Link.{Link}
use Rattle.bf_marks.specs.Rounds.{is_forced}
use Rattle.bf_marks.proofs.ChosenLemmas.{Said, said_all}
use Rattle.bf_marks.proofs.rounds.mark_forced.Goals as goal

pub returns-clause-marks : goal.returns-clause-marks
returns-clause-marks g c =
    let m = c.args.known.now in
    let beside = map g.L.HasLinks.linked c.args.links.now in
    let flags = c.loop-place.next.items in
    let test : BlockId → List Link → Bool = λ i links. is_among m.refined.own i || is_forced m.refined i links in
    let end : c.loop-place.place ≡ length m.leaves = omega (arith, ap length c.leaves-id-items.ensures.leaves) in
    let said : Said test m.leaves beside flags (length m.leaves) = subst (λ (n : ℕ). Said test m.leaves beside flags n) end c.loop-place.invariant.said in
    said_all test m.leaves beside flags (length-map c.args.links.now g.L.HasLinks.linked ∙ c.requires.links) c.loop-place.invariant.room said
