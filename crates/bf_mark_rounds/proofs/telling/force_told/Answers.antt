use Rattle.std.proofs.Common.{◌≡◌, ◌<◌, ◌&&◌, ◌∙◌, Bool, List, [], ◌∷◌, ◌++◌, length, map, get_or, cond, ap, sym, arith}
use Rattle.std.specs.Prelude.{Some, slice_get}
use Rattle.std.proofs.lemmas.List.{get_or-map, length-map}
use Rattle.std.proofs.lemmas.Option.{slice_get-get_or}
use Rattle.bf_id.specs.Id.{BlockId}
use Rattle.bf_case.specs.Refinement.{is_among}
use Rattle.bf_links.specs.Links.{is_owner}
use Rattle.bf_links.specs.declared.link.Link.{Link}
use Rattle.bf_mark_rounds.proofs.TellingLemmas.{found_more}
use Rattle.bf_mark_rounds.proofs.telling.force_told.Goals as goal
use Rattle.bf_mark_rounds.proofs.telling.force_told.Goals.{then-is_refined_beside+in_ok-push, else-is_refined_beside}

pub loop-place-preserved : goal.loop-place-preserved
loop-place-preserved g c =
    let m = c.args.marks.now in
    let beside = map g.L.HasLinks.linked c.args.links.now in
    let test : BlockId → List Link → Bool = λ i links. is_among m.refined.own i && is_owner links c.args.to in
    let place = c.loop-place.place in
    let i = c.id-item.result in
    let x = g.L.HasLinks.linked c.index-links-place.result in
    let found = c.loop-place.told.items in
    let within : place < length m.leaves = omega (arith, ap length c.leaves-id-items.ensures) in
    let beside_within : place < length beside = omega (arith, length-map c.args.links.now g.L.HasLinks.linked, ap length c.leaves-id-items.ensures) in
    let here : get_or m.leaves place i ≡ i = sym (c.id-item.is ∙ ap (λ is. get_or is place i) c.leaves-id-items.ensures) in
    let at : slice_get m.leaves place ≡ Some i = slice_get-get_or m.leaves place i within ∙ ap Some here in
    let beside_is : get_or beside place x ≡ x = get_or-map g.L.HasLinks.linked c.args.links.now place c.index-links-place.result x (omega (arith, ap length c.leaves-id-items.ensures)) ∙ ap g.L.HasLinks.linked (sym c.index-links-place.is) in
    let told : c.if-is_refined_beside.told.items ≡ cond c.is_refined_beside.result (found ++ i ∷ []) found = elim c.if-is_refined_beside.branch [
      | then-is_refined_beside+in_ok-push w ↦ let push = w.in_ok-push.ensures.items in rw w.if-is_refined_beside.true (cc)
      | else-is_refined_beside w ↦ rw w.if-is_refined_beside.false (cc)
    ] in
    found_more test m.leaves beside found c.if-is_refined_beside.told.items place i x c.is_refined_beside.result within beside_within here beside_is (sym (c.is_refined_beside.ensures i at)) told c.loop-place.invariant
