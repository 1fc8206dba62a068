use Rattle.std.proofs.Common.{◌≡◌, ℕ, ◌++◌, ◌∷◌, [], ◌∙◌, ap, arith, map, sym, refl, zero-add}
use Rattle.std.specs.List.{range_with_len}
use Rattle.std.proofs.lemmas.List.FromFn.{map-range_with_len_more}
use Rattle.bf_lemmas.proofs.Lists.{map_twice}
use Rattle.bf_id.specs.Id.{BlockId, child_of}
use Rattle.bf_links.specs.Links.{link_to}
use Rattle.bf_links.specs.declared.link.Link.{Link}
use Rattle.bf_proxy_rounds.specs.Calls.{sibling_by}
use Rattle.bf_proxy_rounds.proofs.making.octet_sources.Goals as goal

pub loop-octant-preserved : goal.loop-octant-preserved
loop-octant-preserved c =
    let owner : BlockId → ℕ = sibling_by c.args.rank c.args.links.now in
    let to : ℕ → Link = λ o. link_to owner (child_of c.args.parent o) in
    let one : Link = record { id = c.child-id.result; owner = c.sibling_owner.result } in
    let is : one ≡ to c.loop-octant.octant = λ k. record { id = c.child-id.ensures k; owner = (c.sibling_owner.ensures ∙ ap owner c.child-id.ensures) k } in
    c.in_ok-push.ensures.items
    ∙ (λ k. c.loop-octant.invariant k ++ is k ∷ [])
    ∙ sym (map-range_with_len_more to 0 c.loop-octant.octant c.loop-octant.octant (zero-add c.loop-octant.octant))

pub returns : goal.returns
returns c =
    let owner : BlockId → ℕ = sibling_by c.args.rank c.args.links.now in
    let to : ℕ → Link = λ o. link_to owner (child_of c.args.parent o) in
    let all : c.loop-octant.octant ≡ 8 = omega (arith, c.loop-octant-test.false, c.loop-octant.auto.octant-end) in
    c.loop-octant.invariant
    ∙ ap (λ n. map to (range_with_len 0 n)) all
    ∙ sym (map_twice (link_to owner) (child_of c.args.parent) to (λ o. refl) (range_with_len 0 8))
