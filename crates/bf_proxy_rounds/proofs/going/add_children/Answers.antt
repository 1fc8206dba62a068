use Rattle.std.proofs.Common.{◌≡◌, ℕ, ◌++◌, ◌∷◌, [], ◌∙◌, ap, arith, map, sym, refl, zero-add, append_assoc}
use Rattle.std.specs.List.{range_with_len}
use Rattle.std.proofs.lemmas.List.FromFn.{map-range_with_len_more}
use Rattle.bf_lemmas.proofs.Lists.{map_twice}
use Rattle.bf_id.specs.Id.{child_of}
use Rattle.bf_links.specs.Links.{link_to}
use Rattle.bf_links.specs.declared.link.Link.{Link}
use Rattle.bf_proxy_rounds.proofs.going.add_children.Goals as goal

pub loop-octant-preserved : goal.loop-octant-preserved
loop-octant-preserved c =
    let to : ℕ → Link = λ o. link_to (λ q. c.args.home) (child_of c.args.id o) in
    c.in_ok-push.ensures.items
    ∙ ap (λ i. c.loop-octant.goals.items ++ record { id = i; owner = c.args.home } ∷ []) c.child.ensures
    ∙ ap (λ ls. ls ++ to c.loop-octant.octant ∷ []) c.loop-octant.invariant
    ∙ append_assoc c.args.goals.now.items (map to (range_with_len 0 c.loop-octant.octant)) (to c.loop-octant.octant ∷ [])
    ∙ ap (λ ls. c.args.goals.now.items ++ ls) (sym (map-range_with_len_more to 0 c.loop-octant.octant c.loop-octant.octant (zero-add c.loop-octant.octant)))

pub returns : goal.returns
returns c =
    let to : ℕ → Link = λ o. link_to (λ q. c.args.home) (child_of c.args.id o) in
    let all : c.loop-octant.octant ≡ 8 = omega (arith, c.loop-octant-test.false, c.loop-octant.auto.octant-end) in
    c.loop-octant.invariant
    ∙ ap (λ n. c.args.goals.now.items ++ map to (range_with_len 0 n)) all
    ∙ ap (λ ls. c.args.goals.now.items ++ ls) (sym (map_twice (link_to (λ q. c.args.home)) (child_of c.args.id) to (λ o. refl) (range_with_len 0 8)))
