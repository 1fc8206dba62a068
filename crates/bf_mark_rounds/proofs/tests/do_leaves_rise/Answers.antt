use Rattle.std.proofs.Common.{◌≡◌, ◌∙◌, ◌<◌, List, AllPairs, length, map, get_or, subst, arith}
use Rattle.std.proofs.Math.ListN.{get_or-map}
use Rattle.std.proofs.lemmas.List.{length-map}
use Rattle.bf_id.specs.Id.{BlockId}
use Rattle.bf_id.specs.Walk.{IsBefore}
use Rattle.bf_links.specs.declared.link.Link.{Link}
use Rattle.bf_mark_rounds.proofs.tests.do_leaves_rise.Goals as goal

pub returns : goal.returns
returns c = λ rise i j d before within.
    let leaves = c.args.leaves.now in
    let id : Link → BlockId = λ leaf. leaf.id in
    let are : c.as_slice.result.now ≡ map id leaves = c.as_slice.ensures.value ∙ c.in_ok-ids.ensures in
    let rises : AllPairs IsBefore (map id leaves) = subst (λ (ids : List BlockId). AllPairs IsBefore ids) are (c.are_rising.ensures rise) in
    let mapped : IsBefore (get_or (map id leaves) i d.id) (get_or (map id leaves) j d.id) = rises i j d.id before (omega (arith, length-map leaves id)) in
    subst (λ (a : BlockId). IsBefore a (get_or leaves j d).id) (get_or-map id leaves i d)
    (subst (IsBefore (get_or (map id leaves) i d.id)) (get_or-map id leaves j d) mapped)
