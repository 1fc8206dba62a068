use Rattle.std.proofs.Common.{◌≡◌, ◌<◌, ◌∙◌, ap, arith}
use Rattle.bf_id.specs.Id.{id_eq, level_of, octant_of}
use Rattle.bf_proxy_rounds.proofs.CallLemmas.{among_children}
use Rattle.bf_proxy_rounds.proofs.going.is_child.Goals as goal

pub returns-in-Some-Some : goal.returns-in-Some-Some
returns-in-Some-Some c =
    let above = c.in-Some-Some.ensures {u = tt} in
    let octant = c.in-Some-Some.ensures' {u = tt} in
    let apart : level_of c.args.id ≡ 0 → ⊥ = λ e. let wrong = above.none.1 e in cc in
    let deep : 0 < level_of c.args.id = omega arith in
    let small : octant_of c.args.id < 8 = omega (arith, octant.some, octant.octal) in
    c.eq.ensures.value ∙ ap (λ i. id_eq i c.args.parent) above.some ∙ among_children c.args.parent c.args.id deep small
