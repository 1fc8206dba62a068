use Rattle.std.proofs.Common.{◌∙◌, ap, sym}
use Rattle.std.proofs.lemmas.Iterator.{YieldsList-from_zip}
use Rattle.std.proofs.lemmas.Iterator.Adapters.{YieldsList-from_vec}
use Rattle.std.proofs.lemmas.Iterator.Consumers.{YieldsList-so_far, YieldsList-turn, YieldsList-end}
use Rattle.bf_plain.specs.Rebuild.{with_heirs}
use Rattle.bf_plain.proofs.Rebuilding.{rebuilt-push}
use Rattle.bf_plain.proofs.RebuildSteps.{can_place_next, all_rebuilt}
use Rattle.bf_plain.proofs.rebuild.rebuild.Goals as goal

pub place_heirs-requires : goal.place_heirs-requires
place_heirs-requires c =
    let leaves = c.args.leaves.items in
    let targets = c.args.targets.items in
    let gives = c.into_iter-leaf-iterator.ensures.into_iter_gives in
    let left = ap (λ z. z.a) gives ∙ c.zip-leaf-items.ensures.first in
    let right = ap (λ z. z.b) gives in
    let road =
    YieldsList-from_zip (YieldsList-from_vec leaves (ap (λ v. v.rest.items) left ∙ c.into_iter.ensures.rest) (ap (λ v. v.rest.len) left ∙ c.into_iter.ensures.len ∙ c.args.leaves.ok.0))
    (YieldsList-from_vec targets (ap (λ v. v.rest.items) right ∙ c.zip-leaf-items.ensures.second.0) (ap (λ v. v.rest.len) right ∙ c.zip-leaf-items.ensures.second.1 ∙ c.args.targets.ok.0)) in
    can_place_next c.args.case.now leaves targets c.loop-leaf.yielded c.in-Some.leaf c.in-Some.target c.loop-leaf.new.items
    c.requires.valid c.requires.forest c.requires.targets
    (YieldsList-so_far road c.loop-leaf.yielded c.loop-leaf.leaf-iterator c.loop-leaf.yielded_by)
    (YieldsList-turn road c.loop-leaf.yielded c.loop-leaf.leaf-iterator c.loop-leaf.yielded_by c.next.result c.next.new.self _ c.in-Some.is c.next.ensures.steps)
    c.loop-leaf.invariant

pub loop-leaf-preserved : goal.loop-leaf-preserved
loop-leaf-preserved c =
    c.in_ok-place_heirs.ensures
    ∙ ap (with_heirs c.args.case.now.side c.in-Some.target c.in-Some.leaf) c.loop-leaf.invariant
    ∙ sym (rebuilt-push c.args.case.now.side c.loop-leaf.yielded (c.in-Some.leaf, c.in-Some.target))

pub returns : goal.returns
returns c =
    let leaves = c.args.leaves.items in
    let targets = c.args.targets.items in
    let gives = c.into_iter-leaf-iterator.ensures.into_iter_gives in
    let left = ap (λ z. z.a) gives ∙ c.zip-leaf-items.ensures.first in
    let right = ap (λ z. z.b) gives in
    let road =
    YieldsList-from_zip (YieldsList-from_vec leaves (ap (λ v. v.rest.items) left ∙ c.into_iter.ensures.rest) (ap (λ v. v.rest.len) left ∙ c.into_iter.ensures.len ∙ c.args.leaves.ok.0))
    (YieldsList-from_vec targets (ap (λ v. v.rest.items) right ∙ c.zip-leaf-items.ensures.second.0) (ap (λ v. v.rest.len) right ∙ c.zip-leaf-items.ensures.second.1 ∙ c.args.targets.ok.0)) in
    let end = YieldsList-end road c.loop-leaf.yielded c.loop-leaf.leaf-iterator c.loop-leaf.yielded_by c.next.result c.next.new.self c.in-None.is c.next.ensures.steps in
    c.loop-leaf.invariant ∙ all_rebuilt c.args.case.now leaves targets c.loop-leaf.yielded c.requires.valid c.requires.forest c.requires.targets end.0
