use Rattle.std.proofs.Common.{◌∙◌, ap}
use Rattle.std.proofs.lemmas.Iterator.{YieldsList-from_zip, YieldsList-from_slice}
use Rattle.std.proofs.lemmas.Iterator.Consumers.{YieldsList-end}
use Rattle.bf_plain.proofs.RebuildSteps.{count_more, count_all}
use Rattle.bf_plain.proofs.rebuild.new_count.Goals as goal

pub loop-id-preserved : goal.loop-id-preserved
loop-id-preserved c =
    count_more c.loop-id.yielded c.in-Some.field-0-0 c.in-Some.target c.loop-id.count c.heir_count.result _ c.loop-id.invariant
    c.heir_count.ensures c.saturating_add-count.ensures

pub returns : goal.returns
returns c =
    let leaves = c.args.leaves.now in
    let targets = c.args.targets.now in
    let gives = c.into_iter-id-iterator.ensures.into_iter_gives in
    let left = ap (λ z. z.a) gives ∙ c.zip-id-items.ensures.first in
    let right = ap (λ z. z.b) gives in
    let road = YieldsList-from_zip (YieldsList-from_slice leaves (ap (λ i. i.rest.now) left ∙ c.iter.ensures.rest)) (YieldsList-from_slice targets (ap (λ i. i.rest.now) right ∙ c.zip-id-items.ensures.second.0)) in
    let end = YieldsList-end road c.loop-id.yielded c.loop-id.id-iterator c.loop-id.yielded_by c.next.result c.next.new.self c.in-None.is c.next.ensures.steps in
    c.loop-id.invariant ∙ count_all leaves targets c.loop-id.yielded end.0
