use Rattle.std.proofs.Common.{◌∙◌, ap}
use Rattle.std.proofs.lemmas.Iterator.{YieldsList-from_zip}
use Rattle.std.proofs.lemmas.Iterator.Adapters.{YieldsList-from_vec}
use Rattle.std.proofs.lemmas.Iterator.Consumers.{YieldsList-end}
use Rattle.bf_forest.specs.Setup.{case_of}
use Rattle.bf_forest.proofs.OpeningSteps.{all_filled}
use Rattle.bf_forest.proofs.opening.load.Goals as goal

pub returns : goal.returns
returns c =
    let bare_locals = c.in_ok-unfilled.unfilled.items in
    let parts = c.in_ok-parts.parts.items in
    let gives = c.into_iter-local-iterator.ensures.into_iter_gives in
    let left = ap (λ z. z.a) gives ∙ c.zip-local-items.ensures.first in
    let right = ap (λ z. z.b) gives in
    let road =
    YieldsList-from_zip (YieldsList-from_vec bare_locals (ap (λ v. v.rest.items) left ∙ c.into_iter.ensures.rest) (ap (λ v. v.rest.len) left ∙ c.into_iter.ensures.len ∙ c.in_ok-unfilled.unfilled.ok.0))
    (YieldsList-from_vec parts (ap (λ v. v.rest.items) right ∙ c.zip-local-items.ensures.second.0) (ap (λ v. v.rest.len) right ∙ c.zip-local-items.ensures.second.1 ∙ c.in_ok-parts.parts.ok.0)) in
    let end = YieldsList-end road c.loop-local.yielded c.loop-local.local-iterator c.loop-local.yielded_by c.next.result c.next.new.self c.in-None.is c.next.ensures.steps in
    c.loop-local.invariant
    ∙ all_filled (case_of c.args.setup.now) bare_locals parts c.loop-local.yielded c.in_ok-unfilled.ensures c.in_ok-parts.ensures end.0
