use Rattle.std.proofs.Common.{length, sym, ap, subst, ◌∙◌}
use Rattle.std.proofs.lemmas.Iterator.{YieldsList-from_zip}
use Rattle.std.proofs.lemmas.Iterator.Adapters.{YieldsList-from_vec}
use Rattle.std.proofs.lemmas.Iterator.Consumers.{YieldsList-turn, YieldsList-end}
use Rattle.bf_forest.specs.Ready.{IsBetween, IsPairBetween}
use Rattle.bf_forest.specs.Setup.{case_of}
use Rattle.bf_forest.proofs.StepSteps.{next_pair, pairs_stepped}
use Rattle.bf_forest.proofs.step.all_stepped.Goals as goal

pub stepped-requires-clause-block : goal.stepped-requires-clause-block
stepped-requires-clause-block c =
    let blocks = c.args.blocks in
    let groups = c.args.groups.items in
    let gives = c.into_iter-linked-iterator.ensures.into_iter_gives in
    let left = ap (λ z. z.a) gives ∙ c.zip-linked-items.ensures.first in
    let right = ap (λ z. z.b) gives in
    let road =
    YieldsList-from_zip (YieldsList-from_vec blocks (ap (λ v. v.rest.items) left ∙ c.into_iter.ensures.rest ∙ c.into_vec.ensures) (ap (λ v. v.rest.len) left ∙ c.into_iter.ensures.len ∙ c.into_vec.result.ok.0 ∙ ap length c.into_vec.ensures))
    (YieldsList-from_vec groups (ap (λ v. v.rest.items) right ∙ c.zip-linked-items.ensures.second.0) (ap (λ v. v.rest.len) right ∙ c.zip-linked-items.ensures.second.1 ∙ c.args.groups.ok.0)) in
    let turn = YieldsList-turn road c.loop-linked.yielded c.loop-linked.linked-iterator c.loop-linked.yielded_by c.next.result c.next.new.self _ c.in-Some.is c.next.ensures.steps in
    let between =
    next_pair (λ group. group.items) (IsPairBetween (case_of c.args.setup.now) c.requires.0) blocks groups _ c.in-Some.linked c.in-Some.strips c.requires.1 turn.0 turn.1 in
    (c.requires.0, subst (λ strips. IsBetween (case_of c.args.setup.now) c.requires.0 strips c.in-Some.linked) (sym c.as_slice.ensures.value) between)

pub returns : goal.returns
returns c =
    let blocks = c.args.blocks in
    let groups = c.args.groups.items in
    let gives = c.into_iter-linked-iterator.ensures.into_iter_gives in
    let left = ap (λ z. z.a) gives ∙ c.zip-linked-items.ensures.first in
    let right = ap (λ z. z.b) gives in
    let road =
    YieldsList-from_zip (YieldsList-from_vec blocks (ap (λ v. v.rest.items) left ∙ c.into_iter.ensures.rest ∙ c.into_vec.ensures) (ap (λ v. v.rest.len) left ∙ c.into_iter.ensures.len ∙ c.into_vec.result.ok.0 ∙ ap length c.into_vec.ensures))
    (YieldsList-from_vec groups (ap (λ v. v.rest.items) right ∙ c.zip-linked-items.ensures.second.0) (ap (λ v. v.rest.len) right ∙ c.zip-linked-items.ensures.second.1 ∙ c.args.groups.ok.0)) in
    let end = YieldsList-end road c.loop-linked.yielded c.loop-linked.linked-iterator c.loop-linked.yielded_by c.next.result c.next.new.self c.in-None.is c.next.ensures.steps in
    c.of.ensures ∙ c.loop-linked.invariant.0 ∙ pairs_stepped (λ group. group.items) blocks groups c.loop-linked.yielded end.0
