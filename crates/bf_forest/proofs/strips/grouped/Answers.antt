use Rattle.std.proofs.Common.{◌<◌, ◌∙◌, ap, map, subst, sym}
use Rattle.std.proofs.lemmas.Iterator.Adapters.{YieldsList-from_vec}
use Rattle.std.proofs.lemmas.Iterator.Consumers.{YieldsList-end}
use Rattle.std.proofs.lemmas.List.{map-id}
use Rattle.bf_forest.specs.Ready.{groups_of}
use Rattle.bf_forest.proofs.GroupSteps.{as_many, none_told, put_none, pushed_one}
use Rattle.bf_forest.proofs.strips.grouped.Goals as goal

pub loop-strip-init : goal.loop-strip-init
loop-strip-init c =
    c.in_ok-groups.ensures ∙ none_told c.args.blocks.now

pub loop-strip-preserved-in-Continue-branch-2 : goal.loop-strip-preserved-in-Continue-branch-2
loop-strip-preserved-in-Continue-branch-2 c =
    pushed_one (λ group. group.items) c.args.blocks.now c.loop-strip.yielded c.loop-strip.groups.items c.loop-strip.invariant c.in-Some.strip c.in-Ok.place
    c.index_mut.result.now c.push.new.self c.requires c.in-Ok.ensures.0 (λ d. c.in-Ok.ensures.1 d ∙ c.target.ensures) c.index_mut.ensures.value c.in_ok-push.ensures.items

pub loop-strip-preserved : goal.loop-strip-preserved
loop-strip-preserved c =
    put_none c.args.blocks.now c.loop-strip.yielded c.in-Some.strip (map (λ group. group.items) c.loop-strip.groups.items)
    (λ j d within same. c.in_default.ensures j d within (same ∙ sym c.target.ensures)) c.loop-strip.invariant

pub index_mut-requires : goal.index_mut-requires
index_mut-requires c =
    let many = as_many (λ group. group.items) c.args.blocks.now c.loop-strip.yielded c.loop-strip.groups.items c.loop-strip.invariant in
    subst (λ n. c.in-Ok.place < n) (sym many ∙ sym c.loop-strip.groups.ok.0) c.in-Ok.ensures.0

pub returns : goal.returns
returns c =
    let gives = c.into_iter-strip-iterator.ensures.into_iter_gives in
    let road = YieldsList-from_vec c.args.strips.items gives.0 (gives.1 ∙ c.args.strips.ok.0) in
    let end = YieldsList-end road c.loop-strip.yielded c.loop-strip.strip-iterator c.loop-strip.yielded_by c.next.result c.next.new.self c.in-None.is c.next.ensures.steps in
    c.loop-strip.invariant ∙ ap (λ strips. groups_of strips c.args.blocks.now) (sym (map-id c.loop-strip.yielded) ∙ end.0)
