use Rattle.std.proofs.Common.{◌++◌, List, All, map, sym, ap, subst, ◌∙◌}
use Rattle.std.specs.List.{zip}
use Rattle.bf_ghost.specs.Strips.{StripValue}
use Rattle.bf_msg.specs.declared.linked_block.LinkedBlock.{LinkedBlock}
use Rattle.bf_forest.specs.Ready.{IsPairBetween}
use Rattle.bf_forest.specs.Rounds.{stepped_all, stepped_pair, strips_to}
use Rattle.bf_forest.specs.Setup.{case_of}
use Rattle.bf_forest.proofs.StepSteps.{all_between, all_stepped_by, groups_by}
use Rattle.bf_forest.proofs.step.step.Goals as goal

pub all_stepped-requires : goal.all_stepped-requires
all_stepped-requires c =
    let case = case_of c.args.setup.now in
    let local = c.args.local.now in
    let groups = map (λ group. group.items) c.in_ok-groups.groups.items in
    let ready = c.requires.1 in
    let are =
    groups_by local.rank local.heard local.blocks c.tell_all.new.strips.items c.into_vec-strips.result.items c.as_slice.result.now c.as_slice-2.result.now groups
    (c.into_vec-strips.ensures ∙ c.moved.ensures.items) c.as_slice.ensures c.as_slice-2.ensures c.in_ok-tell_all.ensures c.in_ok-groups.ensures in (
      c.requires.0,
      subst (λ (blocks : List LinkedBlock). All (IsPairBetween case c.requires.0) (zip blocks groups)) (sym c.moved-2.ensures.items)
          (all_between case c.requires.0 (local.heard ++ strips_to local.rank local.blocks) local.blocks groups are ready.told ready.more),
    )

pub returns : goal.returns
returns c =
    let case = case_of c.args.setup.now in
    let local = c.args.local.now in
    let groups = map (λ group. group.items) c.in_ok-groups.groups.items in
    let are =
    groups_by local.rank local.heard local.blocks c.tell_all.new.strips.items c.into_vec-strips.result.items c.as_slice.result.now c.as_slice-2.result.now groups
    (c.into_vec-strips.ensures ∙ c.moved.ensures.items) c.as_slice.ensures c.as_slice-2.ensures c.in_ok-tell_all.ensures c.in_ok-groups.ensures in
    let blocks = c.in_ok-local.ensures ∙ ap (λ (bs : List LinkedBlock). map stepped_pair (zip bs groups)) c.moved-2.ensures.items ∙ all_stepped_by local.rank local.heard local.blocks groups are in
    ap (λ (bs : List LinkedBlock). record local { blocks = bs; heard = c.moved.new.self }) blocks
    ∙ ap (λ (strips : List StripValue). record local { blocks = stepped_all local.rank local.heard local.blocks; heard = strips }) c.moved.ensures.none
