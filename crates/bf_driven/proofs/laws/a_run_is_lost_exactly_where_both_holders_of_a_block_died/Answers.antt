use Rattle.std.proofs.Common.{◌≡◌, ℕ, true, List, ◌∷◌, ◌∙◌, ap, sym, subst}
use Rattle.std.specs.Prelude.{IsTrue, ◌↔◌}
use Rattle.std.proofs.lemmas.Bool.{and_parts}
use Rattle.bf_buddy.specs.Members.{is_member}
use Rattle.bf_forest.specs.Goods.{HasLeaf}
use Rattle.bf_forest.specs.Meanings.{forest}
use Rattle.bf_forest.specs.Setup.{case_of}
use Rattle.bf_world.proofs.RunLemmas.{journal_joined}
use Rattle.bf_world.specs.Runs.{is_journal, run_after}
use Rattle.bf_driven.proofs.HeirLemmas.{leaf_housed}
use Rattle.bf_driven.proofs.laws.a_run_is_lost_exactly_where_both_holders_of_a_block_died.Goals as goal

pub returns : goal.returns
returns c = λ setup journal legal complete.
    let run = run_after forest setup journal in
    let some = c.some_home_has_a_block.ensures setup run.core.epoch 0 run.start (c.each_epoch_begins_good.ensures setup journal legal) in
    let last = c.a_complete_run_has_a_last_decision.ensures setup journal some.0 legal complete some.1 in
    let here : is_journal forest setup last.before ≡ true =
    (and_parts (is_journal forest setup last.before) _ (sym (journal_joined forest setup last.before (last.event ∷ last.later)) ∙ ap (is_journal forest setup) (sym last.split) ∙ legal)).0 in
    let then = run_after forest setup last.before in
    let has = (c.good_vectors_are_those_dealt.ensures setup then.core.epoch 0 then.start).0 (c.each_epoch_begins_good.ensures setup last.before here) in
    let stored : (rank : ℕ) → IsTrue (is_member then.core.stored rank) ↔ HasLeaf (case_of setup) then.core.epoch.time has.2 rank = λ rank.
    subst (λ (stored : List _). IsTrue (is_member stored rank) ↔ HasLeaf (case_of setup) then.core.epoch.time has.2 rank)
    (sym (c.what_is_stored_is_in_the_first_locals.ensures setup last.before here))
    (c.a_part_has_a_block_where_its_home_has_a_leaf.ensures setup then.core.epoch 0 has.1 has.2 then.start rank has.0 has.3) in
    record {
      last = last;
      home = has.2;
      housed = has.3.housed;
      stored = stored;
      lost = λ time home buddy. c.a_run_is_lost_exactly_where_both_holders_died.ensures.named setup journal last time home buddy legal;
      named = λ time rank buddy ends.
          let first = (c.a_run_is_lost_exactly_where_both_holders_died.ensures.named setup journal last time rank buddy legal).0 ends in
          leaf_housed (case_of setup) then.core.epoch.time then.core.epoch.homes has.2 rank has.3.housed ((stored rank).0 first.lost.has_block);
    }
