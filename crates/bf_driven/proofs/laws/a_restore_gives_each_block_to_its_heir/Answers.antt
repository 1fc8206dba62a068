use Rattle.std.proofs.Common.{◌≡◌, true, not, [], ◌∷◌, ◌++◌, ◌∙◌, sym}
use Rattle.std.proofs.lemmas.Bool.{and_parts}
use Rattle.bf_forest.specs.Meanings.{forest}
use Rattle.bf_world.proofs.RunLemmas.{journal_joined}
use Rattle.bf_world.specs.Losses.{has_died}
use Rattle.bf_world.specs.Runs.{is_journal, run_after}
use Rattle.bf_driven.proofs.HeirLemmas.{gives_to_heirs, none_is_lost}
use Rattle.bf_driven.proofs.laws.a_restore_gives_each_block_to_its_heir.Goals as goal

pub returns : goal.returns
returns c = λ setup journal event legal restores.
    let here : is_journal forest setup journal ≡ true =
    (and_parts (is_journal forest setup journal) _ (sym (journal_joined forest setup journal (event ∷ [])) ∙ legal)).0 in
    let before = run_after forest setup journal in
    let after = run_after forest setup (journal ++ event ∷ []) in
    let all = c.a_restore_gives_all_back.ensures setup journal event legal restores in
    let has = (c.good_vectors_are_those_dealt.ensures setup before.core.epoch 0 before.start).0 (c.each_epoch_begins_good.ensures setup journal here) in
    let next = (c.good_vectors_are_those_dealt.ensures setup after.core.epoch 0 after.start).0 (c.each_epoch_begins_good.ensures setup (journal ++ event ∷ []) legal) in
    let none = none_is_lost setup journal event has.1 has.2 all has.3 (c.what_is_stored_is_in_the_first_locals.ensures setup journal here) in
    let regained = c.a_restore_gives_heirs_their_blocks.ensures setup before.core.epoch 0 has.1 has.2 before.start (λ rank. not (has_died (journal ++ event ∷ []) rank)) has.0 has.3 none in
    gives_to_heirs setup journal event has.1 has.2 all has.3 regained next.1 next.2 next.3
    (c.each_member_holds_its_parts_of_the_agreed_snapshot.ensures.parts setup before.core.epoch 0 has.1 has.2 before.start has.3)
    (c.each_epoch_begins_with_the_agreed_map.ensures setup (journal ++ event ∷ []) legal)
