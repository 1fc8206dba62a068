use Rattle.std.proofs.Common.{rules, ◌≡◌, ◌<◌, ◌∷◌, ◌++◌, [], subst, sym}
use Rattle.std.specs.Prelude.{Contains}
use Rattle.bf_turn.specs.Logs.{HasJust}
use Rattle.bf_turn.specs.Diaries.{writer_of, notes_of}
use Rattle.bf_turn.proofs.PartyLemmas.{below_there}
use Rattle.bf_turn.proofs.DiaryLemmas.{firsts, seconds, nobodys}
use Rattle.bf_turn.proofs.diary.write_both.Goals as goal

pub close-diary-requires-clause-all : goal.close-diary-requires-clause-all
close-diary-requires-clause-all g c = λ party less.
    let parties : c.join-both.result.known.parties ≡ 0 ∷ (1 ∷ []) = search rules in
    let two : c.in-Ok.turns.parties ≡ 2 = search rules in
    subst (λ ps. Contains ps party) (sym parties) (below_there 2 party (subst (λ n. party < n) two less))

pub returns-then-two_whole : goal.returns-then-two_whole
returns-then-two_whole g c =
    let one = c.args.first.now in
    let two = c.args.second.now in
    let notes = c.close-diary.result.notes.items in
    let calls : c.join-both.result.known.calls ≡ notes_of 0 one ++ notes_of 1 two = search rules in
    let just : HasJust writer_of (notes_of 0 one ++ notes_of 1 two) notes = subst (λ calls. HasJust writer_of calls notes) calls c.close-diary.ensures.calls in record {
      title = search rules;
      first = firsts one two notes just;
      second = seconds one two notes just;
      no_others = nobodys one two notes just;
    }
