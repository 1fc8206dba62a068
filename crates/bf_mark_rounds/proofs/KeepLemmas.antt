-- What stays through all rounds.
use Rattle.std.proofs.Common.{◌≡◌, ℕ, zero, suc, List, [], ◌∷◌, map, filter, length, get_or, refl, sym, ap, ◌∙◌, subst, All}
use Rattle.std.specs.Prelude.{AllPairs, replicate}
use Rattle.std.proofs.lemmas.List.{length-map}
use Rattle.std.proofs.lemmas.List.Elements.{All-nil, All-cons, All-append, All-head, All-map, All-replicate, All-tail, All-weaker}
use Rattle.std.proofs.lemmas.List.Kept.{AllPairs-filter}
use Rattle.bf_id.specs.declared.shape.Shape.{Shape}
use Rattle.bf_id.specs.Id.{BlockId}
use Rattle.bf_id.specs.Walk.{IsBefore}
use Rattle.bf_case.specs.Wishes.{Wishes}
use Rattle.bf_links.specs.Links.{links_of}
use Rattle.bf_rounds.specs.Delivering.{Delivery}
use Rattle.bf_rounds.specs.Gathering.{Play}
use Rattle.bf_marks.specs.Marks.{MarksValue, marks_heard}
use Rattle.bf_marks.specs.Wishes.{wish_of}
use Rattle.bf_marks.specs.declared.flag.Flag.{Flag}
use Rattle.bf_marks.specs.declared.flag.Flag.TheVariants.{Refined, May, Merges}
use Rattle.bf_mark_rounds.specs.AllRounds.{all_plays, beginning_view, begun, force_plays, level_plays, marking_plays}
use Rattle.bf_mark_rounds.specs.FirstRound.{Beginning, Wishing, first_play, made_marking, unmarked_at}
use Rattle.bf_mark_rounds.specs.Keeping.{CanBeMarked, HasLeaves, Keeps}
use Rattle.bf_mark_rounds.specs.Neighbors.{is_own}
use Rattle.bf_mark_rounds.specs.Plays.{flag_play, force_play, hear_all, last_force_play, may_play, merges_play, next_mays}
use Rattle.bf_mark_rounds.specs.Shares.{Marking}
use Rattle.bf_mark_rounds.specs.Views.{viewed}

-- ---- leaves

-- marks of the same leaves
record IsOfSame (m before : MarksValue) : Type 0 where
  leaves : m.leaves ≡ before.leaves
  coarser : m.coarser ≡ before.coarser

one_heard : (flag : Flag) (i : BlockId) (m : MarksValue) → IsOfSame (marks_heard flag i m) m
one_heard Refined i m = record { leaves = refl; coarser = refl }
one_heard May i m = record { leaves = refl; coarser = refl }
one_heard Merges i m = record { leaves = refl; coarser = refl }

all_heard : (flag : Flag) (ids : List BlockId) (m : MarksValue) → IsOfSame (hear_all flag ids m) m
all_heard flag [] m = record { leaves = refl; coarser = refl }
all_heard flag (i ∷ ids) m =
    let one = one_heard flag i m in
    let more = all_heard flag ids (marks_heard flag i m) in
    record { leaves = more.leaves ∙ one.leaves; coarser = more.coarser ∙ one.coarser }

module _ (its : Wishing) (leaves coarser : List BlockId) where
  -- in the first round, and in a later one
  record KeepsEither (play : Play Marking (List BlockId)) : Type 0 where
    first : Keeps (HasLeaves its leaves coarser) (first_play play.finish)
    later : Keeps (HasLeaves its leaves coarser) (viewed beginning_view play)

  same_leaves : (b : Beginning) (m : MarksValue) → IsOfSame m (made_marking b).marks → HasLeaves its leaves coarser b → HasLeaves its leaves coarser (beginning_view.put b m)
  same_leaves b m same has = record { wishing = has.wishing; leaves_are = same.leaves ∙ has.leaves_are; coarser_are = same.coarser ∙ has.coarser_are }

  flags_keep : (flag : Flag) (tell : Marking → ℕ → List BlockId) (finish : Marking → Marking) → ((local : Marking) → IsOfSame (finish local).marks local.marks)
      → KeepsEither (flag_play flag tell finish)
  flags_keep flag tell finish same = record {
    first = record {
      out = λ b to has. same_leaves b (made_marking b).marks (record { leaves = refl; coarser = refl }) has;
      hear = λ b peer told has. same_leaves b (hear_all Refined told (made_marking b).marks) (all_heard Refined told (made_marking b).marks) has;
      finish = λ b has. same_leaves b (finish (made_marking b)).marks (same (made_marking b)) has;
    };
    later = record {
      out = λ b to has. has;
      hear = λ b peer told has. same_leaves b (hear_all flag told (made_marking b).marks) (all_heard flag told (made_marking b).marks) has;
      finish = λ b has. same_leaves b (finish (made_marking b)).marks (same (made_marking b)) has;
    };
  }

  next_same : (before : ℕ) (local : Marking) → IsOfSame (next_mays before local).marks local.marks
  next_same zero local = record { leaves = refl; coarser = refl }
  next_same (suc level) local = record { leaves = refl; coarser = refl }

  levels_keep : (level : ℕ) → All KeepsEither (level_plays level)
  levels_keep zero = All-nil KeepsEither
  levels_keep (suc before) =
      All-cons KeepsEither (may_play (suc before)) (merges_play before ∷ level_plays before)
      (flags_keep May (may_play (suc before)).tell (may_play (suc before)).finish (λ local. record { leaves = refl; coarser = refl }))
      (All-cons KeepsEither (merges_play before) (level_plays before) (flags_keep Merges (merges_play before).tell (next_mays before) (next_same before)) (levels_keep before))

  forces_keep : (levels : ℕ) → All KeepsEither (force_plays levels)
  forces_keep zero = All-nil KeepsEither
  forces_keep (suc before) =
      All-append KeepsEither (replicate before force_play) (last_force_play (suc before) ∷ [])
      (All-replicate KeepsEither before force_play (flags_keep Refined force_play.tell force_play.finish (λ local. record { leaves = refl; coarser = refl })))
      (All-cons KeepsEither (last_force_play (suc before)) []
      (flags_keep Refined (last_force_play (suc before)).tell (last_force_play (suc before)).finish (λ local. record { leaves = refl; coarser = refl })) (All-nil KeepsEither))

  begun_keep : (plays : List (Play Marking (List BlockId))) → All KeepsEither plays → All (Keeps (HasLeaves its leaves coarser)) (begun plays)
  begun_keep [] keep = All-nil (Keeps (HasLeaves its leaves coarser))
  begun_keep (play ∷ plays) keep =
      All-cons (Keeps (HasLeaves its leaves coarser)) (first_play play.finish) (map (viewed beginning_view) plays) (All-head KeepsEither play plays keep).first
      (All-map (Keeps (HasLeaves its leaves coarser)) (viewed beginning_view) plays
      (All-weaker KeepsEither (λ play. Keeps (HasLeaves its leaves coarser) (viewed beginning_view play)) (λ play kept. kept.later) plays (All-tail KeepsEither play plays keep)))

  pub leaves_stay : (levels : ℕ) → All (Keeps (HasLeaves its leaves coarser)) (all_plays levels)
  leaves_stay levels =
      begun_keep (marking_plays levels) (All-append KeepsEither (force_plays levels) (level_plays levels) (forces_keep levels) (levels_keep levels))

-- ---- what the calls ask for

-- of the same leaves as another
abbrev HasItsLeaves : Beginning → Beginning → Type 0
HasItsLeaves b = HasLeaves b.wishing (made_marking b).marks.leaves (made_marking b).marks.coarser

-- it is so as long as the leaves are the same
still_marked : (b now : Beginning) → CanBeMarked b → HasItsLeaves b now → CanBeMarked now
still_marked b now can has = record {
  rising = subst (λ (its : Wishing). AllPairs IsBefore its.leaves) (sym has.wishing) can.rising;
  wishes = subst (λ (its : Wishing). length its.wishes ≡ length its.leaves) (sym has.wishing) can.wishes;
  links = ap (λ (its : Wishing). length its.links) has.wishing ∙ can.links ∙ ap length (sym has.leaves_are);
}

pub marking_goes_on : (levels : ℕ) → All (Keeps CanBeMarked) (all_plays levels)
marking_goes_on levels k nothing below = record {
  out = λ b to can. still_marked b (play.out b to).0 can ((kept b).out b to (own b));
  hear = λ b peer told can. still_marked b (play.hear b peer told) can ((kept b).hear b peer told (own b));
  finish = λ b can. still_marked b (play.finish b) can ((kept b).finish b (own b));
}
  where
    play : Delivery Beginning (List BlockId)
    play = get_or (all_plays levels) k nothing

    own : (b : Beginning) → HasItsLeaves b b
    own b = record { wishing = refl; leaves_are = refl; coarser_are = refl }

    kept : (b : Beginning) → Keeps (HasItsLeaves b) play
    kept b = leaves_stay b.wishing (made_marking b).marks.leaves (made_marking b).marks.coarser levels k nothing below

pub marking_begins : (shape : Shape) (ids : List BlockId) (w : Wishes) (owner : BlockId → ℕ) (rank : ℕ) → AllPairs IsBefore ids → CanBeMarked (unmarked_at shape ids w owner rank)
marking_begins shape ids w owner rank rises = record {
  rising = AllPairs-filter IsBefore (is_own owner rank) ids rises;
  wishes = length-map (filter (is_own owner rank) ids) (wish_of w);
  links = length-map (filter (is_own owner rank) ids) (links_of shape ids owner);
}
