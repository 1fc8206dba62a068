-- The plays of the rounds.
use Rattle.std.specs.Prelude.{ℕ, zero, suc, ◌==◌, ◌&&◌, not, List, filter}
use Rattle.std.specs.List.{fold, list_any}
use Rattle.bf_id.specs.declared.shape.Shape.{Shape}
use Rattle.bf_id.specs.Id.{BlockId, level_of}
use Rattle.bf_case.specs.Refinement.{is_among}
use Rattle.bf_case.specs.Wishes.{Wishes}
use Rattle.bf_links.specs.Links.{is_owner}
use Rattle.bf_rounds.specs.Courses.{Course}
use Rattle.bf_rounds.specs.Gathering.{Play, gathering}
use Rattle.bf_marks.specs.Flags.{chosen}
use Rattle.bf_marks.specs.Marks.{MarksValue, flagged_in, marks_heard}
use Rattle.bf_marks.specs.Rounds.{forced_marks, may_marks, merging_marks}
use Rattle.bf_marks.specs.declared.flag.Flag.{Flag}
use Rattle.bf_marks.specs.declared.flag.Flag.TheVariants.{Refined, May, Merges}
use Rattle.bf_mark_rounds.specs.Shares.{Marked, Marking, marking_at, marking_of, share}

-- the other members that own a linked leaf
abbrev pub marking_peers : (members : List ℕ) → Marking → List ℕ
marking_peers members local = filter (λ peer. not (peer == local.rank) && list_any (λ links. is_owner links peer) local.links) members

-- a flag was heard of each of these
abbrev pub hear_all : Flag → List BlockId → MarksValue → MarksValue
hear_all flag ids m = fold (λ m i. marks_heard flag i m) m ids

abbrev pub remarked : (MarksValue → MarksValue) → Marking → Marking
remarked change local = record local { marks = change local.marks }

-- a rank tells of its refined leaves those that are linked with one of the peer's
abbrev pub force_told : Marking → (to : ℕ) → List BlockId
force_told local to = chosen (λ i links. is_among local.marks.refined.own i && is_owner links to) local.marks.leaves local.links

-- and of those of a level all that have the flag
abbrev pub level_told : Flag → (level : ℕ) → Marking → (to : ℕ) → List BlockId
level_told flag level local to = filter (λ i. level_of i == level) (flagged_in flag local.marks).own

-- a round in which a flag is told
abbrev pub flag_play : Flag → (tell : Marking → ℕ → List BlockId) → (finish : Marking → Marking) → Play Marking (List BlockId)
flag_play flag tell finish = record {
  peers = marking_peers;
  tell = tell;
  hear = λ local peer ids. remarked (hear_all flag ids) local;
  finish = finish;
}

-- a force round
abbrev pub force_play : Play Marking (List BlockId)
force_play = flag_play Refined force_told (λ local. remarked (forced_marks local.links) local)

-- the last one, at whose end it is found which leaves of the finest level may merge
abbrev pub last_force_play : (levels : ℕ) → Play Marking (List BlockId)
last_force_play levels = flag_play Refined force_told (λ local. remarked (λ m. may_marks levels local.links (forced_marks local.links m)) local)

-- the two rounds of a level: at the end of the first it is found which of its leaves merge, at that of the second which of the next level may
abbrev pub may_play : (level : ℕ) → Play Marking (List BlockId)
may_play level = flag_play May (level_told May level) (remarked (merging_marks level))

-- after level 1 there is no more to be found: roots don't merge
abbrev pub next_mays : (before : ℕ) → Marking → Marking
next_mays zero local = local
next_mays (suc level) local = remarked (may_marks (suc level) local.links) local

abbrev pub merges_play : (before : ℕ) → Play Marking (List BlockId)
merges_play before = flag_play Merges (level_told Merges (suc before)) (next_mays before)

-- the course of such a round: a rank that was told these has heard them
abbrev pub heard_marking : Shape → List BlockId → Wishes → (owner : BlockId → ℕ) → Flag → (told all : Marked) → (rank : ℕ) → (heard : List BlockId) → Marking
heard_marking shape ids w owner flag told all rank heard = marking_of shape ids w owner (hear_all flag heard (share shape ids w owner told all rank)) rank

abbrev pub marking_course : Shape → List BlockId → Wishes → (owner : BlockId → ℕ) → Flag → Play Marking (List BlockId) → (told all : Marked) → (members : List ℕ) → Course Marking (List BlockId)
marking_course shape ids w owner flag play told all members =
    gathering play (λ peer msg. msg) (heard_marking shape ids w owner flag told all) members (marking_at shape ids w owner told all)
