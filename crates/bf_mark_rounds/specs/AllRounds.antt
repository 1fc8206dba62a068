-- All rounds in their order, and what the ranks then know.
use Rattle.std.specs.Prelude.{◌≡◌, ℕ, zero, suc, ◌⊎◌, Contains, IsTrue, List, [], ◌∷◌, ◌++◌, map, replicate}
use Rattle.bf_id.specs.declared.shape.Shape.{Shape}
use Rattle.bf_id.specs.Id.{BlockId}
use Rattle.bf_case.specs.Regrid.{target_of}
use Rattle.bf_case.specs.Wishes.{Wishes}
use Rattle.bf_rounds.specs.Delivering.{Delivery}
use Rattle.bf_rounds.specs.Gathering.{Play}
use Rattle.bf_marks.specs.Marks.{MarksValue, target_by}
use Rattle.bf_mark_rounds.specs.FirstRound.{Beginning, first_play, made_marking, unmarked_at, with_marks}
use Rattle.bf_mark_rounds.specs.Neighbors.{is_near, is_own}
use Rattle.bf_mark_rounds.specs.Plays.{force_play, last_force_play, may_play, merges_play}
use Rattle.bf_mark_rounds.specs.Shares.{Marking}
use Rattle.bf_mark_rounds.specs.Views.{MarkView, viewed}

-- as many force rounds as there are levels
abbrev pub force_plays : (levels : ℕ) → List (Play Marking (List BlockId))
force_plays zero = []
force_plays (suc before) = replicate before force_play ++ last_force_play (suc before) ∷ []

-- the two rounds of each level, from one down to level 1
abbrev pub level_plays : (level : ℕ) → List (Play Marking (List BlockId))
level_plays zero = []
level_plays (suc before) = may_play (suc before) ∷ merges_play before ∷ level_plays before

abbrev pub marking_plays : (levels : ℕ) → List (Play Marking (List BlockId))
marking_plays levels = force_plays levels ++ level_plays levels

-- marks that may still have to be made
abbrev pub beginning_view : MarkView Beginning
beginning_view = record {
  rank = λ b. b.wishing.rank;
  links = λ b. b.wishing.links;
  marks = λ b. (made_marking b).marks;
  put = with_marks;
}

-- rounds before the first of which no rank has marks
abbrev pub begun : List (Play Marking (List BlockId)) → List (Delivery Beginning (List BlockId))
begun [] = []
begun (play ∷ plays) = first_play play.finish ∷ map (viewed beginning_view) plays

-- all rounds of a case of so many levels
abbrev pub all_plays : (levels : ℕ) → List (Delivery Beginning (List BlockId))
all_plays levels = begun (marking_plays levels)

-- each member has marks that say what becomes of its own leaves, and of those that touch one of them
pub record KnowTargets (shape : Shape) (ids : List BlockId) (w : Wishes) (owner : BlockId → ℕ) (members : List ℕ) (locals : List Beginning) : Type 0 where
  pub marks : ℕ → MarksValue
  pub are : locals ≡ map (λ rank. with_marks (unmarked_at shape ids w owner rank) (marks rank)) members
  pub targets : (rank : ℕ) (i : BlockId) → Contains ids i → IsTrue (is_own owner rank i) ⊎ IsTrue (is_near shape ids owner rank i)
      → target_by (marks rank) i ≡ target_of shape ids w i
