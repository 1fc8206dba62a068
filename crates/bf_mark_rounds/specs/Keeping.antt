-- What stays through all rounds, and what the calls of marks ask for.
use Rattle.std.specs.Prelude.{◌≡◌, ℕ, List, AllPairs, length}
use Rattle.bf_id.specs.Id.{BlockId}
use Rattle.bf_id.specs.Walk.{IsBefore}
use Rattle.bf_rounds.specs.Delivering.{Delivery}
use Rattle.bf_mark_rounds.specs.FirstRound.{Beginning, Wishing, made_marking}

-- what is true of a local stays true through each call of a play
pub record Keeps (Holds : Beginning → Type 0) (play : Delivery Beginning (List BlockId)) : Type 0 where
  pub out : (b : Beginning) (to : ℕ) → Holds b → Holds (play.out b to).0
  pub hear : (b : Beginning) (peer : ℕ) (told : List BlockId) → Holds b → Holds (play.hear b peer told)
  pub finish : (b : Beginning) → Holds b → Holds (play.finish b)

-- of what a rank makes marks, and which leaves the marks are of, with those of them that wish to be coarsened
pub record HasLeaves (its : Wishing) (leaves coarser : List BlockId) (b : Beginning) : Type 0 where
  pub wishing : b.wishing ≡ its
  pub leaves_are : (made_marking b).marks.leaves ≡ leaves
  pub coarser_are : (made_marking b).marks.coarser ≡ coarser

-- the leaves rise, beside each stands what it wishes, and the marks have one leaf for each list of links
pub record CanBeMarked (b : Beginning) : Type 0 where
  pub rising : AllPairs IsBefore b.wishing.leaves
  pub wishes : length b.wishing.wishes ≡ length b.wishing.leaves
  pub links : length b.wishing.links ≡ length (made_marking b).marks.leaves
