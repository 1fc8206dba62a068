-- Marks within a larger local, which has the rank and the links elsewhere.
use Rattle.std.specs.Prelude.{◌≡◌, ℕ, List, filter, map}
use Rattle.bf_id.specs.declared.shape.Shape.{Shape}
use Rattle.bf_id.specs.Id.{BlockId}
use Rattle.bf_links.specs.Links.{links_of}
use Rattle.bf_links.specs.declared.link.Link.{Link}
use Rattle.bf_rounds.specs.Courses.{Course}
use Rattle.bf_rounds.specs.Delivering.{Delivery}
use Rattle.bf_rounds.specs.Gathering.{Play}
use Rattle.bf_marks.specs.Marks.{MarksValue}
use Rattle.bf_mark_rounds.specs.Neighbors.{is_own}
use Rattle.bf_mark_rounds.specs.Shares.{Marking}

-- how a local's rank, links and marks are read, and how its marks are replaced
pub record MarkView (L : Type 0) : Type 0 where
  pub rank : L → ℕ
  pub links : L → List (List Link)
  pub marks : L → MarksValue
  pub put : L → MarksValue → L

abbrev pub marking_in : {L : Type 0} → MarkView L → L → Marking
marking_in view local = record { rank = view.rank local; links = view.links local; marks = view.marks local }

-- a play of marks, by the larger local
abbrev pub viewed : {L : Type 0} → MarkView L → Play Marking (List BlockId) → Delivery L (List BlockId)
viewed view play = record {
  peers = λ members local. play.peers members (marking_in view local);
  out = λ local to. (local, play.tell (marking_in view local) to);
  hear = λ local peer ids. view.put local (play.hear (marking_in view local) peer ids).marks;
  finish = λ local. view.put local (play.finish (marking_in view local)).marks;
}

-- the locals of ranks with these marks have the ranks' numbers and the links of their leaves
pub record IsMarkView {L : Type 0} (view : MarkView L) (shape : Shape) (ids : List BlockId) (owner : BlockId → ℕ) (with : ℕ → MarksValue → L) : Type 0 where
  pub rank : (rank : ℕ) (marks : MarksValue) → view.rank (with rank marks) ≡ rank
  pub links : (rank : ℕ) (marks : MarksValue) → view.links (with rank marks) ≡ map (links_of shape ids owner) (filter (is_own owner rank) ids)
  pub marks : (rank : ℕ) (marks : MarksValue) → view.marks (with rank marks) ≡ marks
  pub put : (rank : ℕ) (marks now : MarksValue) → view.put (with rank marks) now ≡ with rank now

abbrev pub viewed_course : {L : Type 0} → (with : ℕ → MarksValue → L) → Course Marking (List BlockId) → Course L (List BlockId)
viewed_course with course = record {
  peers = course.peers;
  told = course.told;
  sent = λ rank done. with rank (course.sent rank done).marks;
  heard = λ rank done. with rank (course.heard rank done).marks;
}
