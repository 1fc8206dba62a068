-- The first force round, before which a rank has no marks: it makes them of its leaves' wishes when they are first needed.
use Rattle.std.specs.Prelude.{ℕ, List, [], ◌∷◌, Option, Some, None, filter, map}
use Rattle.std.specs.Option.{option_map_or}
use Rattle.bf_id.specs.declared.shape.Shape.{Shape}
use Rattle.bf_id.specs.Id.{BlockId}
use Rattle.bf_case.specs.Wishes.{Wishes}
use Rattle.bf_links.specs.Links.{links_of}
use Rattle.bf_links.specs.declared.link.Link.{Link}
use Rattle.bf_rounds.specs.Courses.{Course}
use Rattle.bf_rounds.specs.Delivering.{Delivery}
use Rattle.bf_marks.specs.Marks.{MarksValue, first_marks}
use Rattle.bf_marks.specs.Wishes.{wish_of}
use Rattle.bf_marks.specs.declared.flag.Flag.TheVariants.{Refined}
use Rattle.bf_marks.specs.declared.wishes.Wish.{Wish}
use Rattle.bf_mark_rounds.specs.Neighbors.{is_own}
use Rattle.bf_mark_rounds.specs.Plays.{flag_play, force_told, hear_all, marking_course, marking_peers}
use Rattle.bf_mark_rounds.specs.Shares.{Marking, forced_after, marking_at, told_after}

-- what a rank makes marks of: its number, its leaves, their links and what they wish
pub record Wishing : Type 0 where
  pub rank : ℕ
  pub leaves : List BlockId
  pub links : List (List Link)
  pub wishes : List Wish

-- with the marks, once they are made
pub record Beginning : Type 0 where
  pub wishing : Wishing
  pub marks : Option MarksValue

-- the marks as they are, or as they are first made
abbrev pub made_marking : Beginning → Marking
made_marking b = record {
  rank = b.wishing.rank;
  links = b.wishing.links;
  marks = option_map_or (λ (m : MarksValue). m) b.marks (first_marks b.wishing.leaves b.wishing.wishes);
}

abbrev pub with_marks : Beginning → MarksValue → Beginning
with_marks b marks = record { wishing = b.wishing; marks = Some marks }

abbrev pub first_play : (finish : Marking → Marking) → Delivery Beginning (List BlockId)
first_play finish = record {
  peers = λ members b. marking_peers members (made_marking b);
  out = λ b to. (with_marks b (made_marking b).marks, force_told (made_marking b) to);
  hear = λ b peer ids. with_marks b (hear_all Refined ids (made_marking b).marks);
  finish = λ b. with_marks b (finish (made_marking b)).marks;
}

module _ (shape : Shape) (ids : List BlockId) (w : Wishes) (owner : BlockId → ℕ) where
  abbrev pub wishing_at : (rank : ℕ) → Wishing
  wishing_at rank = record {
    rank = rank;
    leaves = filter (is_own owner rank) ids;
    links = map (links_of shape ids owner) (filter (is_own owner rank) ids);
    wishes = map (wish_of w) (filter (is_own owner rank) ids);
  }

  -- a rank without marks, and with them
  abbrev pub unmarked_at : (rank : ℕ) → Beginning
  unmarked_at rank = record { wishing = wishing_at rank; marks = None }

  abbrev pub marked_at : (marking : ℕ → Marking) → (rank : ℕ) → Beginning
  marked_at marking rank = record { wishing = wishing_at rank; marks = Some (marking rank).marks }

  -- the course of a force round before which the marks are those of the wishes
  abbrev pub wished_course : (finish : Marking → Marking) → (members : List ℕ) → Course Marking (List BlockId)
  wished_course finish members = marking_course shape ids w owner Refined (flag_play Refined force_told finish) (told_after shape ids w 0) (forced_after shape ids w 0) members

  abbrev pub wished_at : (rank : ℕ) → Marking
  wished_at = marking_at shape ids w owner (told_after shape ids w 0) (forced_after shape ids w 0)

  -- with its first message, sent or heard, a rank has made its marks
  abbrev pub marks_sent : (rank : ℕ) → (done : List ℕ) → Option MarksValue
  marks_sent rank [] = None
  marks_sent rank (peer ∷ done) = Some (wished_at rank).marks

  module _ (finish : Marking → Marking) (members : List ℕ) where
    abbrev pub marks_at : (rank : ℕ) → (done : List ℕ) → Option MarksValue
    marks_at rank [] = marks_sent rank ((wished_course finish members).peers rank)
    marks_at rank (peer ∷ done) = Some ((wished_course finish members).heard rank (peer ∷ done)).marks

    abbrev pub first_course : Course Beginning (List BlockId)
    first_course = record {
      peers = (wished_course finish members).peers;
      told = (wished_course finish members).told;
      sent = λ rank done. record { wishing = wishing_at rank; marks = marks_sent rank done };
      heard = λ rank done. record { wishing = wishing_at rank; marks = marks_at rank done };
    }
