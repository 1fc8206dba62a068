-- What is wrong with a line, after what came before it.
use Rattle.std.specs.Prelude.{ℕ, ◌*◌, ◌^◌, nat_le, nat_lt, Bool, false, not, ◌&&◌, ◌||◌, List, [], ◌∷◌, codes, length, slice_index, Option, Some, None, is_some}
use Rattle.std.specs.List.{list_all, list_any, find}
use Rattle.std.specs.Str.{bytes_eq}
use Rattle.bf_id.specs.Shape.{root_count}
use Rattle.bf_case.specs.Case.{cell_limit}
use Rattle.bf_text.specs.declared.code.Code.{Code}
use Rattle.bf_text.specs.declared.code.Code.TheVariants as code
use Rattle.bf_text.specs.declared.form.Form.{Form}
use Rattle.bf_text.specs.declared.form.Form.TheVariants as form
use Rattle.bf_text.specs.declared.head.Head.{Head}
use Rattle.bf_text.specs.Codes.{word_codes, number_codes}
use Rattle.bf_text.specs.Forms.{place_of, is_heading, headings, takes, fits}
use Rattle.bf_text.specs.Entries.{Entry, is_number, numbers_of, came, head_of, death_of}

-- what the lines before a line tell of it
pub record Known : Type 0 where
  pub came : Form → Bool  -- which headings have come
  pub ended : Bool
  pub head : Head
  pub dies : ℕ → Bool  -- which ranks die

-- the lines before, the last one first
abbrev pub known_of : List Entry → Known
known_of before = record {
  came = λ f. is_heading f && came f before;
  ended = came form.End before;
  head = head_of before;
  dies = λ rank. is_some (death_of rank before);
}

-- the words of the header: they are literal, so no zeros may lead
abbrev pub is_header : Form → List (List ℕ) → Bool
is_header form.Forest (word ∷ []) = bytes_eq word (codes "1")
is_header f arguments = false

-- a heading that belongs before this form hasn't come; what has no form belongs nowhere
abbrev pub is_missing : (Form → Bool) → Form → Bool
is_missing came form.Other = false
is_missing came f = list_any (λ heading. nat_lt (place_of heading) (place_of f) && not (came heading)) headings

-- ---- tests of the numbers of a form

abbrev pub has_too_many_cells : Head → Form → List ℕ → Bool
has_too_many_cells head form.Levels numbers =
    nat_lt cell_limit (root_count head.roots * 8 ^ slice_index numbers 0 * (head.side * head.side * head.side))
has_too_many_cells head f numbers = false

abbrev pub is_crossed : Head → Form → List ℕ → Bool
is_crossed head form.Coarsen numbers = nat_lt head.refine (slice_index numbers 0)
is_crossed head f numbers = false

-- along one axis with so many cells, the stretch from low to high lies in it
abbrev pub is_stretch : ℕ → ℕ → ℕ → Bool
is_stretch low high cells = nat_le low high && nat_lt high cells

-- the box of a fill lies in the domain
abbrev pub holds_fill : Head → List ℕ → Bool
holds_fill head numbers =
    is_stretch (slice_index numbers 0) (slice_index numbers 3) (head.roots.nx * head.side)
    && (is_stretch (slice_index numbers 1) (slice_index numbers 4) (head.roots.ny * head.side)
    && is_stretch (slice_index numbers 2) (slice_index numbers 5) (head.roots.nz * head.side))

abbrev pub is_outside : Head → Form → List ℕ → Bool
is_outside head form.Fill numbers = not (holds_fill head numbers)
is_outside head f numbers = false

abbrev pub kills_no_rank : Head → Form → List ℕ → Bool
kills_no_rank head form.Die numbers = nat_le head.ranks (slice_index numbers 0)
kills_no_rank head f numbers = false

abbrev pub kills_again : (ℕ → Bool) → Form → List ℕ → Bool
kills_again dies form.Die numbers = dies (slice_index numbers 0)
kills_again dies f numbers = false

abbrev pub orders_no_rank : Head → Form → List ℕ → Bool
orders_no_rank head form.Order numbers = not (list_all (λ rank. nat_lt rank head.ranks) numbers)
orders_no_rank head f numbers = false

-- ---- the causes

-- the line has this cause, whatever its numbers are
abbrev pub has_word_cause : Known → Entry → Code → Bool
has_word_cause known e code.NotText = not e.is_text
has_word_cause known e code.BadHeader = not (known.came form.Forest || is_header e.form e.arguments)
has_word_cause known e code.AfterEnd = known.ended
has_word_cause known e code.Missing = is_missing known.came e.form
has_word_cause known e code.Repeated = known.came e.form
has_word_cause known e code.BadLine = not (takes e.form (length e.arguments))
has_word_cause known e code.BadNumber = not (list_all is_number e.arguments)
has_word_cause known e cause = false

-- a line of this form has this cause for its numbers
abbrev pub has_number_cause : Known → Form → List ℕ → Code → Bool
has_number_cause known f numbers code.OutOfRange = not (fits f numbers)
has_number_cause known f numbers code.TooManyCells = has_too_many_cells known.head f numbers
has_number_cause known f numbers code.Crossed = is_crossed known.head f numbers
has_number_cause known f numbers code.FillOutside = is_outside known.head f numbers
has_number_cause known f numbers code.DieRank = kills_no_rank known.head f numbers
has_number_cause known f numbers code.DieTwice = kills_again known.dies f numbers
has_number_cause known f numbers code.OrderRank = orders_no_rank known.head f numbers
has_number_cause known f numbers cause = false

-- the first, where there is one
abbrev pub either : Option Code → Option Code → Option Code
either (Some cause) other = Some cause
either None other = other

-- the cause of a line that counts most
abbrev pub cause_of : Known → Entry → Option Code
cause_of known e =
    either (find (has_word_cause known e) word_codes) (find (has_number_cause known e.form (numbers_of e)) number_codes)
