-- The lines with words, and what they give.
use Rattle.std.specs.Prelude.{ℕ, ◌+◌, ◌==◌, nat_le, Bool, ◌&&◌, if◌then◌else◌, List, [], ◌∷◌, ◌++◌, length, map, slice_index, Option, Some, None}
use Rattle.std.specs.Char.{is_ascii_digit}
use Rattle.std.specs.List.{list_all, list_any, range_with_len, flat_map}
use Rattle.std.specs.Str.Parse.{digits_value}
use Rattle.bf_case.specs.declared.case.Case.{Case}
use Rattle.bf_case.specs.declared.case.Fill.{Fill}
use Rattle.bf_text.specs.declared.form.Form.{Form}
use Rattle.bf_text.specs.declared.form.Form.TheVariants as form
use Rattle.bf_text.specs.declared.head.Head.{Head}
use Rattle.bf_text.specs.Lines.{is_plain, content_of, words_of}
use Rattle.bf_text.specs.Forms.{form_of, same_form}

-- a line with words
pub record Entry : Type 0 where
  pub line : ℕ
  pub is_text : Bool  -- no byte but what may stand outside of comments
  pub form : Form  -- by the first word
  pub arguments : List (List ℕ)  -- the words after the first

-- a line's words before the entries of the lines that follow; a line without words is none
abbrev pub with_entry : ℕ → Bool → List (List ℕ) → List Entry → List Entry
with_entry line is_text [] entries = entries
with_entry line is_text (word ∷ words) entries = record { line = line; is_text = is_text; form = form_of word; arguments = words } ∷ entries

-- the entries of lines that are counted from this number on
abbrev pub entries_from : ℕ → List (List ℕ) → List Entry
entries_from number [] = []
entries_from number (line ∷ lines) =
    with_entry number (list_all is_plain (content_of line)) (words_of (content_of line)) (entries_from (number + 1) lines)

-- one to twenty decimal digits
abbrev pub is_number : List ℕ → Bool
is_number word = nat_le 1 (length word) && (nat_le (length word) 20 && list_all is_ascii_digit word)

abbrev pub numbers_of : Entry → List ℕ
numbers_of e = map (digits_value 10) e.arguments

abbrev pub number_at : Entry → ℕ → ℕ
number_at e place = slice_index (numbers_of e) place

-- ---- what entries give, the last one first

-- a line of this form has come
abbrev pub came : Form → List Entry → Bool
came f entries = list_any (λ (e : Entry). same_form f e.form) entries

-- the number at a place of the last line of a form; 0 without one
abbrev pub given : Form → ℕ → List Entry → ℕ
given f place [] = 0
given f place (e ∷ entries) = if same_form f e.form then number_at e place else given f place entries

abbrev pub head_of : List Entry → Head
head_of entries = record {
  roots = record { nx = given form.Roots 0 entries; ny = given form.Roots 1 entries; nz = given form.Roots 2 entries };
  side = given form.Side 0 entries;
  levels = given form.Levels 0 entries;
  ranks = given form.Ranks 0 entries;
  steps = given form.Steps 0 entries;
  snapshot = given form.Snapshot 0 entries;
  regrid = given form.Regrid 0 entries;
  refine = given form.Refine 0 entries;
  coarsen = given form.Coarsen 0 entries;
  flow = given form.Flow 0 entries;
  turns = given form.Turns 0 entries;
  shift = given form.Shift 0 entries;
}

-- the fill of seven numbers: the low corner, the high one, the value
abbrev pub fill_of : List ℕ → Fill
fill_of numbers = record {
  low = slice_index numbers 0 ∷ slice_index numbers 1 ∷ slice_index numbers 2 ∷ [];
  high = slice_index numbers 3 ∷ slice_index numbers 4 ∷ slice_index numbers 5 ∷ [];
  value = slice_index numbers 6;
}

-- the fills as they came
abbrev pub fills_of : List Entry → List Fill
fills_of [] = []
fills_of (e ∷ entries) = fills_of entries ++ (if same_form form.Fill e.form then fill_of (numbers_of e) ∷ [] else [])

-- the ranks of all orders, one order after the other
abbrev pub order_of : List Entry → List ℕ
order_of [] = []
order_of (e ∷ entries) = order_of entries ++ (if same_form form.Order e.form then numbers_of e else [])

-- how many events a rank has when it dies, if it does
abbrev pub death_of : ℕ → List Entry → Option ℕ
death_of rank [] = None
death_of rank (e ∷ entries) =
    if same_form form.Die e.form && (number_at e 0 == rank) then Some (number_at e 1) else death_of rank entries

-- the death of a rank, if it dies
abbrev pub listed : ℕ → Option ℕ → List (ℕ × ℕ)
listed rank None = []
listed rank (Some events) = (rank, events) ∷ []

-- the deaths by rising rank
abbrev pub deaths_of : List Entry → List (ℕ × ℕ)
deaths_of entries = flat_map (λ rank. listed rank (death_of rank entries)) (range_with_len 0 16)

-- the case that entries give
abbrev pub case_with : Head → List Fill → List (ℕ × ℕ) → List ℕ → Case
case_with head fills dies order = record {
  roots = head.roots;
  side = head.side;
  levels = head.levels;
  ranks = head.ranks;
  steps = head.steps;
  snapshot = head.snapshot;
  regrid = head.regrid;
  refine = head.refine;
  coarsen = head.coarsen;
  flow = head.flow;
  turns = head.turns;
  shift = head.shift;
  fills = fills;
  dies = dies;
  order = order;
}

abbrev pub case_of : List Entry → Case
case_of entries = case_with (head_of entries) (fills_of entries) (deaths_of entries) (order_of entries)
