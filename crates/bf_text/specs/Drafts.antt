-- What is kept of the lines that were read.
use Rattle.std.specs.Prelude.{◌≡◌, ℕ, ◌+◌, ◌≤◌, nat_lt, min, Bool, true, false, ◌&&◌, ◌||◌, if◌then◌else◌, List, [], ◌∷◌, ◌++◌, slice_index, slice_index_or, slice_set, Option, Some, None, is_some, replicate, Result, Ok, Err}
use Rattle.std.specs.List.{list_all, flat_map, range_with_len}
use Rattle.bf_case.specs.declared.case.Case.{Case}
use Rattle.bf_case.specs.declared.case.Fill.{Fill}
use Rattle.bf_text.specs.declared.code.Code.TheVariants as code
use Rattle.bf_text.specs.declared.code.CaseFault.{CaseFault}
use Rattle.bf_text.specs.declared.code.CaseFault.TheVariants as fault
use Rattle.bf_text.specs.declared.form.Form.{Form}
use Rattle.bf_text.specs.declared.form.Form.TheVariants as form
use Rattle.bf_text.specs.declared.head.Head.{Head}
use Rattle.bf_text.specs.declared.outline.Outline.{Outline}
use Rattle.bf_text.specs.declared.draft.Draft.{Draft}
use Rattle.bf_text.specs.Lines.{is_plain, content_of, words_of}
use Rattle.bf_text.specs.Forms.{form_of, place_of, same_form, is_heading}
use Rattle.bf_text.specs.Entries.{Entry, numbers_of, fill_of, listed, case_with}
use Rattle.bf_text.specs.Faults.{Known, cause_of}
use Rattle.bf_text.specs.Heads.{IsSmall}
use Rattle.bf_text.specs.Reading.{refusal}

-- the headings whose places are below `next` have come
abbrev pub came_below : ℕ → Form → Bool
came_below next f = is_heading f && nat_lt (place_of f) next

abbrev pub dies_in : List (Option ℕ) → ℕ → Bool
dies_in deaths rank = is_some (slice_index_or deaths rank None)

-- what an outline tells of the next line
abbrev pub known_in : Outline → Known
known_in o = record { came = came_below o.next; ended = o.ended; head = o.head; dies = dies_in o.deaths }

-- a line by its content, and by the bytes after its first word
abbrev pub entry_in : ℕ → List ℕ → Form → List ℕ → Entry
entry_in line content f arguments = record { line = line; is_text = list_all is_plain content; form = f; arguments = words_of arguments }

-- the head with the numbers of one more line
abbrev pub head_with : Head → Form → List ℕ → Head
head_with head form.Roots numbers = record head { roots = record { nx = slice_index numbers 0; ny = slice_index numbers 1; nz = slice_index numbers 2 } }
head_with head form.Side numbers = record head { side = slice_index numbers 0 }
head_with head form.Levels numbers = record head { levels = slice_index numbers 0 }
head_with head form.Ranks numbers = record head { ranks = slice_index numbers 0 }
head_with head form.Steps numbers = record head { steps = slice_index numbers 0 }
head_with head form.Snapshot numbers = record head { snapshot = slice_index numbers 0 }
head_with head form.Regrid numbers = record head { regrid = slice_index numbers 0 }
head_with head form.Refine numbers = record head { refine = slice_index numbers 0 }
head_with head form.Coarsen numbers = record head { coarsen = slice_index numbers 0 }
head_with head form.Flow numbers = record head { flow = slice_index numbers 0 }
head_with head form.Turns numbers = record head { turns = slice_index numbers 0 }
head_with head form.Shift numbers = record head { shift = slice_index numbers 0 }
head_with head f numbers = head

abbrev pub deaths_with : List (Option ℕ) → Form → List ℕ → List (Option ℕ)
deaths_with deaths form.Die numbers = slice_set deaths (slice_index numbers 0) (Some (slice_index numbers 1))
deaths_with deaths f numbers = deaths

abbrev pub next_after : ℕ → Form → ℕ
next_after next f = if is_heading f then place_of f + 1 else next

-- nothing has come
abbrev pub blank_head : Head
blank_head = record {
  roots = record { nx = 0; ny = 0; nz = 0 };
  side = 0;
  levels = 0;
  ranks = 0;
  steps = 0;
  snapshot = 0;
  regrid = 0;
  refine = 0;
  coarsen = 0;
  flow = 0;
  turns = 0;
  shift = 0;
}

abbrev pub blank_outline : Outline
blank_outline = record { next = 0; ended = false; head = blank_head; deaths = replicate 16 None }

-- the outline with one more line
abbrev pub outline_with : Outline → Form → List ℕ → Outline
outline_with o f numbers = record {
  next = next_after o.next f;
  ended = same_form form.End f || o.ended;
  head = head_with o.head f numbers;
  deaths = deaths_with o.deaths f numbers;
}

-- the place up to which all headings belong before a line of this form
abbrev pub due_place : Form → ℕ
due_place form.Other = 0
due_place f = min (place_of f) 13

abbrev pub fills_in : Form → List ℕ → List Fill
fills_in f numbers = if same_form form.Fill f then fill_of numbers ∷ [] else []

abbrev pub order_in : Form → List ℕ → List ℕ
order_in f numbers = if same_form form.Order f then numbers else []

-- the deaths by rising rank
abbrev pub deaths_in : List (Option ℕ) → List (ℕ × ℕ)
deaths_in deaths =
    flat_map (λ rank. listed rank (slice_index_or deaths rank None)) (range_with_len 0 16)

-- the outline is in its bounds
pub record IsBounded (o : Outline) : Type 0 where
  pub next : o.next ≤ 13
  pub small : IsSmall o.head

-- the draft with one more line of this form
pub record AddsLine (old new : Draft) (f : Form) (numbers : List ℕ) : Type 0 where
  pub outline : new.outline ≡ outline_with old.outline f numbers
  pub fills : new.fills.items ≡ old.fills.items ++ fills_in f numbers
  pub order : new.order.items ≡ old.order.items ++ order_in f numbers

-- the entry has no fault, and the draft has taken it
pub record TakesEntry (old new : Draft) (e : Entry) : Type 0 where
  pub sound : cause_of (known_in old.outline) e ≡ None
  pub adds : AddsLine old new e.form (numbers_of e)

-- what went wrong is the entry's fault, or want of memory
abbrev pub IsFaultOf : Known → Entry → CaseFault → Type 0
IsFaultOf known e (fault.Refused r) = (cause_of known e ≡ Some r.code) × (r.line ≡ e.line)
IsFaultOf known e fault.Memory = Unit {0}

pub record IsSameDraft (old new : Draft) : Type 0 where
  pub outline : new.outline ≡ old.outline
  pub fills : new.fills.items ≡ old.fills.items
  pub order : new.order.items ≡ old.order.items

-- the draft has taken the words of a line, if it has any
abbrev pub TakesWords : Draft → Draft → ℕ → Bool → List (List ℕ) → Type 0
TakesWords old new line is_text [] = IsSameDraft old new
TakesWords old new line is_text (word ∷ words) =
    TakesEntry old new (record { line = line; is_text = is_text; form = form_of word; arguments = words })

abbrev pub IsFaultOfWords : Known → ℕ → Bool → List (List ℕ) → CaseFault → Type 0
IsFaultOfWords known line is_text [] f = f ≡ fault.Memory
IsFaultOfWords known line is_text (word ∷ words) f =
    IsFaultOf known (record { line = line; is_text = is_text; form = form_of word; arguments = words }) f

abbrev pub TakesLine : Draft → Draft → ℕ → List ℕ → Type 0
TakesLine old new number line = TakesWords old new number (list_all is_plain (content_of line)) (words_of (content_of line))

abbrev pub IsFaultOfLine : Known → ℕ → List ℕ → CaseFault → Type 0
IsFaultOfLine known number line f = IsFaultOfWords known number (list_all is_plain (content_of line)) (words_of (content_of line)) f

-- what comes of a draft once all lines are read
abbrev pub IsFinished : Draft → ℕ → Result Case CaseFault → Type 0
IsFinished d last (Ok c) =
    (d.outline.ended ≡ true) × (c ≡ case_with d.outline.head d.fills.items (deaths_in d.outline.deaths) d.order.items)
IsFinished d last (Err (fault.Refused r)) = (d.outline.ended ≡ false) × (r ≡ refusal last code.NoEnd)
IsFinished d last (Err fault.Memory) = Unit {0}
