-- What the first word of a line asks for: which words follow, and where the line may stand.
use Rattle.std.specs.Prelude.{ℕ, ◌==◌, ◌%◌, nat_le, Bool, false, ◌&&◌, if◌then◌else◌, List, [], ◌∷◌, codes, length, slice_index}
use Rattle.std.specs.List.{list_all, zip}
use Rattle.std.specs.Str.{bytes_eq}
use Rattle.bf_text.specs.declared.form.Range.{Range}
use Rattle.bf_text.specs.declared.form.Form.{Form}
use Rattle.bf_text.specs.declared.form.Form.TheVariants as form

-- the form that a word asks for
abbrev pub form_of : List ℕ → Form
form_of word =
    if bytes_eq word (codes "forest") then form.Forest
    else if bytes_eq word (codes "roots") then form.Roots
    else if bytes_eq word (codes "side") then form.Side
    else if bytes_eq word (codes "levels") then form.Levels
    else if bytes_eq word (codes "ranks") then form.Ranks
    else if bytes_eq word (codes "steps") then form.Steps
    else if bytes_eq word (codes "snapshot") then form.Snapshot
    else if bytes_eq word (codes "regrid") then form.Regrid
    else if bytes_eq word (codes "refine") then form.Refine
    else if bytes_eq word (codes "coarsen") then form.Coarsen
    else if bytes_eq word (codes "flow") then form.Flow
    else if bytes_eq word (codes "turns") then form.Turns
    else if bytes_eq word (codes "shift") then form.Shift
    else if bytes_eq word (codes "fill") then form.Fill
    else if bytes_eq word (codes "die") then form.Die
    else if bytes_eq word (codes "order") then form.Order
    else if bytes_eq word (codes "end") then form.End
    else form.Other

-- the place of a form in their order: the header, the keys, the body, the end
abbrev pub place_of : Form → ℕ
place_of form.Forest = 0
place_of form.Roots = 1
place_of form.Side = 2
place_of form.Levels = 3
place_of form.Ranks = 4
place_of form.Steps = 5
place_of form.Snapshot = 6
place_of form.Regrid = 7
place_of form.Refine = 8
place_of form.Coarsen = 9
place_of form.Flow = 10
place_of form.Turns = 11
place_of form.Shift = 12
place_of form.Fill = 13
place_of form.Die = 14
place_of form.Order = 15
place_of form.End = 16
place_of form.Other = 17

abbrev pub same_form : Form → Form → Bool
same_form f g = place_of f == place_of g

-- the header and the keys stand in a case once, in their order
abbrev pub is_heading : Form → Bool
is_heading f = nat_le (place_of f) 12

abbrev pub headings : List Form
headings =
    form.Forest ∷ form.Roots ∷ form.Side ∷ form.Levels ∷ form.Ranks ∷ form.Steps ∷ form.Snapshot ∷ form.Regrid
    ∷ form.Refine ∷ form.Coarsen ∷ form.Flow ∷ form.Turns ∷ form.Shift ∷ []

abbrev pub up_to : ℕ → Range
up_to most = record { least = 0; greatest = most }

abbrev pub from_to : ℕ → ℕ → Range
from_to low high = record { least = low; greatest = high }

-- any number of 32 bits
abbrev pub word_range : Range
word_range = up_to 4294967295

-- the ranges of the numbers that follow a form's word; an order has any number of ranks
abbrev pub ranges_of : Form → List Range
ranges_of form.Forest = word_range ∷ []
ranges_of form.Roots = from_to 1 16 ∷ from_to 1 16 ∷ from_to 1 16 ∷ []
ranges_of form.Side = from_to 2 16 ∷ []
ranges_of form.Levels = up_to 4 ∷ []
ranges_of form.Ranks = from_to 1 16 ∷ []
ranges_of form.Steps = up_to 128 ∷ []
ranges_of form.Snapshot = from_to 1 128 ∷ []
ranges_of form.Regrid = up_to 128 ∷ []
ranges_of form.Refine = word_range ∷ []
ranges_of form.Coarsen = word_range ∷ []
ranges_of form.Flow = up_to 8 ∷ []
ranges_of form.Turns = up_to 8 ∷ []
ranges_of form.Shift = up_to 1000 ∷ []
ranges_of form.Fill = word_range ∷ word_range ∷ word_range ∷ word_range ∷ word_range ∷ word_range ∷ word_range ∷ []
ranges_of form.Die = word_range ∷ word_range ∷ []
ranges_of form.Order = []
ranges_of form.End = []
ranges_of form.Other = []

-- so many words may follow the form's word
abbrev pub takes : Form → ℕ → Bool
takes form.Order count = nat_le 1 count
takes form.Other count = false
takes f count = count == length (ranges_of f)

abbrev pub is_within : Range → ℕ → Bool
is_within range n = nat_le range.least n && nat_le n range.greatest

-- each number is in the range of its place
abbrev pub are_within : List Range → List ℕ → Bool
are_within ranges numbers = list_all (λ (p : Range × ℕ). is_within p.0 p.1) (zip ranges numbers)

-- the numbers are in the ranges of the form; a side is even too
abbrev pub fits : Form → List ℕ → Bool
fits form.Order numbers = list_all (is_within word_range) numbers
fits form.Side numbers = are_within (ranges_of form.Side) numbers && (slice_index numbers 0 % 2 == 0)
fits f numbers = are_within (ranges_of f) numbers
