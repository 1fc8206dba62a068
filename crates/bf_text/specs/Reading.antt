-- What bytes spell: a case, or a refusal.
use Rattle.std.specs.Prelude.{◌≡◌, ℕ, ◌+◌, nat_lt, if◌then◌else◌, List, [], ◌∷◌, length, Option, Some, None, Result, Ok, Err}
use Rattle.bf_case.specs.declared.case.Case.{Case}
use Rattle.bf_text.specs.declared.code.Code.{Code}
use Rattle.bf_text.specs.declared.code.Code.TheVariants as code
use Rattle.bf_text.specs.declared.code.Refusal.{Refusal}
use Rattle.bf_text.specs.declared.code.CaseFault.{CaseFault}
use Rattle.bf_text.specs.declared.code.CaseFault.TheVariants as fault
use Rattle.bf_text.specs.declared.form.Form.TheVariants as form
use Rattle.bf_text.specs.Lines.{lines_of}
use Rattle.bf_text.specs.Entries.{Entry, entries_from, came, case_of}
use Rattle.bf_text.specs.Faults.{known_of, cause_of}

-- the greatest length of an input, in bytes
abbrev pub input_limit : ℕ
input_limit = 1048576

abbrev pub refusal : ℕ → Code → Refusal
refusal line cause = record { line = line; code = cause }

-- a refusal where the line has a cause; else what follows says
abbrev pub refused_or : ℕ → Option Code → Result Case Refusal → Result Case Refusal
refused_or line (Some cause) next = Err (refusal line cause)
refused_or line None next = next

-- entries after those before them, which had no fault; `last` is the line after the last
unfoldable pub reading_after : ℕ → List Entry → List Entry → Result Case Refusal
reading_after last before [] = if came form.End before then Ok (case_of before) else Err (refusal last code.NoEnd)
reading_after last before (e ∷ entries) =
    refused_or e.line (cause_of (known_of before) e) (reading_after last (e ∷ before) entries)

-- the first line at fault is refused for the first of its causes; where none is at fault, the lines give the case
abbrev pub reading_of_lines : List (List ℕ) → Result Case Refusal
reading_of_lines lines = reading_after (length lines + 1) [] (entries_from 1 lines)

-- what an input spells
abbrev pub reading : List ℕ → Result Case Refusal
reading bytes = if nat_lt input_limit (length bytes) then Err (refusal 0 code.TooLong) else reading_of_lines (lines_of bytes)

-- the outcome of reading: exactly what the bytes spell, but for want of memory
abbrev pub IsReadingOf : Result Case Refusal → Result Case CaseFault → Type 0
IsReadingOf spelled (Ok c) = spelled ≡ Ok c
IsReadingOf spelled (Err (fault.Refused refusal)) = spelled ≡ Err refusal
IsReadingOf spelled (Err fault.Memory) = Unit {0}
