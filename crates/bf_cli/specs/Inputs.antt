-- What a command makes of the bytes of an input.
use Rattle.std.specs.Prelude.{◌≡◌, ℕ, if◌then◌else◌, List, Result, Ok, Err}
use Rattle.bf_case.specs.declared.case.Case.{Case}
use Rattle.bf_text.specs.declared.code.Refusal.{Refusal}
use Rattle.bf_text.specs.Codes.{number_of}
use Rattle.bf_text.specs.Reading.{reading}
use Rattle.bf_cli.specs.declared.command.Command.{Command}
use Rattle.bf_cli.specs.declared.input.Input.{Input}
use Rattle.bf_cli.specs.declared.input.Input.TheVariants as input
use Rattle.bf_cli.specs.Commands.{serves}

-- the case, where the command serves it; else that it doesn't, which is told of the whole input
abbrev pub if_served : Command → Case → Input
if_served command c = if serves command c then input.Accepted c else input.Refused 0 99

-- the case that was spelled, if it is served; where none was spelled, its refusal by the number of the cause
abbrev pub input_of : Command → Result Case Refusal → Input
input_of command (Ok c) = if_served command c
input_of command (Err refusal) = input.Refused refusal.line (number_of refusal.code)

abbrev pub input_for : Command → List ℕ → Input
input_for command bytes = input_of command (reading bytes)

-- the command runs this case
abbrev pub Accepts : Command → List ℕ → Case → Type 0
Accepts command bytes c = input_for command bytes ≡ input.Accepted c

-- the command runs none, and says so by this line and code
abbrev pub Refuses : Command → List ℕ → ℕ → ℕ → Type 0
Refuses command bytes line code = input_for command bytes ≡ input.Refused line code
