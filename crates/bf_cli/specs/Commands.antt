-- The commands, their words, and the cases that each serves.
use Rattle.std.specs.Prelude.{◌≡◌, ℕ, ◌==◌, Bool, true, List, [], ◌∷◌, codes, map}
use Rattle.std.specs.Borrow.{Bor}
use Rattle.bf_case.specs.declared.case.Case.{Case}
use Rattle.bf_cli.specs.declared.command.Command.{Command}
use Rattle.bf_cli.specs.declared.command.Command.TheVariants as commands

-- the words of a command line, and their texts
abbrev pub Words : Type 0
Words = List (Bor (List ℕ))

abbrev pub texts : Words → List (List ℕ)
texts words = map (λ (word : Bor (List ℕ)). word.now) words

-- the words of a command
abbrev pub words_of : Command → List (List ℕ)
words_of commands.One = codes "one" ∷ []
words_of commands.Drive = codes "drive" ∷ []

abbrev pub IsCommand : Words → Command → Type 0
IsCommand words command = texts words ≡ words_of command

-- the words of no command
abbrev pub IsUsage : Words → Type 0
IsUsage words = (command : Command) → IsCommand words command → ⊥

-- whether a command serves a case: one process serves all, ranks those with no regrid
abbrev pub serves : Command → Case → Bool
serves commands.One c = true
serves commands.Drive c = c.regrid == 0
