-- What the program answers, why, and what is written of it.
use Rattle.std.specs.Prelude.{◌≡◌, ◌⊎◌, ℕ, ◌<◌, ◌≤◌, List, [], ◌∷◌, ◌++◌, Option, Some, None, codes, decimal, IfSome, Contains}
use Rattle.bf_edge.specs.Faults.{Rose}
use Rattle.bf_edge.specs.Sink.{appended, AppendsPrefix}
use Rattle.bf_case.specs.declared.case.Case.{Case}
use Rattle.bf_case.specs.Case.{IsValid}
use Rattle.bf_case.specs.Model.{model}
use Rattle.bf_case.specs.MapText.{map_text}
use Rattle.bf_forest.specs.Setup.{case_of}
use Rattle.bf_core.specs.declared.outcome.Outcome.TheVariants.{Finished, Lost, Memory}
use Rattle.bf_cli.specs.declared.command.Command.{Command}
use Rattle.bf_cli.specs.declared.command.Command.TheVariants as commands
use Rattle.bf_cli.specs.declared.status.Status.{Status}
use Rattle.bf_cli.specs.declared.status.Status.TheVariants as status
use Rattle.bf_cli.specs.Commands.{Words, IsCommand, IsUsage}
use Rattle.bf_cli.specs.Inputs.{Accepts, Refuses}
use Rattle.bf_cli.specs.Driven.{ForestWorld, IsWorldOf, outcome_of, IsWanting, EndsAs}
use Rattle.bf_cli.specs.Ends.{SourceEnds, SinkEnds, IsUnread, IsRead}

-- the number with which the program ends
abbrev pub number_of : Status → ℕ
number_of status.Ok = 0
number_of status.Usage = 2
number_of (status.Refused line code) = 3
number_of (status.Lost time home buddy) = 4
number_of status.Memory = 5
number_of status.ReadFault = 6
number_of status.WriteFault = 7

-- the line that tells an answer; the map is told by its text, and a fault in writing by nothing more
abbrev pub status_line : Status → List ℕ
status_line status.Ok = []
status_line status.Usage = codes "usage\n"
status_line (status.Refused line code) = (codes "refused line " ++ decimal line) ++ ((codes " code " ++ decimal code) ++ codes "\n")
status_line (status.Lost time home buddy) =
    (codes "lost time " ++ decimal time) ++ ((codes " home " ++ decimal home) ++ ((codes " buddy " ++ decimal buddy) ++ codes "\n"))
status_line status.Memory = codes "memory\n"
status_line status.ReadFault = codes "read fault\n"
status_line status.WriteFault = []

-- the text of a case's map after all steps
abbrev pub model_text : Case → List ℕ
model_text c = map_text (model c c.steps)

-- ---- why

-- the text is that of the map of a case, which the bytes spell where they are told; of ranks, that of the case that they have run to its end, and
-- their world is handed out
abbrev pub Prints : Command → Option (List ℕ) → List ℕ → Option ForestWorld → Type 0
Prints commands.One left text world =
    (c : Case) × IsValid c × IfSome left (λ bytes. Accepts commands.One bytes c) × (text ≡ model_text c) × (world ≡ None)
Prints commands.Drive left text world =
    (w : ForestWorld) × IsWorldOf left w × (outcome_of w ≡ Some Finished) × (text ≡ model_text (case_of w.setup)) × (world ≡ Some w)

-- the ranks' run is lost so, and their world is handed out
abbrev pub Loses : Command → Option (List ℕ) → (time home buddy : ℕ) → Option ForestWorld → Type 0
Loses commands.One left time home buddy world = ⊥
Loses commands.Drive left time home buddy world =
    (w : ForestWorld) × IsWorldOf left w × (outcome_of w ≡ Some (Lost time home buddy)) × (world ≡ Some w)

-- the world that may be handed out where memory was wanting: one whose run ended so, or has finished
abbrev pub HandsOut : Command → Option (List ℕ) → Option ForestWorld → Type 0
HandsOut commands.One left world = world ≡ None
HandsOut commands.Drive left world = IfSome world (λ w. IsWorldOf left w × IsWanting w)

-- why a command answers so to its source, with which text, and with which world
abbrev pub IsAnswerOf : Command → SourceEnds → Status → List ℕ → Option ForestWorld → Type 0
IsAnswerOf command source status.Ok text world = IsRead source × Prints command source.left text world
IsAnswerOf command source (status.Refused line code) text world =
    IsRead source × IfSome source.left (λ bytes. Refuses command bytes line code) × (text ≡ status_line (status.Refused line code)) × (world ≡ None)
IsAnswerOf command source (status.Lost time home buddy) text world =
    IsRead source × Loses command source.left time home buddy world × (text ≡ status_line (status.Lost time home buddy))
IsAnswerOf command source status.Memory text world =
    (source.faults_then ≡ source.faults) × HandsOut command source.left world × (text ≡ status_line status.Memory)
IsAnswerOf command source status.ReadFault text world =
    Rose source.faults source.faults_then × (text ≡ status_line status.ReadFault) × (world ≡ None)
IsAnswerOf command source status.Usage text world = ⊥
IsAnswerOf command source status.WriteFault text world = ⊥

-- the same for any words: those of no command have an answer of their own, for which nothing is read
pub data IsAnswer (words : Words) (source : SourceEnds) : Status → List ℕ → Option ForestWorld → Type 0 where
  no_command : IsUsage words → IsUnread source → IsAnswer words source status.Usage (status_line status.Usage) None
  of_command : {meant : Status} {text : List ℕ} {world : Option ForestWorld} (command : Command) → IsCommand words command
      → IsAnswerOf command source meant text world → IsAnswer words source meant text world

-- ---- what is written

-- the answer that was meant is given and its text was written whole, with no fault; or a fault came in writing it, and a front of its text is written
abbrev pub Tells : Status → List ℕ → Status → SinkEnds → Type 0
Tells meant text answer sink =
    ((answer ≡ meant) × (sink.written_then ≡ appended sink.written text) × (sink.faults_then ≡ sink.faults))
    ⊎ ((answer ≡ status.WriteFault) × AppendsPrefix sink.written sink.written_then text × Rose sink.faults sink.faults_then × (sink.faults ≤ sink.faults_then))

-- a call means an answer that has its cause, and tells it
pub record Answers (words : Words) (source : SourceEnds) (sink : SinkEnds) (world : Option ForestWorld) (answer : Status) : Type 0 where
  pub meant : Status
  pub text : List ℕ
  pub cause : IsAnswer words source meant text world
  pub told : Tells meant text answer sink

-- ---- when

-- a command was asked for, and this is so of the bytes that the source had
abbrev pub IsAsked : Words → SourceEnds → (Command → List ℕ → Type 0) → Type 0
IsAsked words source P = (command : Command) × ((bytes : List ℕ) × (IsCommand words command × (source.left ≡ Some bytes) × P command bytes))

-- a command comes to its map: one process always; ranks where nobody is to die, or where the run of the world that is handed out isn't lost
abbrev pub IsSafe : Command → Case → Option ForestWorld → Type 0
IsSafe commands.One c world = Unit {0}
IsSafe commands.Drive c world = (c.dies ≡ []) ⊎ ((time home buddy : ℕ) → EndsAs world (Lost time home buddy) → ⊥)

-- an answer is due. Where a world is handed out, a loss and want of memory are due exactly as its run ended
abbrev pub IsDue : Words → SourceEnds → SinkEnds → Option ForestWorld → Status → Type 0
IsDue words source sink world status.Usage = IsUsage words
IsDue words source sink world status.ReadFault = source.faults < source.faults_then
IsDue words source sink world (status.Refused line code) = IsAsked words source (λ command bytes. Refuses command bytes line code)
IsDue words source sink world status.Ok = IsAsked words source (λ command bytes. (c : Case) × Accepts command bytes c × IsSafe command c world)
IsDue words source sink world (status.Lost time home buddy) = EndsAs world (Lost time home buddy)
IsDue words source sink world status.Memory = EndsAs world Memory
IsDue words source sink world status.WriteFault = sink.faults < sink.faults_then

-- what may be answered in place of an answer that is due
abbrev pub in_place_of : Status → List Status
in_place_of status.Usage = status.WriteFault ∷ []
in_place_of status.ReadFault = status.WriteFault ∷ []
in_place_of (status.Refused line code) = status.Memory ∷ status.ReadFault ∷ status.WriteFault ∷ []
in_place_of status.Ok = status.Memory ∷ status.ReadFault ∷ status.WriteFault ∷ []
in_place_of (status.Lost time home buddy) = status.WriteFault ∷ []
in_place_of status.Memory = status.WriteFault ∷ []
in_place_of status.WriteFault = []

-- where an answer is due it comes, or one that may come in its place
abbrev pub AnswersDue : Words → SourceEnds → SinkEnds → Option ForestWorld → Status → Type 0
AnswersDue words source sink world answer = (due : Status) → IsDue words source sink world due → Contains (due ∷ in_place_of due) answer
