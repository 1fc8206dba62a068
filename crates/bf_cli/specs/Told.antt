-- What there is to tell, before it is told.
use Rattle.std.specs.Prelude.{◌≡◌, ◌⊎◌, ℕ, List, Option, Some, None}
use Rattle.bf_case.specs.MapText.{map_text}
use Rattle.bf_forest.specs.Setup.{case_of}
use Rattle.bf_core.specs.declared.outcome.Outcome.{Outcome}
use Rattle.bf_core.specs.declared.outcome.Outcome.TheVariants.{Finished, Lost, Memory}
use Rattle.bf_cli.specs.declared.status.Status.{Status}
use Rattle.bf_cli.specs.declared.status.Status.TheVariants as status
use Rattle.bf_cli.specs.declared.answer.Answer.{Answer}
use Rattle.bf_cli.specs.declared.answer.Answer.TheVariants as answers
use Rattle.bf_cli.specs.Answers.{status_line, model_text}
use Rattle.bf_cli.specs.Driven.{ForestWorld, outcome_of}

-- the status that is meant by a world whose run ended so, and the text that is to be written: its leaves once it has finished, or that memory was
-- wanting for their list; a loss as such; else that memory was wanting
abbrev pub IsMeantBy : ForestWorld → Option Outcome → Status → List ℕ → Type 0
IsMeantBy w (Some Finished) meant text =
    ((meant ≡ status.Ok) × (text ≡ model_text (case_of w.setup))) ⊎ ((meant ≡ status.Memory) × (text ≡ status_line status.Memory))
IsMeantBy w (Some (Lost time home buddy)) meant text =
    (meant ≡ status.Lost time home buddy) × (text ≡ status_line (status.Lost time home buddy))
IsMeantBy w (Some Memory) meant text = (meant ≡ status.Memory) × (text ≡ status_line status.Memory)
IsMeantBy w None meant text = (meant ≡ status.Memory) × (text ≡ status_line status.Memory)

-- the status that is meant, the text that is to be written, and the world that is handed out
abbrev pub IsMeant : Answer → Status → List ℕ → Option ForestWorld → Type 0
IsMeant (answers.Map map) meant text world = (meant ≡ status.Ok) × (text ≡ map_text map.leaves) × (world ≡ None)
IsMeant (answers.World w) meant text world = IsMeantBy w (outcome_of w) meant text × (world ≡ Some w)
IsMeant (answers.Line s) meant text world = (meant ≡ s) × (text ≡ status_line s) × (world ≡ None)

-- whichever of these is meant, it has its cause
abbrev pub IsCaused : (Status → List ℕ → Option ForestWorld → Type 0) → Answer → Type 0
IsCaused cause answer = (meant : Status) (text : List ℕ) (world : Option ForestWorld) → IsMeant answer meant text world → cause meant text world
