-- The world of a case that ranks have run.
use Rattle.std.specs.Prelude.{◌≡◌, ◌⊎◌, ℕ, List, Option, Some, is_some, IfSome, IsTrue}
use Rattle.bf_forest.specs.declared.setup.Setup.{Setup}
use Rattle.bf_msg.specs.declared.linked_block.LinkedBlock.{LinkedBlock}
use Rattle.bf_msg.specs.declared.message.Message.{Message}
use Rattle.bf_forest.specs.Setup.{case_of}
use Rattle.bf_core.specs.declared.outcome.Outcome.{Outcome}
use Rattle.bf_core.specs.declared.outcome.Outcome.TheVariants.{Finished, Memory}
use Rattle.bf_core.specs.States.{is_finished}
use Rattle.bf_world.specs.Runs.{is_journal}
use Rattle.bf_world.specs.Worlds.{View, core_after}
use Rattle.bf_drive.specs.Drives.{IsDriven}
use Rattle.bf_driven.specs.Losses.{EndsByDeaths}
use Rattle.bf_forest.specs.Goods.{IsGood}
use Rattle.bf_forest.specs.Meanings.{forest}
use Rattle.bf_cli.specs.declared.command.Command.TheVariants as commands
use Rattle.bf_cli.specs.Inputs.{Accepts}

-- what contracts see of it
abbrev pub ForestWorld : Type 0
ForestWorld = View Setup Message (List LinkedBlock)

-- how its run ended, if it did
abbrev pub outcome_of : ForestWorld → Option Outcome
outcome_of world = (core_after forest world.setup world.journal).outcome

-- each event was legal in its turn, the journal is one to which the case's order leads, each rank is dead or has ended, and the run has an end: it is lost
-- exactly where both holders of some block of the snapshot that was agreed last have died by the last decision
pub record HasRun (world : ForestWorld) : Type 0 where
  pub legal : IsTrue (is_journal forest world.setup world.journal)
  pub driven : IsDriven forest IsGood world.setup (case_of world.setup).order world.journal
  pub complete : IsTrue (is_finished (core_after forest world.setup world.journal))
  pub ended : IsTrue (is_some (outcome_of world))
  pub deaths : EndsByDeaths world.setup world.journal

-- its run ended for want of memory, or it has finished, and then the list of its leaves may find none
abbrev pub IsWanting : ForestWorld → Type 0
IsWanting world = (outcome_of world ≡ Some Memory) ⊎ (outcome_of world ≡ Some Finished)

-- a world is handed out, and its run ended so
abbrev pub EndsAs : Option ForestWorld → Outcome → Type 0
EndsAs world outcome = (w : ForestWorld) × (world ≡ Some w) × (outcome_of w ≡ Some outcome)

-- ranks have run the case of these bytes, where they are told
pub record IsWorldOf (left : Option (List ℕ)) (world : ForestWorld) : Type 0 where
  pub run : HasRun world
  pub its : IfSome left (λ bytes. Accepts commands.Drive bytes (case_of world.setup))
