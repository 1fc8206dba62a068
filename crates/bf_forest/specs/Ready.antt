-- What a rank's blocks must be to tell others, and to be stepped.
use Rattle.std.specs.Prelude.{◌≡◌, ℕ, ◌<◌, List, ◌++◌, length, get_or, map, All, AllPairs}
use Rattle.bf_id.specs.Id.{BlockId, InShape}
use Rattle.bf_id.specs.Walk.{IsBefore}
use Rattle.bf_case.specs.declared.case.Case.{Case}
use Rattle.bf_block.specs.Block.{map_at}
use Rattle.bf_links.specs.declared.link.Link.{Link}
use Rattle.bf_ghost.specs.Strips.{StripValue}
use Rattle.bf_ghost.specs.Filling.{AreStripsFor}
use Rattle.bf_ghost.specs.Telling.{strips_for}
use Rattle.bf_msg.specs.declared.linked_block.LinkedBlock.{LinkedBlock}
use Rattle.bf_forest.specs.declared.local.ForestLocal.{ForestLocal}
use Rattle.bf_forest.specs.declared.stage.Stage.{Stage}
use Rattle.bf_forest.specs.declared.stage.Stage.TheVariants.{Step, Snapshot, Over}
use Rattle.bf_forest.specs.ModelBlocks.{ready, IsBlockOn}
use Rattle.bf_forest.specs.Rounds.{strips_to}

-- all leaves that a block is linked with lie in the domain
abbrev pub AreLinkedInside : LinkedBlock → Type 0
AreLinkedInside b = All (λ (link : Link). InShape b.block.case.roots link.id) b.links

-- so all of a rank's blocks
abbrev pub CanTell : ForestLocal → Type 0
CanTell local = All AreLinkedInside local.blocks

-- what a message needs
abbrev pub CanSend : Stage → ForestLocal → Type 0
CanSend (Step time) local = CanTell local
CanSend Snapshot local = Unit {0}
CanSend Over local = Unit {0}

-- blocks by rising id
abbrev pub AreOrdered : List LinkedBlock → Type 0
AreOrdered blocks = AllPairs (λ (a b : LinkedBlock). IsBefore a.block.id b.block.id) blocks

-- where among blocks the one of an id stands, and that there is none
abbrev pub StandsAt : List LinkedBlock → BlockId → ℕ → Type 0
StandsAt blocks id place = (place < length blocks) × ((default : LinkedBlock) → (get_or blocks place default).block.id ≡ id)

abbrev pub StandsNowhere : List LinkedBlock → BlockId → Type 0
StandsNowhere blocks id = (place : ℕ) (default : LinkedBlock) → place < length blocks → (get_or blocks place default).block.id ≡ id → ⊥

-- a block of the model from which a step goes, to which all leaves that share a face with it tell what lies there
pub record CanStep (c : Case) (time : ℕ) (strips : List StripValue) (b : LinkedBlock) : Type 0 where
  pub is : IsBlockOn c (ready c time) b.block
  pub told : AreStripsFor c.roots (map_at c (ready c time)) b.block.id (strips_for b.block.id strips)

-- the same of a block and the strips that are for it
pub record IsBetween (c : Case) (time : ℕ) (strips : List StripValue) (b : LinkedBlock) : Type 0 where
  pub is : IsBlockOn c (ready c time) b.block
  pub told : AreStripsFor c.roots (map_at c (ready c time)) b.block.id strips
  pub more : time < c.steps

abbrev pub IsPairBetween : Case → (time : ℕ) → LinkedBlock × List StripValue → Type 0
IsPairBetween c time pair = IsBetween c time pair.1 pair.0

-- what each block is told by some strips
abbrev pub groups_of : List StripValue → List LinkedBlock → List (List StripValue)
groups_of strips blocks = map (λ (b : LinkedBlock). strips_for b.block.id strips) blocks

-- all that a step needs; and the run goes on
pub record IsReady (c : Case) (time : ℕ) (local : ForestLocal) : Type 0 where
  pub tells : CanTell local
  pub ordered : AreOrdered local.blocks
  pub told : All (CanStep c time (local.heard ++ strips_to local.rank local.blocks)) local.blocks
  pub more : time < c.steps

-- what the end of a round needs
abbrev pub CanFinish : Case → Stage → ForestLocal → Type 0
CanFinish c (Step time) local = IsReady c time local
CanFinish c Snapshot local = Unit {0}
CanFinish c Over local = Unit {0}
