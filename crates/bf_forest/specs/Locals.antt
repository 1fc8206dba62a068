-- What of a local and of a message a round works on.
use Rattle.std.specs.Prelude.{List, [], Option, None}
use Rattle.bf_parts.specs.Views.{View}
use Rattle.bf_rounds.specs.Leading.{Lens}
use Rattle.bf_stages.specs.Moves.{Hand}
use Rattle.bf_ghost.specs.Strips.{StripValue}
use Rattle.bf_msg.specs.declared.linked_block.LinkedBlock.{LinkedBlock}
use Rattle.bf_msg.specs.declared.message.Message.{Message}
use Rattle.bf_msg.specs.declared.message.Message.TheVariants.{Step as StepMessage, Snapshot as SnapshotMessage, Force, May, Merges}
use Rattle.bf_forest.specs.declared.local.ForestLocal.{ForestLocal}

-- the strips of a message, and the part of a snapshot in it; the messages of a round are all of its kind
abbrev pub strips_in : Message → List StripValue
strips_in (StepMessage strips) = strips
strips_in (SnapshotMessage part) = []
strips_in (Force ids) = []
strips_in (May ids) = []
strips_in (Merges ids) = []

abbrev pub part_in : Message → Option (List LinkedBlock)
part_in (StepMessage strips) = None
part_in (SnapshotMessage part) = part
part_in (Force ids) = None
part_in (May ids) = None
part_in (Merges ids) = None

-- a local but for what it has heard, and the local of that and of what it has heard
abbrev pub view_in : ForestLocal → View LinkedBlock
view_in local = record { rank = local.rank; items = local.blocks; active = local.buffers.active; spare = local.buffers.spare }

abbrev pub local_with : View LinkedBlock → (heard : List StripValue) → ForestLocal
local_with view heard = record { rank = view.rank; blocks = view.items; heard = heard; buffers = record { active = view.active; spare = view.spare } }

-- the blocks at hand: a rank's own, and the strips that it has heard
abbrev pub hand_in : ForestLocal → Hand (List StripValue) LinkedBlock
hand_in local = record { rank = local.rank; known = local.heard; items = local.blocks }

abbrev pub with_hand : ForestLocal → Hand (List StripValue) LinkedBlock → ForestLocal
with_hand local hand = record local { rank = hand.rank; blocks = hand.items; heard = hand.known }

abbrev pub step_lens : Lens ForestLocal (Hand (List StripValue) LinkedBlock) Message (List StripValue)
step_lens = record { take = hand_in; give = with_hand; wrap = StepMessage; unwrap = strips_in }

abbrev pub snapshot_lens : Lens ForestLocal (View LinkedBlock) Message (Option (List LinkedBlock))
snapshot_lens = record { take = view_in; give = λ local view. local_with view local.heard; wrap = SnapshotMessage; unwrap = part_in }
