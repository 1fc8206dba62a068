-- How each round is played.
use Rattle.std.specs.Prelude.{ℕ, ◌==◌, ◌&&◌, not, Bool, List, [], ◌++◌, map, filter, None}
use Rattle.std.specs.List.{list_any, flat_map}
use Rattle.bf_program.specs.declared.epoch.Epoch.{Epoch}
use Rattle.bf_rounds.specs.Gathering.{Play}
use Rattle.bf_rounds.specs.Delivering.{Delivery, as_delivery}
use Rattle.bf_rounds.specs.Leading.{through}
use Rattle.bf_stages.specs.Moves.{Hand}
use Rattle.bf_stages.specs.Snapshots.{sees_paired, snapshot_play}
use Rattle.bf_case.specs.declared.case.Case.{Case}
use Rattle.bf_id.specs.Id.{BlockId}
use Rattle.bf_block.specs.Block.{leaf_of, kept_block, stepped_block}
use Rattle.bf_links.specs.declared.link.Link.{Link}
use Rattle.bf_links.specs.Links.{is_owner}
use Rattle.bf_ghost.specs.Strips.{StripValue}
use Rattle.bf_ghost.specs.Surrounding.{surrounding}
use Rattle.bf_ghost.specs.Telling.{strips_from, strips_for}
use Rattle.bf_msg.specs.declared.linked_block.LinkedBlock.{LinkedBlock}
use Rattle.bf_msg.specs.declared.message.Message.{Message}
use Rattle.bf_msg.specs.declared.message.Message.TheVariants.{Snapshot as SnapshotMessage}
use Rattle.bf_forest.specs.declared.local.ForestLocal.{ForestLocal}
use Rattle.bf_forest.specs.declared.stage.Stage.{Stage}
use Rattle.bf_forest.specs.declared.stage.Stage.TheVariants.{Step, Snapshot, Over}
use Rattle.bf_forest.specs.Locals.{step_lens, snapshot_lens}

-- whether a block is linked with one of a rank
abbrev pub is_linked : (owner : ℕ) → LinkedBlock → Bool
is_linked owner b = is_owner b.links owner

-- whether one of a rank's blocks is linked with one of another rank
unfoldable pub is_neighbor : (rank : ℕ) → List LinkedBlock → (other : ℕ) → Bool
is_neighbor rank blocks other = not (other == rank) && list_any (is_linked other) blocks

-- the blocks of a rank with which a block is linked
abbrev pub linked_to : (owner : ℕ) → LinkedBlock → List BlockId
linked_to owner b = map (λ (link : Link). link.id) (filter (λ (link : Link). link.owner == owner) b.links)

-- what a block tells the blocks of a rank: a strip for each that is linked with it and shares a face with it
abbrev pub strips_of : (to : ℕ) → LinkedBlock → List StripValue
strips_of to b = strips_from b.block.case.roots (leaf_of b.block) (linked_to to b)

-- what a rank's blocks tell those of a rank
unfoldable pub strips_to : (to : ℕ) → List LinkedBlock → List StripValue
strips_to to blocks = flat_map (strips_of to) blocks

-- a block one step later, between what it is told
abbrev pub stepped_between : List StripValue → LinkedBlock → LinkedBlock
stepped_between strips b = record b { block = stepped_block (kept_block b.block) (surrounding b.block.cells strips) }

abbrev pub stepped_pair : LinkedBlock × List StripValue → LinkedBlock
stepped_pair pair = stepped_between pair.1 pair.0

-- and between those of some strips that are for it
abbrev pub stepped_by : List StripValue → LinkedBlock → LinkedBlock
stepped_by strips b = stepped_between (strips_for b.block.id strips) b

-- a rank's blocks one step later, between what other ranks told them and what they tell each other
unfoldable pub stepped_all : (rank : ℕ) → (heard : List StripValue) → List LinkedBlock → List LinkedBlock
stepped_all rank heard blocks = map (stepped_by (heard ++ strips_to rank blocks)) blocks

-- neighbours tell each other's blocks what lies beside them, and then all blocks are stepped
abbrev pub step_play : Play (Hand (List StripValue) LinkedBlock) (List StripValue)
step_play = record {
  peers = λ members hand. filter (is_neighbor hand.rank hand.items) members;
  tell = λ hand to. strips_to to hand.items;
  hear = λ hand peer msg. record hand { known = hand.known ++ msg };
  finish = λ hand. record hand { known = []; items = stepped_all hand.rank hand.known hand.items };
}

-- behind all rounds nobody talks and nothing changes
abbrev pub idle_play : Delivery ForestLocal Message
idle_play = record {
  peers = λ members local. [];
  out = λ local to. (local, SnapshotMessage None);
  hear = λ local peer msg. local;
  finish = λ local. local;
}

-- in the snapshot's round a rank talks to its buddy and to the one whose buddy it is
abbrev pub play_of : Case → Epoch → Stage → Delivery ForestLocal Message
play_of c epoch (Step time) = through step_lens (as_delivery step_play)
play_of c epoch Snapshot = through snapshot_lens (as_delivery (snapshot_play (sees_paired c.shift) c.shift epoch))
play_of c epoch Over = idle_play
