-- How each round is played.
use Rattle.std.specs.Prelude.{ℕ, ◌+◌, ◌%◌, ◌==◌, ◌&&◌, not, Bool, List, [], ◌++◌, map, filter, if◌then◌else◌}
use Rattle.std.specs.List.{list_any}
use Rattle.bf_buddy.specs.Members.{is_member, without}
use Rattle.bf_buddy.specs.Buddy.{buddy_of}
use Rattle.bf_program.specs.declared.epoch.Epoch.{Epoch}
use Rattle.bf_rounds.specs.Gathering.{Play}
use Rattle.bf_rounds.specs.Delivering.{Delivery, as_delivery}
use Rattle.bf_rounds.specs.Leading.{through}
use Rattle.bf_stages.specs.Moves.{Hand, move_play}
use Rattle.bf_stages.specs.Snapshots.{sees_paired, snapshot_play}
use Rattle.bf_beads.specs.declared.bead.Bead.{Bead}
use Rattle.bf_beads.specs.declared.bead.Link.{Link}
use Rattle.bf_beads.specs.declared.local.BeadLocal.{BeadLocal}
use Rattle.bf_beads.specs.declared.message.BeadMessage.{BeadMessage}
use Rattle.bf_beads.specs.declared.message.BeadMessage.TheVariants.{Told}
use Rattle.bf_beads.specs.declared.stage.Stage.{Stage}
use Rattle.bf_beads.specs.declared.stage.Stage.TheVariants.{Tell, Grow, Move, Snapshot, Over}
use Rattle.bf_beads.specs.Locals.{told_lens, moved_lens, copied_lens}
use Rattle.bf_beads.specs.Row.{bead_kind, grown}

-- whether a bead is linked with one of a rank
abbrev pub is_linked : (owner : ℕ) → Bead → Bool
is_linked owner bead = list_any (λ (link : Link). link.owner == owner) bead.links

-- whether one of a rank's beads is linked with one of another rank
unfoldable pub is_neighbor : (rank : ℕ) → List Bead → (other : ℕ) → Bool
is_neighbor rank beads other = not (other == rank) && list_any (is_linked other) beads

-- neighbours hear each other's beads, as far as they are linked
abbrev pub tell_play : Play (Hand (List Bead) Bead) (List Bead)
tell_play = record {
  peers = λ members hand. filter (is_neighbor hand.rank hand.items) members;
  tell = λ hand to. filter (is_linked to) hand.items;
  hear = λ hand peer msg. record hand { known = hand.known ++ msg };
  finish = λ hand. hand;
}

-- beads grow, and what was heard is let go
abbrev pub grow_play : (time : ℕ) → Delivery BeadLocal BeadMessage
grow_play time = record {
  peers = λ members local. [];
  out = λ local to. (local, Told []);
  hear = λ local peer msg. local;
  finish = λ local. record local { beads = map (grown time) local.beads; heard = [] };
}

-- whom a bead goes to: every other one to the next member
unfoldable pub goes_to : (members : List ℕ) → (time number owner : ℕ) → ℕ
goes_to members time number owner = if (number + time) % 2 == 0 && is_member members owner then buddy_of members owner 0 else owner

-- a link to a bead that went, and a bead whose links are such
abbrev pub relinked_one : (members : List ℕ) → (time : ℕ) → Link → Link
relinked_one members time link = record link { owner = goes_to members time link.number link.owner }

abbrev pub relinked : (members : List ℕ) → (time : ℕ) → Bead → Bead
relinked members time bead = record bead { links = map (relinked_one members time) bead.links }

-- beads go to other ranks, and then all links follow
abbrev pub bead_move : (members : List ℕ) → (time : ℕ) → Delivery (Hand (List Bead) Bead) (List Bead)
bead_move members time = move_play bead_kind.first (λ members hand. without members hand.rank) (λ rank known bead. goes_to members time bead.number rank) (λ rank known bead. relinked members time bead)

-- behind all rounds nobody talks and nothing changes
abbrev pub idle_play : Delivery BeadLocal BeadMessage
idle_play = record {
  peers = λ members local. [];
  out = λ local to. (local, Told []);
  hear = λ local peer msg. local;
  finish = λ local. local;
}

abbrev pub play_of : (shift : ℕ) → Epoch → Stage → Delivery BeadLocal BeadMessage
play_of shift epoch (Tell time) = through told_lens (as_delivery tell_play)
play_of shift epoch (Grow time) = grow_play time
play_of shift epoch (Move time) = through moved_lens (bead_move epoch.members time)
play_of shift epoch Snapshot = through copied_lens (as_delivery (snapshot_play (sees_paired shift) shift epoch))
play_of shift epoch Over = idle_play
