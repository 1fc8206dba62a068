-- Good vectors of locals: all that can differ between two at one round of one epoch is who owns which bead, and who has which of the agreed snapshot.
use Rattle.std.specs.Prelude.{◌≡◌, not, nat_lt, if◌then◌else◌, ℕ, ◌+◌, List, [], filter}
use Rattle.bf_buddy.specs.Members.{without}
use Rattle.bf_program.specs.declared.epoch.Epoch.{Epoch}
use Rattle.bf_parts.specs.Leaves.{Leaves, part_of, side_at}
use Rattle.bf_parts.specs.Sides.{bare}
use Rattle.bf_parts.specs.Spreads.{Trio}
use Rattle.bf_rounds.specs.Canonical.{IsTold}
use Rattle.bf_rounds.specs.Courses.{Course}
use Rattle.bf_rounds.specs.Gathering.{gathered, gathering}
use Rattle.bf_rounds.specs.Leading.{alone, lifted}
use Rattle.bf_stages.specs.Moves.{Hand, move_course}
use Rattle.bf_stages.specs.Stages.{World, telling_of, Staging}
use Rattle.bf_stages.specs.Snapshots.{sees_paired, snapshot_course}
use Rattle.bf_beads.specs.declared.bead.Bead.{Bead}
use Rattle.bf_beads.specs.declared.local.BeadLocal.{BeadLocal}
use Rattle.bf_beads.specs.declared.message.BeadMessage.{BeadMessage}
use Rattle.bf_beads.specs.declared.message.BeadMessage.TheVariants.{Told, Moved, Copied}
use Rattle.bf_beads.specs.declared.setup.BeadSetup.{BeadSetup}
use Rattle.bf_beads.specs.declared.stage.Stage.{Stage}
use Rattle.bf_beads.specs.declared.stage.Stage.TheVariants.{Tell, Grow, Move, Snapshot, Over}
use Rattle.bf_beads.specs.Locals.{view_in, local_with}
use Rattle.bf_beads.specs.Meanings.{beads}
use Rattle.bf_beads.specs.Rounds.{is_linked, is_neighbor, tell_play, goes_to, play_of}
use Rattle.bf_beads.specs.Row.{row, bead_at, beads_at, bead_kind}
use Rattle.bf_stages.specs.Plans.{IsShort, stages_of, stage_of, rounds_of}
use Rattle.bf_beads.specs.Stages.{bead_plan, is_made}

-- the beads at the beginning of a stage
abbrev pub leaves_of : (count : ℕ) → Epoch → Stage → Leaves ℕ Bead
leaves_of count epoch (Tell time) = beads_at count time
leaves_of count epoch (Grow time) = beads_at count time
leaves_of count epoch (Move time) = beads_at count (time + 1)
leaves_of count epoch Snapshot = beads_at count epoch.target
leaves_of count epoch Over = beads_at count epoch.target

-- what a rank has heard of its neighbours' beads
unfoldable pub heard_at : (count time : ℕ) → (members : List ℕ) → (owner : ℕ → ℕ) → (rank : ℕ) → List Bead
heard_at count time members owner rank =
    gathered (λ peer msg. msg) (λ from to. filter (is_linked to) (part_of (beads_at count time) owner from)) rank
    (filter (is_neighbor rank (part_of (beads_at count time) owner rank)) members)

abbrev pub work_of : (count : ℕ) → Epoch → Stage → (owner : ℕ → ℕ) → (rank : ℕ) → List Bead
work_of count epoch (Tell time) owner rank = []
work_of count epoch (Grow time) owner rank = heard_at count time epoch.members owner rank
work_of count epoch (Move time) owner rank = []
work_of count epoch Snapshot owner rank = []
work_of count epoch Over owner rank = []

-- who owns which bead after a stage
abbrev pub moved_of : Epoch → Stage → (owner : ℕ → ℕ) → ℕ → ℕ
moved_of epoch (Tell time) owner = owner
moved_of epoch (Grow time) owner = owner
moved_of epoch (Move time) owner = λ number. goes_to epoch.members time number (owner number)
moved_of epoch Snapshot owner = owner
moved_of epoch Over owner = owner

-- a rank's hand at a time, with what it has heard
abbrev pub hand_at : (count time : ℕ) → (owner : ℕ → ℕ) → (rank : ℕ) → (heard : List Bead) → Hand (List Bead) Bead
hand_at count time owner rank heard = record { rank = rank; known = heard; items = part_of (beads_at count time) owner rank }

-- a hand in a local, before the new snapshot is made
abbrev pub local_of_hand : (count shift : ℕ) → Epoch → World ℕ → (rank : ℕ) → Hand (List Bead) Bead → BeadLocal
local_of_hand count shift epoch world rank hand = record {
  rank = hand.rank;
  beads = hand.items;
  heard = hand.known;
  active = side_at epoch.time epoch.homes shift (beads_at count epoch.time) world.home rank;
  spare = bare;
}

-- the courses of the rounds
abbrev pub tell_course : (count : ℕ) → Epoch → (time : ℕ) → (owner : ℕ → ℕ) → Course (Hand (List Bead) Bead) (List Bead)
tell_course count epoch time owner = gathering tell_play (λ peer msg. msg) (hand_at count time owner) epoch.members (λ rank. hand_at count time owner rank [])

abbrev pub moves_course : (count : ℕ) → Epoch → (time : ℕ) → (owner : ℕ → ℕ) → Course (Hand (List Bead) Bead) (List Bead)
moves_course count epoch time owner =
    move_course bead_kind.first (row count) (bead_at count (time + 1) owner) owner (λ number. goes_to epoch.members time number (owner number)) (λ rank. []) (without epoch.members)

abbrev pub last_trio : (count : ℕ) → Epoch → Trio ℕ Bead
last_trio count epoch = record { now = beads_at count epoch.target; agreed = beads_at count epoch.time; new = beads_at count epoch.target }

abbrev pub course_of : (count shift : ℕ) → Epoch → Stage → World ℕ → Course BeadLocal BeadMessage
course_of count shift epoch (Tell time) world = lifted (local_of_hand count shift epoch world) Told (tell_course count epoch time world.owner)
course_of count shift epoch (Grow time) world =
    alone (Told []) (λ rank. local_of_hand count shift epoch world rank (hand_at count time world.owner rank (heard_at count time epoch.members world.owner rank)))
course_of count shift epoch (Move time) world = lifted (local_of_hand count shift epoch world) Moved (moves_course count epoch time world.owner)
course_of count shift epoch Snapshot world = lifted (λ rank view. local_with view []) Copied (snapshot_course (sees_paired shift) shift epoch (last_trio count epoch) world.owner world.home)
course_of count shift epoch Over world = alone (Told []) (λ rank. local_of_hand count shift epoch world rank (hand_at count epoch.target world.owner rank []))

abbrev pub staging : Staging BeadSetup ℕ Bead BeadLocal (List Bead) BeadMessage Stage
staging = record {
  look = view_in;
  put = local_with;
  at = λ setup time. beads_at setup.beads time;
  Runs = λ setup epoch. IsShort epoch;
  Also = λ setup epoch stage owner. Unit {0};
  fresh = λ setup epoch rank. [];
  stages = λ setup epoch. stages_of bead_plan epoch;
  last = Over;
  made = is_made;
  play = λ setup epoch stage. play_of setup.shift epoch stage;
  leaves = λ setup epoch stage. leaves_of setup.beads epoch stage;
  work = λ setup epoch stage. work_of setup.beads epoch stage;
  moved = λ setup epoch stage. moved_of epoch stage;
  course = λ setup epoch stage. course_of setup.beads setup.shift epoch stage;
}

abbrev pub IsGood : BeadSetup → Epoch → (round : ℕ) → List BeadLocal → Type 0
IsGood = IsTold (telling_of beads staging)

-- what a member's local is at the beginning of a round, in a world: its own beads, what it has heard, and its sides of the agreed
-- snapshot and, once all rounds are done, of the new one
pub record HasItsPart (setup : BeadSetup) (epoch : Epoch) (round : ℕ) (world : World ℕ) (rank : ℕ) (local : BeadLocal) : Type 0 where
  pub rank_is : local.rank ≡ rank
  pub own : local.beads ≡ part_of (leaves_of setup.beads epoch (stage_of bead_plan epoch round)) world.owner rank
  pub heard : local.heard ≡ work_of setup.beads epoch (stage_of bead_plan epoch round) world.owner rank
  pub active : local.active ≡ side_at epoch.time epoch.homes setup.shift (beads_at setup.beads epoch.time) world.home rank
  pub spare : local.spare ≡ (if not (nat_lt round (rounds_of bead_plan epoch)) then side_at epoch.target epoch.members setup.shift (beads_at setup.beads epoch.target) world.owner rank else bare)
