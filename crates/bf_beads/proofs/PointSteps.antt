-- What a local is at the points of the lockstep.
use Rattle.std.proofs.Common.{◌≡◌, ℕ, Bool, true, false, cond, List, [], refl, ap, sym, ◌∙◌, subst}
use Rattle.std.specs.Prelude.{◌==◌, filter, All}
use Rattle.std.proofs.lemmas.List.Elements.{All-nil}
use Rattle.bf_buddy.specs.Members.{is_member}
use Rattle.bf_buddy.specs.Buddy.{predecessor_of}
use Rattle.bf_program.specs.declared.epoch.Epoch.{Epoch}
use Rattle.bf_program.specs.Points.{IsFirst, IsRestoring}
use Rattle.bf_parts.specs.declared.side.Side.{Side}
use Rattle.bf_parts.specs.Leaves.{AreAmong, part_of, side_at}
use Rattle.bf_rounds.specs.Canonical.{KeepsTelling}
use Rattle.bf_rounds.proofs.PointLemmas.{first_told, told_its}
use Rattle.bf_stages.proofs.SnapshotLemmas.{none_passes, paired_asked}
use Rattle.bf_stages.specs.Stages.{telling_of}
use Rattle.bf_stages.proofs.StartLemmas.{keeps_telling}
use Rattle.bf_beads.specs.declared.bead.Bead.{Bead}
use Rattle.bf_beads.specs.declared.local.BeadLocal.{BeadLocal}
use Rattle.bf_beads.specs.declared.setup.BeadSetup.{BeadSetup}
use Rattle.bf_beads.specs.declared.stage.Stage.{Stage}
use Rattle.bf_beads.specs.declared.stage.Stage.TheVariants.{Tell, Grow, Move, Snapshot, Over}
use Rattle.bf_beads.specs.BeadsLaws.{lawful_beads}
use Rattle.bf_beads.specs.Goods.{IsGood, staging}
use Rattle.bf_beads.specs.Meanings.{beads, pieces}
use Rattle.bf_beads.specs.Peers.{is_peer}
use Rattle.bf_beads.specs.RoundLaws.{has_stages}
use Rattle.bf_beads.specs.Rounds.{play_of}
use Rattle.bf_beads.specs.Row.{beads_at, IsOwnedAmong}
use Rattle.bf_beads.specs.RowLaws.{part_among}
use Rattle.bf_beads.specs.SpanLaws.{staged}
use Rattle.bf_stages.specs.Plans.{stage_of}
use Rattle.bf_beads.specs.Stages.{bead_plan}

pub keeps : (setup : BeadSetup) → KeepsTelling beads (telling_of beads staging) setup
keeps setup = keeps_telling beads staging setup (staged setup) pieces (has_stages setup)

-- who is asked for is who is a peer
peers_at : (shift : ℕ) (epoch : Epoch) (local : BeadLocal) (stage : Stage) → is_member epoch.members local.rank ≡ true
    → filter (is_peer stage epoch.members shift local) epoch.members ≡ (play_of shift epoch stage).peers epoch.members local
unfolding is_peer
peers_at shift epoch local (Tell time) is_in = refl
peers_at shift epoch local (Grow time) is_in = none_passes epoch.members
peers_at shift epoch local (Move time) is_in = refl
peers_at shift epoch local Snapshot is_in = paired_asked epoch.members shift local.rank is_in
peers_at shift epoch local Over is_in = none_passes epoch.members

pub peers_are : (setup : BeadSetup) (epoch : Epoch) (round : ℕ) (local : BeadLocal) → IsFirst beads IsGood setup epoch round local
    → filter (is_peer (stage_of bead_plan epoch round) epoch.members setup.shift local) epoch.members ≡ beads.peers setup local epoch round
peers_are setup epoch round local first =
    let told = first_told beads (telling_of beads staging) setup (keeps setup) (lawful_beads setup).goods epoch round local first in
    peers_at setup.shift epoch local (stage_of bead_plan epoch round) (ap (λ (l : BeadLocal). is_member epoch.members l.rank) told.is ∙ told.member)

-- the owners in the links of a side that is told are homes
abbrev AreAmongHomes : Side Bead → Type 0
AreAmongHomes side = All (IsOwnedAmong side.homes) side.own × All (IsOwnedAmong side.homes) side.other

side_among : (count time : ℕ) (homes : List ℕ) (shift : ℕ) (home : ℕ → ℕ) (rank : ℕ) → AreAmong homes (beads_at count time) home
    → AreAmongHomes (side_at time homes shift (beads_at count time) home rank)
side_among count time homes shift home rank housed = (part_among count time homes home rank housed, at (predecessor_of homes rank shift == rank))
  where
    at : (b : Bool) → All (IsOwnedAmong homes) (cond b [] (part_of (beads_at count time) home (predecessor_of homes rank shift)))
    at true = All-nil (IsOwnedAmong homes)
    at false = part_among count time homes home (predecessor_of homes rank shift) housed

restoring_among : (setup : BeadSetup) (epoch : Epoch) (rank : ℕ) (local : BeadLocal) → IsRestoring beads IsGood setup epoch rank local → AreAmongHomes local.active
restoring_among setup epoch rank local point =
    let at = told_its beads (telling_of beads staging) setup (keeps setup) point.before point.round point.locals rank point.agreed point.is_good point.its in
    subst AreAmongHomes (sym (point.same ∙ ap (λ (l : BeadLocal). l.active) at.1))
    (side_among setup.beads point.before.time point.before.homes setup.shift point.is_good.world.home rank point.is_good.fits.housed)

pub own_among : (setup : BeadSetup) (epoch : Epoch) (rank : ℕ) (local : BeadLocal) → IsRestoring beads IsGood setup epoch rank local → All (IsOwnedAmong local.active.homes) local.active.own
own_among setup epoch rank local point = (restoring_among setup epoch rank local point).0

pub other_among : (setup : BeadSetup) (epoch : Epoch) (rank : ℕ) (local : BeadLocal) → IsRestoring beads IsGood setup epoch rank local → All (IsOwnedAmong local.active.homes) local.active.other
other_among setup epoch rank local point = (restoring_among setup epoch rank local point).1
