-- What a rank knows of its local at each call.
use Rattle.std.proofs.Common.{◌≡◌, ℕ, ◌+◌, ◌<◌, ◌≤◌, Bool, true, false, cond, List, [], ◌++◌, ◌⊎◌, inl, inr, All, arith, refl, ap, sym, ◌∙◌, subst}
use Rattle.std.specs.Prelude.{◌==◌, filter}
use Rattle.std.proofs.lemmas.Bool.{cases_lt, cases_order}
use Rattle.std.proofs.lemmas.List.Elements.{All-nil}
use Rattle.bf_buddy.specs.Members.{is_member}
use Rattle.bf_buddy.specs.Buddy.{predecessor_of}
use Rattle.bf_program.specs.declared.epoch.Epoch.{Epoch}
use Rattle.bf_program.specs.Points.{IsFirst, IsSending, IsReceiving, IsFinishing, IsRestoring}
use Rattle.bf_id.specs.Id.{BlockId}
use Rattle.bf_case.specs.declared.case.Case.{Case}
use Rattle.bf_block.specs.declared.point.Point.{Point}
use Rattle.bf_block.specs.Block.{before_regrid}
use Rattle.bf_forest.specs.declared.setup.Setup.{Setup}
use Rattle.bf_forest.specs.Setup.{case_of, every_setup_is_valid}
use Rattle.bf_ghost.specs.Strips.{StripValue}
use Rattle.bf_parts.specs.declared.side.Side.{Side}
use Rattle.bf_parts.specs.Leaves.{AreAmong, part_of, side_at}
use Rattle.bf_rounds.proofs.PointLemmas.{first_told, sending_told, receiving_told, finishing_told, told_its}
use Rattle.bf_rounds.specs.Canonical.{KeepsTelling, IsSendingTold, IsHearingTold, IsFinishingTold}
use Rattle.bf_stages.proofs.SnapshotLemmas.{none_passes, paired_asked}
use Rattle.bf_stages.specs.Stages.{telling_of}
use Rattle.bf_stages.proofs.StartLemmas.{keeps_telling}
use Rattle.bf_forest.specs.declared.local.ForestLocal.{ForestLocal}
use Rattle.bf_msg.specs.declared.linked_block.LinkedBlock.{LinkedBlock}
use Rattle.bf_msg.specs.declared.message.Message.{Message}
use Rattle.bf_msg.specs.LinkedBlocks.{IsOwnedAmong}
use Rattle.bf_forest.specs.Peers.{is_peer}
use Rattle.bf_forest.specs.declared.stage.Stage.{Stage}
use Rattle.bf_forest.specs.declared.stage.Stage.TheVariants.{Step, Snapshot, Over}
use Rattle.bf_forest.specs.BlockLaws.{block_is, part_each, part_inside, part_ordered, part_owned}
use Rattle.bf_forest.specs.ForestLaws.{lawful_forest, staged, whole_span, ends_within}
use Rattle.bf_forest.specs.Goods.{IsGood}
use Rattle.bf_forest.specs.Meanings.{forest, pieces}
use Rattle.bf_forest.specs.ModelBlocks.{blocks_at, blocks_on, ready}
use Rattle.bf_forest.specs.Ready.{AreOrdered, CanFinish, CanSend, CanStep, AreLinkedInside, IsReady}
use Rattle.bf_forest.specs.Rounds.{play_of, strips_to}
use Rattle.bf_forest.specs.RoundLaws.{has_stages}
use Rattle.bf_forest.specs.StageLaws.{stage_step, stage_snapshot, stage_over}
use Rattle.bf_stages.specs.Plans.{span, stage_of}
use Rattle.bf_forest.specs.Stages.{forest_plan}
use Rattle.bf_forest.specs.Staging.{course_in, leaves_in, forest_staging}
use Rattle.bf_forest.specs.StripLaws.{heard, all_told, strips_are_all}

keeps : (setup : Setup) → KeepsTelling forest (telling_of forest forest_staging) setup
keeps setup = keeps_telling forest forest_staging setup (staged setup) pieces (has_stages setup)

pub knows_sending : (setup : Setup) (epoch : Epoch) (round to : ℕ) (local : ForestLocal) → IsSending forest IsGood setup epoch round to local
    → IsSendingTold forest (telling_of forest forest_staging) setup epoch round to local
unfolding IsGood
knows_sending setup epoch round to local at = sending_told forest (telling_of forest forest_staging) setup (keeps setup) (lawful_forest setup).goods epoch round to local at

pub knows_receiving : (setup : Setup) (epoch : Epoch) (round peer : ℕ) (msg : Message) (local : ForestLocal) → IsReceiving forest IsGood setup epoch round peer msg local
    → IsHearingTold forest (telling_of forest forest_staging) setup epoch round peer msg local
unfolding IsGood
knows_receiving setup epoch round peer msg local at =
    receiving_told forest (telling_of forest forest_staging) setup (keeps setup) (lawful_forest setup).goods epoch round peer msg local at

pub knows_finishing : (setup : Setup) (epoch : Epoch) (round : ℕ) (local : ForestLocal) → IsFinishing forest IsGood setup epoch round local
    → IsFinishingTold forest (telling_of forest forest_staging) setup epoch round local
unfolding IsGood
knows_finishing setup epoch round local at = finishing_told forest (telling_of forest forest_staging) setup (keeps setup) (lawful_forest setup).goods epoch round local at

-- a member that sends in a step's round can tell what lies beside its blocks
sending_is : (setup : Setup) (epoch : Epoch) (round to time : ℕ) (local : ForestLocal) (at : IsSending forest IsGood setup epoch round to local) → stage_of forest_plan epoch round ≡ Step time
    → local.blocks ≡ part_of (blocks_on (case_of setup) (ready (case_of setup) time)) (knows_sending setup epoch round to local at).world.owner (knows_sending setup epoch round to local at).rank
unfolding stage_of
sending_is setup epoch round to time local at stage =
    let told = knows_sending setup epoch round to local at in
    ap (λ (l : ForestLocal). l.blocks) told.is ∙ ap (λ (s : Stage). ((course_in (case_of setup) epoch s told.world).sent told.rank told.done).blocks) stage

pub sending_ready : (setup : Setup) (epoch : Epoch) (round to : ℕ) (local : ForestLocal) → IsSending forest IsGood setup epoch round to local
    → CanSend (stage_of forest_plan epoch round) local
sending_ready setup epoch round to local at = by (stage_of forest_plan epoch round) refl
  where
    by : (stage : Stage) → stage_of forest_plan epoch round ≡ stage → CanSend stage local
    by (Step time) stage =
        let told = knows_sending setup epoch round to local at in
        subst (All AreLinkedInside) (sym (sending_is setup epoch round to time local at stage)) (part_inside (case_of setup) (ready (case_of setup) time) told.world.owner told.rank (every_setup_is_valid setup))
    by Snapshot stage = tt
    by Over stage = tt

-- whom a member asks for are its peers
peers_at : (c : Case) (epoch : Epoch) (local : ForestLocal) (stage : Stage) → is_member epoch.members local.rank ≡ true
    → filter (is_peer stage epoch.members c.shift local) epoch.members ≡ (play_of c epoch stage).peers epoch.members local
unfolding is_peer
peers_at c epoch local (Step time) is_in = refl
peers_at c epoch local Snapshot is_in = paired_asked epoch.members c.shift local.rank is_in
peers_at c epoch local Over is_in = none_passes epoch.members

pub peers_are : (setup : Setup) (epoch : Epoch) (round : ℕ) (local : ForestLocal) → IsFirst forest IsGood setup epoch round local
    → filter (is_peer (stage_of forest_plan epoch round) epoch.members (case_of setup).shift local) epoch.members ≡ forest.peers setup local epoch round
unfolding IsGood
peers_are setup epoch round local first =
    let told = first_told forest (telling_of forest forest_staging) setup (keeps setup) (lawful_forest setup).goods epoch round local first in
    peers_at (case_of setup) epoch local (stage_of forest_plan epoch round) (ap (λ (l : ForestLocal). is_member epoch.members l.rank) told.is ∙ told.member)

-- the owners in the links of a side that is told are homes
abbrev AreAmongHomes : Side LinkedBlock → Type 0
AreAmongHomes side = All (IsOwnedAmong side.homes) side.own × All (IsOwnedAmong side.homes) side.other

side_among : (c : Case) (time : ℕ) (homes : List ℕ) (home : BlockId → ℕ) (rank : ℕ) → AreAmong homes (blocks_at c time) home → AreAmongHomes (side_at time homes c.shift (blocks_at c time) home rank)
side_among c time homes home rank housed = (part_owned c (before_regrid time) homes home rank housed, at (predecessor_of homes rank c.shift == rank))
  where
    at : (b : Bool) → All (IsOwnedAmong homes) (cond b [] (part_of (blocks_at c time) home (predecessor_of homes rank c.shift)))
    at true = All-nil (IsOwnedAmong homes)
    at false = part_owned c (before_regrid time) homes home (predecessor_of homes rank c.shift) housed

restoring_among : (setup : Setup) (epoch : Epoch) (rank : ℕ) (local : ForestLocal) → IsRestoring forest IsGood setup epoch rank local → AreAmongHomes local.buffers.active
unfolding IsGood
restoring_among setup epoch rank local point =
    let at = told_its forest (telling_of forest forest_staging) setup (keeps setup) point.before point.round point.locals rank point.agreed point.is_good point.its in
    subst AreAmongHomes (sym (point.same ∙ ap (λ (l : ForestLocal). l.buffers.active) at.1))
    (side_among (case_of setup) point.before.time point.before.homes point.is_good.world.home rank point.is_good.fits.housed)

pub own_among : (setup : Setup) (epoch : Epoch) (rank : ℕ) (local : ForestLocal) → IsRestoring forest IsGood setup epoch rank local → All (IsOwnedAmong local.buffers.active.homes) local.buffers.active.own
own_among setup epoch rank local point = (restoring_among setup epoch rank local point).0

pub other_among : (setup : Setup) (epoch : Epoch) (rank : ℕ) (local : ForestLocal) → IsRestoring forest IsGood setup epoch rank local → All (IsOwnedAmong local.buffers.active.homes) local.buffers.active.other
other_among setup epoch rank local point = (restoring_among setup epoch rank local point).1

-- a rank that has heard all its neighbours of a time is ready to step its blocks
pub part_ready : (setup : Setup) (time : ℕ) (owner : BlockId → ℕ) (members : List ℕ) (rank : ℕ) (local : ForestLocal) → AreAmong members (blocks_on (case_of setup) (ready (case_of setup) time)) owner
    → time < (case_of setup).steps → local.rank ≡ rank → local.blocks ≡ part_of (blocks_on (case_of setup) (ready (case_of setup) time)) owner rank
    → local.heard ≡ heard (case_of setup) (ready (case_of setup) time) owner members rank → IsReady (case_of setup) time local
part_ready setup time owner members rank local owned more here own told =
    let c : Case = case_of setup in
    let p : Point = ready c time in
    let valid = every_setup_is_valid setup in
    let part : List LinkedBlock = part_of (blocks_on c p) owner rank in
    let known : all_told c p owner members rank ≡ local.heard ++ strips_to local.rank local.blocks = rw (here, own, told) refl in
    record {
      tells = subst (All AreLinkedInside) (sym own) (part_inside c p owner rank valid);
      ordered = subst AreOrdered (sym own) (part_ordered c p owner rank valid);
      told = subst (All (CanStep c time (local.heard ++ strips_to local.rank local.blocks))) (sym own)
          (subst (λ (strips : List StripValue). All (CanStep c time strips) part) known
          (part_each (CanStep c time (all_told c p owner members rank)) c p owner rank
          (λ i has its. record { is = block_is c p i valid has; told = strips_are_all c p valid owner members rank owned i has its })));
      more = more;
    }

-- a local at the end of a step's round
finishing_is : (setup : Setup) (epoch : Epoch) (round time : ℕ) (local : ForestLocal) (at : IsFinishing forest IsGood setup epoch round local) → stage_of forest_plan epoch round ≡ Step time
    → local ≡ (course_in (case_of setup) epoch (Step time) (knows_finishing setup epoch round local at).world).heard (knows_finishing setup epoch round local at).rank
    ((course_in (case_of setup) epoch (Step time) (knows_finishing setup epoch round local at).world).peers (knows_finishing setup epoch round local at).rank)
unfolding stage_of
finishing_is setup epoch round time local at stage =
    let told = knows_finishing setup epoch round local at in
    told.is ∙ ap (λ (s : Stage). (course_in (case_of setup) epoch s told.world).heard told.rank ((course_in (case_of setup) epoch s told.world).peers told.rank)) stage

finishing_owned : (setup : Setup) (epoch : Epoch) (round time : ℕ) (local : ForestLocal) (at : IsFinishing forest IsGood setup epoch round local) → stage_of forest_plan epoch round ≡ Step time
    → AreAmong epoch.members (blocks_on (case_of setup) (ready (case_of setup) time)) (knows_finishing setup epoch round local at).world.owner
unfolding stage_of
finishing_owned setup epoch round time local at stage =
    let told = knows_finishing setup epoch round local at in
    subst (λ (s : Stage). AreAmong epoch.members (leaves_in (case_of setup) epoch s) told.world.owner) stage told.fits.owned

-- the time of a step's round
step_time : (epoch : Epoch) (round time : ℕ) → stage_of forest_plan epoch round ≡ Step time → (round < span epoch) × (time ≡ epoch.time + round)
step_time epoch round time is = elim (cases_lt round (span epoch)) [
  | inl before ↦ (before, let same : Step time ≡ Step (epoch.time + round) = sym is ∙ stage_step epoch round before in cc)
  | inr after ↦ elim (cases_order round (span epoch)) [
    | inl last ↦ absurd (let wrong : Step time ≡ Snapshot = sym is ∙ stage_snapshot epoch round last in cc)
    | inr other ↦ absurd (let wrong : Step time ≡ Over = sym is ∙ stage_over epoch round (past other after) in cc)
  ]
]
  where
    past : (round < span epoch) ⊎ (span epoch < round) → span epoch ≤ round → span epoch < round
    past (inl less) after = absurd (omega (arith, less, after))
    past (inr more) after = more

pub finishing_ready : (setup : Setup) (epoch : Epoch) (round : ℕ) (local : ForestLocal) → IsFinishing forest IsGood setup epoch round local
    → CanFinish (case_of setup) (stage_of forest_plan epoch round) local
finishing_ready setup epoch round local at = by (stage_of forest_plan epoch round) refl
  where
    by : (stage : Stage) → stage_of forest_plan epoch round ≡ stage → CanFinish (case_of setup) stage local
    by (Step time) stage =
        let c : Case = case_of setup in
        let told = knows_finishing setup epoch round local at in
        let its = step_time epoch round time stage in
        let whole : epoch.time + span epoch ≡ epoch.target = whole_span setup epoch told.fits.runs in
        let ends : epoch.target ≤ c.steps = ends_within setup epoch told.fits.runs in
        let is = finishing_is setup epoch round time local at stage in
        part_ready setup time told.world.owner epoch.members told.rank local
        (finishing_owned setup epoch round time local at stage)
        (omega (arith, its.0, its.1, whole, ends)) (ap (λ (l : ForestLocal). l.rank) is) (ap (λ (l : ForestLocal). l.blocks) is) (ap (λ (l : ForestLocal). l.heard) is)
    by Snapshot stage = tt
    by Over stage = tt
