-- The round in which the new snapshot is made: its peers, its messages, and what each member has after it.
use Rattle.std.proofs.Common.{◌≡◌, ◌≢◌, ℕ, ◌+◌, ◌<◌, Bool, true, false, cond, List, [], Contains, Decides, map, filter, refl, sym, ap, subst, ◌∙◌, All, arith}
use Rattle.std.specs.Prelude.{◌==◌, ◌&&◌, ◌||◌, ◌↔◌, not, nat_lt, Some, None}
use Rattle.std.proofs.lemmas.Bool.{and_right, eq-eqb, eqb-true, false_from_ne_true}
use Rattle.std.proofs.lemmas.Bool.Decides.{Decides-and, Decides-eqb, Decides-like, Decides-not, Decides-or, nat_tests}
use Rattle.bf_lemmas.proofs.Lists.{All-from_Contains}
use Rattle.bf_buddy.specs.Buddy.{buddy_of, predecessor_of}
use Rattle.bf_buddy.specs.Members.{is_member}
use Rattle.bf_buddy.proofs.LawLemmas.{buddy_undoes}
use Rattle.bf_case.specs.declared.case.Case.{Case}
use Rattle.bf_case.specs.Case.{IsValid}
use Rattle.bf_block.specs.declared.point.Point.{Point}
use Rattle.bf_case.proofs.ListLemmas.{Contains-map_cases}
use Rattle.bf_case.proofs.TestLemmas.{any_from_passes, Contains-filter, Contains-filter_cases}
use Rattle.bf_id.specs.Id.{BlockId}
use Rattle.bf_parts.specs.declared.side.Side.{Side}
use Rattle.bf_parts.specs.Leaves.{part_of, side_at}
use Rattle.bf_parts.specs.SnapshotRounds.{are_paired}
use Rattle.bf_parts.specs.SideLaws.{predecessor_member}
use Rattle.bf_parts.specs.Sides.{bare, gives}
use Rattle.bf_program.specs.declared.epoch.Epoch.{Epoch}
use Rattle.bf_program.specs.Lockstep.{next_locals}
use Rattle.bf_rounds.proofs.CourseLemmas.{next_is}
use Rattle.bf_stages.proofs.StartLemmas.{keeps_telling}
use Rattle.bf_stages.specs.Plans.{rounds_of, span}
use Rattle.bf_stages.specs.Snapshots.{given_part}
use Rattle.bf_stages.specs.Stages.{local_told, telling_of}
use Rattle.bf_msg.specs.declared.linked_block.LinkedBlock.{LinkedBlock}
use Rattle.bf_msg.specs.declared.message.Message.TheVariants.{Snapshot as SnapshotMessage}
use Rattle.bf_forest.specs.declared.local.ForestLocal.{ForestLocal}
use Rattle.bf_forest.specs.declared.setup.Setup.{Setup}
use Rattle.bf_forest.specs.declared.stage.Stage.{Stage}
use Rattle.bf_forest.specs.ForestLaws.{staged, whole_span}
use Rattle.bf_forest.specs.Goods.{AreDealt, ArePartners, HasCopies, HasParts, IsGood, local_at}
use Rattle.bf_forest.specs.LeafLaws.{ForestWorld, Placed, all_dealt, dealt, placed_where_dealt, told_where_dealt, world_of}
use Rattle.bf_forest.specs.Meanings.{forest, pieces}
use Rattle.bf_forest.specs.ModelBlocks.{blocks_at, blocks_on}
use Rattle.bf_forest.specs.RoundLaws.{has_stages}
use Rattle.bf_forest.specs.Rounds.{play_of}
use Rattle.bf_forest.specs.Setup.{case_of, every_setup_is_valid}
use Rattle.bf_forest.specs.StageLaws.{point_end, rounds_are, stage_snapshot}
use Rattle.bf_forest.specs.Stages.{forest_plan}
use Rattle.bf_forest.specs.Staging.{forest_staging, Runs}
use Rattle.bf_forest.specs.StripLaws.{member_contains}
use Rattle.bf_forest.specs.VectorLaws.{parts_at}

-- PEERS
partners_decide : (members : List ℕ) (shift rank other : ℕ) → Decides (are_paired members shift rank other) (ArePartners members shift rank other)
unfolding are_paired
partners_decide members shift rank other =
    let to : Bool = buddy_of members rank shift == other in
    let from : Bool = buddy_of members other shift == rank in
    Decides-like (not (rank == other) && (to || from))
    (λ both. record { apart = both.0; buddy = both.1 }) (λ (are : ArePartners members shift rank other). (are.apart, are.buddy))
    (Decides-and (not (rank == other)) (to || from) (Decides-not (rank == other) (Decides-eqb rank other))
    (Decides-or to from (Decides-eqb (buddy_of members rank shift) other) (Decides-eqb (buddy_of members other shift) rank)))

pub snapshot_peers : (setup : Setup) (epoch : Epoch) (round : ℕ) (local : ForestLocal) (other : ℕ) → round ≡ span epoch
    → Contains (forest.peers setup local epoch round) other ↔ (Contains epoch.members other × ArePartners epoch.members (case_of setup).shift local.rank other)
snapshot_peers setup epoch round local other last =
    let c : Case = case_of setup in
    let sees : ℕ → Bool = are_paired epoch.members c.shift local.rank in
    let decides = partners_decide epoch.members c.shift local.rank other in
    let peers : forest.peers setup local epoch round ≡ filter sees epoch.members = ap (λ (stage : Stage). (play_of c epoch stage).peers epoch.members local) (stage_snapshot epoch round last) in (
      λ in_peers.
          let both = Contains-filter_cases sees epoch.members other (subst (λ (l : List ℕ). Contains l other) peers in_peers) in
          (both.0, decides.0 both.1),
      λ are. subst (λ (l : List ℕ). Contains l other) (sym peers) (Contains-filter sees epoch.members other are.0 (decides.1 are.1)),
    )

-- MESSAGES
told : (setup : Setup) (epoch : Epoch) (round : ℕ) (local : ForestLocal) (to : ℕ) (b : Bool) → round ≡ span epoch → gives epoch.members (case_of setup).shift local.rank to ≡ b
    → (forest.out setup local epoch round to).1 ≡ SnapshotMessage (given_part b local.blocks)
told setup epoch round local to b last is =
    ap (λ (stage : Stage). ((play_of (case_of setup) epoch stage).out local to).1) (stage_snapshot epoch round last)
    ∙ ap (λ b. SnapshotMessage (given_part b local.blocks)) is

-- a member of a good vector is one of the epoch's
among : (setup : Setup) (epoch : Epoch) (round : ℕ) (locals : List ForestLocal) (local : ForestLocal) → IsGood setup epoch round locals → Contains locals local → is_member epoch.members local.rank ≡ true
among setup epoch round locals local good there =
    let has = all_dealt setup epoch round locals good in
    let is = Contains-map_cases (local_at (case_of setup) epoch round has.0 has.1) epoch.members local (subst (λ (ls : List ForestLocal). Contains ls local) has.2.are there) in
    any_from_passes (λ member. member == local.rank) epoch.members is.0 is.1 (eq-eqb is.0 local.rank (sym (ap (λ (l : ForestLocal). l.rank) is.2)))

pub told_buddy : (setup : Setup) (epoch : Epoch) (round : ℕ) (locals : List ForestLocal) (local : ForestLocal) → IsGood setup epoch round locals → round ≡ span epoch → Contains locals local
    → (forest.out setup local epoch round (buddy_of epoch.members local.rank (case_of setup).shift)).1 ≡ SnapshotMessage (Some local.blocks)
unfolding gives
told_buddy setup epoch round locals local good last there =
    let buddy : ℕ = buddy_of epoch.members local.rank (case_of setup).shift in
    let member : is_member epoch.members local.rank ≡ true = among setup epoch round locals local good there in
    told setup epoch round local buddy true last (rw member (eq-eqb buddy buddy refl))

pub told_others : (setup : Setup) (epoch : Epoch) (round : ℕ) (local : ForestLocal) (to : ℕ) → round ≡ span epoch → to ≢ buddy_of epoch.members local.rank (case_of setup).shift
    → (forest.out setup local epoch round to).1 ≡ SnapshotMessage None
unfolding gives
told_others setup epoch round local to last other =
    let buddy : ℕ = buddy_of epoch.members local.rank (case_of setup).shift in
    told setup epoch round local to false last
    (and_right (is_member epoch.members local.rank) (buddy == to) (false_from_ne_true (buddy == to) (λ same. other (sym (eqb-true buddy to same)))))

-- COPIES
module _ (c : Case) (epoch : Epoch) (round : ℕ) (owner home : BlockId → ℕ) (locals : List ForestLocal) (dealt : AreDealt c epoch round owner home locals)
    (whole : epoch.time + span epoch ≡ epoch.target) (done : rounds_of forest_plan epoch ≡ round) where
  abbrev part : ℕ → List LinkedBlock
  part rank = part_of (blocks_at c epoch.target) owner rank

  -- what a member has
  its : (local : ForestLocal) → Contains locals local → (rank : ℕ) × Contains epoch.members rank × (local ≡ local_at c epoch round owner home rank)
  its local there = Contains-map_cases (local_at c epoch round owner home) epoch.members local (subst (λ (ls : List ForestLocal). Contains ls local) dealt.are there)

  spare_at : (rank : ℕ) → (local_at c epoch round owner home rank).buffers.spare ≡ side_at epoch.target epoch.members c.shift (blocks_at c epoch.target) owner rank
  spare_at rank = ap (λ b. cond b bare (side_at epoch.target epoch.members c.shift (blocks_at c epoch.target) owner rank)) past
    where
      past : nat_lt round (rounds_of forest_plan epoch) ≡ false
      past = grind (arith, nat_tests, done)

  blocks_are : (rank : ℕ) → (local_at c epoch round owner home rank).blocks ≡ part rank
  blocks_are rank = ap (λ (p : Point). part_of (blocks_on c p) owner rank) (point_end c epoch round (omega (arith, rounds_are epoch, done)))

  copies_at : (rank : ℕ) → is_member epoch.members rank ≡ true → HasCopies c.shift epoch locals (local_at c epoch round owner home rank)
  copies_at rank member =
      let source : ℕ = predecessor_of epoch.members rank c.shift in
      let spare = spare_at rank in
      record {
        time = ap (λ (s : Side LinkedBlock). s.time) spare;
        homes = ap (λ (s : Side LinkedBlock). s.homes) spare;
        own = ap (λ (s : Side LinkedBlock). s.own) spare ∙ sym (blocks_are rank);
        source_member = subst (Contains epoch.members) (sym (ap (λ (s : Side LinkedBlock). s.source) spare))
            (member_contains epoch.members source (predecessor_member epoch.members rank c.shift dealt.held.members_rise member));
        source = ap (λ (s : Side LinkedBlock). buddy_of epoch.members s.source c.shift) spare ∙ buddy_undoes epoch.members rank c.shift dealt.held.members_rise member;
        copied = λ from there source_is apart.
            let other = its from there in
            let rank_is : from.rank ≡ source = source_is ∙ ap (λ (s : Side LinkedBlock). s.source) spare in
            ap (λ (s : Side LinkedBlock). s.other) spare
            ∙ ap (λ b. cond b [] (part source)) (false_from_ne_true (source == rank) (λ same. apart (rank_is ∙ eqb-true source rank same)))
            ∙ ap part (sym rank_is ∙ ap (λ (l : ForestLocal). l.rank) other.2)
            ∙ sym (ap (λ (l : ForestLocal). l.blocks) other.2 ∙ blocks_are other.0);
        alone = λ own.
            ap (λ (s : Side LinkedBlock). s.other) spare
            ∙ ap (λ b. cond b [] (part source)) (eq-eqb source rank (sym (ap (λ (s : Side LinkedBlock). s.source) spare) ∙ own));
      }

  all_copied : All (HasCopies c.shift epoch locals) locals
  all_copied = All-from_Contains (HasCopies c.shift epoch locals) locals (λ local there.
      let is = its local there in
      subst (HasCopies c.shift epoch locals) (sym is.2)
      (copies_at is.0 (any_from_passes (λ member. member == is.0) epoch.members is.0 is.1 (eq-eqb is.0 is.0 refl))))

  -- its parts of the new snapshot
  abbrev HasNew : ForestLocal → Type 0
  HasNew local = HasParts c epoch.target epoch.members owner local.rank local.buffers.spare

  all_new : IsValid c → All HasNew locals
  all_new valid = All-from_Contains HasNew locals (λ local there.
      let is = its local there in
      let member : is_member epoch.members is.0 ≡ true = any_from_passes (λ member. member == is.0) epoch.members is.0 is.1 (eq-eqb is.0 is.0 refl) in
      subst HasNew (sym is.2)
      (subst (HasParts c epoch.target epoch.members owner is.0) (sym (spare_at is.0))
      (parts_at c epoch.target epoch.members owner is.0 valid dealt.held.members_rise member)))

pub all_have_new : (setup : Setup) (epoch : Epoch) (owner home : BlockId → ℕ) (locals : List ForestLocal) → Runs (case_of setup) epoch
    → AreDealt (case_of setup) epoch (rounds_of forest_plan epoch) owner home locals
    → All (λ (local : ForestLocal). HasParts (case_of setup) epoch.target epoch.members owner local.rank local.buffers.spare) locals
all_have_new setup epoch owner home locals runs are_dealt =
    all_new (case_of setup) epoch (rounds_of forest_plan epoch) owner home locals are_dealt (whole_span setup epoch runs) refl (every_setup_is_valid setup)

-- so have all after the round, in which nobody's blocks move
pub all_copied_after : (setup : Setup) (epoch : Epoch) (round : ℕ) (owner home : BlockId → ℕ) (locals : List ForestLocal) → Runs (case_of setup) epoch
    → AreDealt (case_of setup) epoch round owner home locals → round ≡ span epoch
    → AreDealt (case_of setup) epoch (round + 1) owner home (next_locals forest setup epoch round locals)
    × All (HasCopies (case_of setup).shift epoch (next_locals forest setup epoch round locals)) (next_locals forest setup epoch round locals)
all_copied_after setup epoch round owner home locals runs are_dealt last =
    let world : ForestWorld = world_of owner home in
    let fits : Placed setup epoch round world = placed_where_dealt setup epoch round owner home locals runs are_dealt in
    let done : rounds_of forest_plan epoch ≡ round + 1 = omega (arith, rounds_are epoch, last) in
    let within : round < rounds_of forest_plan epoch = omega (arith, done) in
    let keeps = keeps_telling forest forest_staging setup (staged setup) pieces (has_stages setup) in
    let placed : Placed setup epoch (round + 1) world = keeps.fits epoch round world fits within in
    let now : ℕ → ForestLocal = local_told forest forest_staging setup epoch round world in
    let then : ℕ → ForestLocal = local_told forest forest_staging setup epoch (round + 1) world in
    let next : next_locals forest setup epoch round locals ≡ map then epoch.members =
    ap (next_locals forest setup epoch round) (told_where_dealt setup epoch round owner home locals runs are_dealt)
    ∙ next_is forest setup epoch round ((telling_of forest forest_staging).course setup epoch round world) now then (keeps.leads epoch round world fits within) in
    let after = dealt setup epoch (round + 1) world (next_locals forest setup epoch round locals) placed next in
    (after, all_copied (case_of setup) epoch (round + 1) owner home (next_locals forest setup epoch round locals) after (whole_span setup epoch runs) done)
