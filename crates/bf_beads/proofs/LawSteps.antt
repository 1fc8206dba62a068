-- What holds of a member's local in a good vector.
use Rattle.std.proofs.Common.{◌≡◌, ℕ, ◌+◌, ◌<◌, Bool, true, false, List, [], ◌∷◌, refl, ap, sym, ◌∙◌, subst, arith}
use Rattle.std.specs.Prelude.{◌==◌, not, nat_lt, filter, IsTrue, All, Some, None, if◌then◌else◌}
use Rattle.std.specs.List.{count_by, flat_map}
use Rattle.std.proofs.lemmas.Bool.{and_from}
use Rattle.std.proofs.lemmas.Bool.Decides.{nat_tests}
use Rattle.bf_buddy.specs.Members.{is_member}
use Rattle.bf_buddy.specs.Losses.{first_lost_of}
use Rattle.bf_program.specs.declared.epoch.Epoch.{Epoch}
use Rattle.bf_program.specs.Epochs.{epoch_after_commit}
use Rattle.bf_program.specs.Lockstep.{local_of}
use Rattle.bf_program.specs.Points.{IsSending, IsReceiving, IsFinishing}
use Rattle.bf_program.specs.Restores.{heir_of, restored_epoch, restored_locals}
use Rattle.bf_parts.specs.declared.side.Side.{Side}
use Rattle.bf_parts.specs.Counts.{count_append}
use Rattle.bf_parts.specs.Leaves.{Leaves, AreAmong, part_of, side_at}
use Rattle.bf_parts.specs.Merges.{regained}
use Rattle.bf_parts.specs.RestoreLaws.{regained_is}
use Rattle.bf_parts.specs.Sides.{bare}
use Rattle.bf_buddy.proofs.MemberLemmas.{member_filter}
use Rattle.bf_rounds.proofs.PointLemmas.{told_its, sending_told, receiving_told, finishing_told}
use Rattle.bf_rounds.specs.Canonical.{IsSendingTold, IsHearingTold, IsFinishingTold}
use Rattle.bf_stages.proofs.StartLemmas.{made_is, counted_told}
use Rattle.bf_stages.proofs.ChainLemmas.{head_is, beyond}
use Rattle.bf_stages.specs.Stages.{World, head_of, local_of_stage, local_told, telling_of}
use Rattle.bf_beads.specs.declared.bead.Bead.{Bead}
use Rattle.bf_beads.specs.declared.local.BeadLocal.{BeadLocal}
use Rattle.bf_beads.specs.declared.message.BeadMessage.{BeadMessage}
use Rattle.bf_beads.specs.declared.setup.BeadSetup.{BeadSetup}
use Rattle.bf_beads.specs.declared.stage.Stage.{Stage}
use Rattle.bf_beads.specs.declared.stage.Stage.TheVariants.{Tell, Grow, Move, Snapshot, Over}
use Rattle.bf_beads.specs.BeadsLaws.{lawful_beads}
use Rattle.bf_beads.specs.Goods.{IsGood, HasItsPart, leaves_of, work_of, staging}
use Rattle.bf_beads.specs.Meanings.{beads}
use Rattle.bf_beads.specs.Row.{row, beads_at, bead_kind, IsOwnedAmong, numbers_of}
use Rattle.bf_beads.specs.RowLaws.{are_beads, part_among, one_number, no_number, count_numbers}
use Rattle.bf_beads.specs.SpanLaws.{staged, sides, spans}
use Rattle.bf_stages.specs.Plans.{IsShort, stages_of, stage_of, rounds_of}
use Rattle.bf_beads.specs.Stages.{bead_plan}
use Rattle.bf_beads.proofs.PointSteps.{keeps}

-- a member's local in a world
part_told : (setup : BeadSetup) (epoch : Epoch) (round : ℕ) (world : World ℕ) (rank : ℕ) (local : BeadLocal) → local ≡ local_told beads staging setup epoch round world rank
    → HasItsPart setup epoch round world rank local
unfolding stage_of
part_told setup epoch round world rank local is = record {
  rank_is = ap (λ (l : BeadLocal). l.rank) is;
  own = ap (λ (l : BeadLocal). l.beads) is;
  heard = ap (λ (l : BeadLocal). l.heard) is;
  active = ap (λ (l : BeadLocal). l.active) is;
  spare = ap (λ (l : BeadLocal). l.spare) is
      ∙ ap (λ (b : Bool). if b then side_at epoch.target epoch.members setup.shift (beads_at setup.beads epoch.target) world.owner rank else bare)
      (made_is beads staging setup (staged setup) epoch round);
}

pub has_its_part : (setup : BeadSetup) (epoch : Epoch) (round : ℕ) (locals : List BeadLocal) (rank : ℕ) (local : BeadLocal) (good : IsGood setup epoch round locals)
    → local_of epoch.members locals rank ≡ Some local → HasItsPart setup epoch round good.world rank local
has_its_part setup epoch round locals rank local good its =
    part_told setup epoch round good.world rank local (told_its beads (telling_of beads staging) setup (keeps setup) epoch round locals rank local good its).1

pub owners_kept : (setup : BeadSetup) (epoch : Epoch) (locals : List BeadLocal) (rank : ℕ) (local : BeadLocal) (good : IsGood setup epoch (beads.rounds setup epoch) locals)
    → epoch.target < setup.steps → local_of epoch.members locals rank ≡ Some local
    → HasItsPart setup (epoch_after_commit setup.steps setup.interval epoch) 0 (record { home = good.world.owner; owner = good.world.owner }) rank (beads.keep local)
unfolding stage_of
owners_kept setup epoch locals rank local good goes_on its =
    let at = told_its beads (telling_of beads staging) setup (keeps setup) epoch (beads.rounds setup epoch) locals rank local good its in
    let after : Epoch = epoch_after_commit setup.steps setup.interval epoch in
    let last : stage_of bead_plan epoch (rounds_of bead_plan epoch) ≡ Over = beyond (stages_of bead_plan epoch) Over (rounds_of bead_plan epoch) (omega arith) in
    let is : local ≡ local_of_stage beads staging setup epoch Over good.world rank = at.1 ∙ ap (λ (s : Stage). local_of_stage beads staging setup epoch s good.world rank) last in
    let runs : IsShort after = (spans setup).commit_runs epoch good.fits.runs goes_on in
    let first : stage_of bead_plan after 0 ≡ head_of (stages_of bead_plan after) Over = head_is (stages_of bead_plan after) Over in
    record {
      rank_is = ap (λ (l : BeadLocal). l.rank) is;
      own = ap (λ (l : BeadLocal). l.beads) is
          ∙ ap (λ (ls : Leaves ℕ Bead). part_of ls good.world.owner rank) (sym (ap (leaves_of setup.beads after) first ∙ (spans setup).begins after runs));
      heard = ap (λ (l : BeadLocal). l.heard) is
          ∙ sym (ap (λ (s : Stage). work_of setup.beads after s good.world.owner rank) first ∙ (spans setup).fresh after good.world.owner rank runs);
      active = ap (λ (l : BeadLocal). l.spare) is;
      spare = let some = (spans setup).some_stage after runs in none_made (rounds_of bead_plan after) some _ _;
    }
  where
    none_made : {S : Type 0} (rounds : ℕ) → 0 < rounds → (one other : S) → other ≡ (if not (nat_lt 0 rounds) then one else other)
    none_made rounds some one other = let begun : nat_lt 0 rounds ≡ true = grind (arith, nat_tests, some) in ap (λ (b : Bool). if not b then one else other) (sym begun)

pub sender_knows : (setup : BeadSetup) (epoch : Epoch) (round to : ℕ) (local : BeadLocal) → IsSending beads IsGood setup epoch round to local
    → IsSendingTold beads (telling_of beads staging) setup epoch round to local
sender_knows setup epoch round to local = sending_told beads (telling_of beads staging) setup (keeps setup) (lawful_beads setup).goods epoch round to local

pub receiver_knows : (setup : BeadSetup) (epoch : Epoch) (round peer : ℕ) (msg : BeadMessage) (local : BeadLocal) → IsReceiving beads IsGood setup epoch round peer msg local
    → IsHearingTold beads (telling_of beads staging) setup epoch round peer msg local
receiver_knows setup epoch round peer msg local = receiving_told beads (telling_of beads staging) setup (keeps setup) (lawful_beads setup).goods epoch round peer msg local

pub finisher_knows : (setup : BeadSetup) (epoch : Epoch) (round : ℕ) (local : BeadLocal) → IsFinishing beads IsGood setup epoch round local
    → IsFinishingTold beads (telling_of beads staging) setup epoch round local
finisher_knows setup epoch round local = finishing_told beads (telling_of beads staging) setup (keeps setup) (lawful_beads setup).goods epoch round local

-- each number of the row once, and no others
number_counts : (count number : ℕ) (b : Bool) → nat_lt number count ≡ b → count_by (λ other. other == number) (row count) ≡ (if b then 1 else 0)
number_counts count number true below = one_number count number below
number_counts count number false above = no_number count number above

leaves_counted : (count : ℕ) (epoch : Epoch) (owner : ℕ → ℕ) (number : ℕ) (stage : Stage)
    → count_by (λ key. ((leaves_of count epoch stage).item owner key).number == number) (leaves_of count epoch stage).keys ≡ (if nat_lt number count then 1 else 0)
leaves_counted count epoch owner number (Tell time) = number_counts count number (nat_lt number count) refl
leaves_counted count epoch owner number (Grow time) = number_counts count number (nat_lt number count) refl
leaves_counted count epoch owner number (Move time) = number_counts count number (nat_lt number count) refl
leaves_counted count epoch owner number Snapshot = number_counts count number (nat_lt number count) refl
leaves_counted count epoch owner number Over = number_counts count number (nat_lt number count) refl

-- the numbers of all members' beads, and these themselves
all_numbers : (number : ℕ) (locals : List BeadLocal) → count_by (λ other. other == number) (flat_map (λ (local : BeadLocal). numbers_of local.beads) locals)
    ≡ count_by (λ (bead : Bead). bead.number == number) (flat_map (λ (local : BeadLocal). local.beads) locals)
all_numbers number [] = refl
all_numbers number (local ∷ locals) =
    count_append (λ other. other == number) (numbers_of local.beads) (flat_map (λ (l : BeadLocal). numbers_of l.beads) locals)
    ∙ both _ _ _ _ (count_numbers number local.beads) (all_numbers number locals)
    ∙ sym (count_append (λ (bead : Bead). bead.number == number) local.beads (flat_map (λ (l : BeadLocal). l.beads) locals))
  where
    both : (a b c d : ℕ) → a ≡ b → c ≡ d → a + c ≡ b + d
    both a b c d first second = omega (arith, first, second)

pub one_each : (setup : BeadSetup) (epoch : Epoch) (round : ℕ) (locals : List BeadLocal) (number : ℕ) → IsGood setup epoch round locals
    → count_by (λ other. other == number) (flat_map (λ (local : BeadLocal). numbers_of local.beads) locals) ≡ (if nat_lt number setup.beads then 1 else 0)
unfolding stage_of
one_each setup epoch round locals number good =
    all_numbers number locals
    ∙ ap (λ (ls : List BeadLocal). count_by (λ (bead : Bead). bead.number == number) (flat_map (λ (local : BeadLocal). local.beads) ls)) good.are
    ∙ counted_told beads staging bead_kind setup (sides setup) epoch round good.world (λ (bead : Bead). bead.number == number) good.fits
    ∙ leaves_counted setup.beads epoch good.world.owner number (stage_of bead_plan epoch round)

leaves_among : (count : ℕ) (epoch : Epoch) (owner : ℕ → ℕ) (rank : ℕ) (stage : Stage) → AreAmong epoch.members (leaves_of count epoch stage) owner
    → All (IsOwnedAmong epoch.members) (part_of (leaves_of count epoch stage) owner rank)
leaves_among count epoch owner rank (Tell time) owned = part_among count time epoch.members owner rank owned
leaves_among count epoch owner rank (Grow time) owned = part_among count time epoch.members owner rank owned
leaves_among count epoch owner rank (Move time) owned = part_among count _ epoch.members owner rank owned
leaves_among count epoch owner rank Snapshot owned = part_among count epoch.target epoch.members owner rank owned
leaves_among count epoch owner rank Over owned = part_among count epoch.target epoch.members owner rank owned

pub all_owned : (setup : BeadSetup) (epoch : Epoch) (round : ℕ) (locals : List BeadLocal) (rank : ℕ) (local : BeadLocal) → IsGood setup epoch round locals
    → local_of epoch.members locals rank ≡ Some local → All (IsOwnedAmong epoch.members) local.beads
unfolding stage_of
all_owned setup epoch round locals rank local good its =
    subst (λ (items : List Bead). All (IsOwnedAmong epoch.members) items) (sym (has_its_part setup epoch round locals rank local good its).own)
    (leaves_among setup.beads epoch good.world.owner rank (stage_of bead_plan epoch round) good.fits.owned)

pub heirs_part : (setup : BeadSetup) (epoch : Epoch) (round : ℕ) (locals : List BeadLocal) (lives : ℕ → Bool) (rank : ℕ) (local : BeadLocal) (good : IsGood setup epoch round locals)
    → local_of epoch.members locals rank ≡ Some local → IsTrue (lives rank)
    → (beads.restore setup local rank (restored_epoch lives epoch)).beads
    ≡ part_of (beads_at setup.beads epoch.time) (λ number. heir_of epoch.homes (filter lives epoch.members) setup.shift (good.world.home number)) rank
heirs_part setup epoch round locals lives rank local good its live =
    let at = told_its beads (telling_of beads staging) setup (keeps setup) epoch round locals rank local good its in
    ap (λ (side : Side Bead). regained bead_kind side setup.shift (filter lives epoch.members)) (has_its_part setup epoch round locals rank local good its).active
    ∙ regained_is bead_kind (beads_at setup.beads epoch.time) (are_beads setup.beads epoch.time) epoch.homes (filter lives epoch.members) setup.shift good.world.home rank good.fits.held.homes_rise
    (good.fits.held.among rank at.0) (member_filter lives epoch.members rank ∙ and_from (is_member epoch.members rank) (lives rank) at.0 live) good.fits.housed epoch.time

pub none_dead : (setup : BeadSetup) (epoch : Epoch) (round : ℕ) (locals : List BeadLocal) (lives : ℕ → Bool) (rank : ℕ) (local : BeadLocal) → IsGood setup epoch round locals
    → first_lost_of epoch.homes (beads.stored locals) (filter lives epoch.members) setup.shift ≡ None
    → local_of (filter lives epoch.members) (restored_locals beads setup epoch lives locals) rank ≡ Some local → All (IsOwnedAmong (filter lives epoch.members)) local.beads
none_dead setup epoch round locals lives rank local good none its =
    all_owned setup (restored_epoch lives epoch) 0 (restored_locals beads setup epoch lives locals) rank local ((lawful_beads setup).goods.restore epoch round locals lives good none) its
