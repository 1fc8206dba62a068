-- Each round leads from the locals of its beginning to those of the next, and no bead comes or goes.
use Rattle.std.proofs.Common.{◌≡◌, ℕ, ◌+◌, ◌%◌, Bool, true, false, cond, List, [], length, refl, ap, sym, ◌∙◌, subst}
use Rattle.std.specs.Prelude.{slice_index_or, ◌==◌, ◌&&◌, not}
use Rattle.std.specs.List.{count_by}
use Rattle.std.specs.List.Sorted.{IsStrictlyIncreasing}
use Rattle.std.proofs.lemmas.Bool.{and_from, eqb-true}
use Rattle.std.proofs.Math.Nat.{add-zero, zero-add}
use Rattle.bf_buddy.specs.Members.{is_member, without}
use Rattle.bf_buddy.specs.Buddy.{place_of, buddy_of, buddy_place}
use Rattle.bf_buddy.proofs.BuddyLemmas.{place_found, member_found, buddy_within, buddy_at}
use Rattle.bf_program.specs.declared.epoch.Epoch.{Epoch}
use Rattle.bf_program.specs.Laws.{times}
use Rattle.bf_parts.specs.Leaves.{AreAmong, part_of}
use Rattle.bf_lemmas.proofs.Lists.{map_twice}
use Rattle.bf_buddy.proofs.MemberLemmas.{member_filter}
use Rattle.bf_rounds.specs.Delivering.{as_delivery}
use Rattle.bf_rounds.specs.Leading.{LeadsBy, Weighs}
use Rattle.bf_stages.specs.Moves.{Hand, GoesToPeer}
use Rattle.bf_stages.specs.Stages.{World, Follows, HasStages, local_of_stage, after_stage}
use Rattle.bf_stages.specs.Snapshots.{sees_paired, snapshot_play}
use Rattle.bf_rounds.proofs.LeadLemmas.{gathers_by, lens_part}
use Rattle.bf_stages.proofs.MoveLemmas.{move_by, move_weighs}
use Rattle.bf_stages.proofs.SnapshotLemmas.{others_mutual, paired_sight}
use Rattle.bf_stages.proofs.PlanLemmas.{plan_chain}
use Rattle.bf_stages.proofs.StageLemmas.{alone_follows, part_follows, snapshot_follows}
use Rattle.bf_stages.specs.Plans.{IsShort}
use Rattle.bf_beads.specs.declared.bead.Bead.{Bead}
use Rattle.bf_beads.specs.declared.local.BeadLocal.{BeadLocal}
use Rattle.bf_beads.specs.declared.message.BeadMessage.TheVariants.{Told, Moved, Copied}
use Rattle.bf_beads.specs.declared.setup.BeadSetup.{BeadSetup}
use Rattle.bf_beads.specs.declared.stage.Stage.{Stage}
use Rattle.bf_beads.specs.declared.stage.Stage.TheVariants.{Tell, Grow, Move, Snapshot, Over}
use Rattle.bf_beads.specs.Goods.{leaves_of, heard_at, hand_at, local_of_hand, tell_course, moves_course, staging}
use Rattle.bf_beads.specs.Locals.{local_with, told_lens, moved_lens, copied_lens}
use Rattle.bf_beads.specs.Meanings.{beads, pieces}
use Rattle.bf_beads.specs.NeighborLaws.{neighbors_mutual}
use Rattle.bf_beads.specs.Rounds.{is_neighbor, tell_play, goes_to, relinked_one, relinked, bead_move}
use Rattle.bf_beads.specs.Row.{row, grown, value_at, bead_at, beads_at, bead_kind, numbers_of}
use Rattle.bf_beads.specs.RowLaws.{are_beads, links_changed, grown_part, count_numbers}
use Rattle.bf_beads.specs.SpanLaws.{has_pieces}
use Rattle.bf_beads.specs.Stages.{bead_plan}

-- a member's buddy is a member
buddy_member : (members : List ℕ) (rank shift : ℕ) → is_member members rank ≡ true → is_member members (buddy_of members rank shift) ≡ true
buddy_member members rank shift is_in =
    ap (is_member members) (sym (buddy_at members rank shift))
    ∙ member_found members (buddy_place (length members) (place_of members rank) shift) (buddy_within (length members) (place_of members rank) shift (place_found members rank is_in))

pub goes_member : (members : List ℕ) (time number owner : ℕ) → is_member members owner ≡ true → is_member members (goes_to members time number owner) ≡ true
unfolding goes_to
goes_member members time number owner is_in = at ((number + time) % 2 == 0 && is_member members owner)
  where
    at : (b : Bool) → is_member members (cond b (buddy_of members owner 0) owner) ≡ true
    at true = buddy_member members owner 0 is_in
    at false = is_in

-- the rounds of a part of the local, on its own
module _ (count : ℕ) (epoch : Epoch) (up : IsStrictlyIncreasing epoch.members) (time : ℕ) (owner : ℕ → ℕ) where
  abbrev gone : ℕ → ℕ
  gone number = goes_to epoch.members time number (owner number)

  tell_by : LeadsBy (as_delivery tell_play) epoch.members (tell_course count epoch time owner) (λ rank. hand_at count time owner rank [])
      (λ rank. hand_at count time owner rank (heard_at count time epoch.members owner rank))
  unfolding heard_at
  tell_by = gathers_by tell_play (λ peer msg. msg) (hand_at count time owner) epoch.members (λ rank. hand_at count time owner rank [])
      (λ rank. hand_at count time owner rank (heard_at count time epoch.members owner rank)) (λ rank other. is_neighbor rank (part_of (beads_at count time) owner rank) other)
      up (neighbors_mutual count time owner epoch.members) (record { none = λ rank is_in. refl; hear = λ rank peer heard. refl; finish = λ rank is_in. refl })

  to_peer : (number : ℕ) → is_member epoch.members (owner number) ≡ true
      → GoesToPeer {N = List Bead} bead_kind.first (row count) (bead_at count (time + 1) owner) owner gone (λ rank. []) (without epoch.members) number
  to_peer number is_in other =
      member_filter (λ rank. not (rank == owner number)) epoch.members (gone number)
      ∙ and_from (is_member epoch.members (gone number)) (not (gone number == owner number)) (goes_member epoch.members time number (owner number) is_in) (ap not other)

  moves_by : AreAmong epoch.members (beads_at count (time + 1)) owner
      → LeadsBy (bead_move epoch.members time) epoch.members (moves_course count epoch time owner) (λ rank. hand_at count (time + 1) owner rank [])
      (λ rank. hand_at count (time + 1) gone rank [])
  unfolding part_of
  moves_by owned = move_by bead_kind.first (row count) (bead_at count (time + 1) owner) (bead_at count (time + 1) gone) ((are_beads count (time + 1)).rising owner) owner
      gone (λ rank. []) (without epoch.members)
      (λ members hand. without members hand.rank) (λ rank known bead. goes_to epoch.members time bead.number rank) (λ rank known bead. relinked epoch.members time bead)
      epoch.members (λ rank other. not (other == rank)) up (others_mutual epoch.members)
      (λ rank is_in. refl)
      (λ rank is_in k d within its. ap (goes_to epoch.members time (slice_index_or (row count) k d)) (sym (eqb-true (owner (slice_index_or (row count) k d)) rank its)))
      (λ rank is_in k d within its. ap (λ links. record { number = slice_index_or (row count) k d; value = value_at (time + 1) (slice_index_or (row count) k d); links = links })
      (links_changed (relinked_one epoch.members time) count owner gone (slice_index_or (row count) k d) (λ j. refl)))
      owned (λ k d within. to_peer _ (owned k d within))

-- how often beads have a number
abbrev with_number : (unit : ℕ) → List Bead → ℕ
with_number unit beads = count_by (λ (bead : Bead). bead.number == unit) beads

abbrev on_hand : (unit : ℕ) → Hand (List Bead) Bead → ℕ
on_hand unit hand = with_number unit hand.items

tell_weighs : (unit : ℕ) → Weighs (on_hand unit) (λ word. 0) (as_delivery tell_play)
tell_weighs unit = record {
  out = λ hand to. add-zero (on_hand unit hand);
  hear = λ hand peer msg. sym (add-zero (on_hand unit hand));
  finish = λ hand. refl;
}

module _ (setup : BeadSetup) (epoch : Epoch) where
  abbrev n : ℕ
  n = setup.beads

  abbrev LeadsTo : Stage → Stage → Type 0
  LeadsTo stage next = Follows beads staging setup pieces epoch stage next

  abbrev embed : World ℕ → ℕ → Hand (List Bead) Bead → BeadLocal
  embed = local_of_hand n setup.shift epoch

  -- in a local a hand weighs what it does
  hand_weight : (unit : ℕ) (world : World ℕ) (rank : ℕ) (hand : Hand (List Bead) Bead) → times pieces (pieces.of_local (embed world rank hand)) unit ≡ 0 + on_hand unit hand
  hand_weight unit world rank hand = count_numbers unit hand.items ∙ sym (zero-add (on_hand unit hand))

  tell_leads : (time : ℕ) → LeadsTo (Tell time) (Grow time)
  tell_leads time = part_follows beads staging setup pieces epoch (Tell time) (Grow time) (as_delivery tell_play) embed embed Told (λ world. tell_course n epoch time world.owner)
      (λ world rank. hand_at n time world.owner rank []) (λ world rank. hand_at n time world.owner rank (heard_at n time epoch.members world.owner rank)) on_hand (λ unit word. 0) (λ unit world rank. 0)
      (record {
        part = λ world. lens_part told_lens (as_delivery tell_play) (embed world) (record { taken = λ rank n. refl; given = λ rank n now. refl; read = λ word. refl });
        course_is = λ world. refl;
        before_is = λ world rank placed is_in. refl;
        after_is = λ world rank placed is_in. refl;
        leads = λ world placed. tell_by n epoch placed.held.members_rise time world.owner;
        owned = λ world placed. placed.owned;
        also = λ world placed. tt;
        weighs = tell_weighs;
        of_local = hand_weight;
        of_after = hand_weight;
        of_word = λ unit word. refl;
      })

  grow_leads : (time : ℕ) → LeadsTo (Grow time) (Move time)
  grow_leads time = alone_follows beads staging setup pieces epoch (Grow time) (Move time) (Told []) (record {
    course_is = λ world. refl;
    peers = λ local. refl;
    finish = λ world rank placed is_in. ap (λ (items : List Bead). embed world rank (record { rank = rank; known = []; items = items })) (grown_part n time world.owner rank);
    owned = λ world placed. placed.owned;
    also = λ world placed. tt;
    light = λ unit. refl;
    same = λ unit world rank placed is_in.
        ap (λ (items : List Bead). count_by (λ number. number == unit) (numbers_of items)) (sym (grown_part n time world.owner rank))
        ∙ ap (count_by (λ number. number == unit)) (map_twice (λ (bead : Bead). bead.number) (grown time) (λ (bead : Bead). bead.number) (λ bead. refl) (part_of (beads_at n time) world.owner rank));
  })

  -- what comes next has the same beads, and nothing heard
  move_leads : (time : ℕ) (next : Stage)
      → ((world : World ℕ) (rank : ℕ) → embed world rank (hand_at n (time + 1) world.owner rank []) ≡ local_of_stage beads staging setup epoch next world rank)
      → ((owner : ℕ → ℕ) → AreAmong epoch.members (beads_at n (time + 1)) owner → AreAmong epoch.members (leaves_of n epoch next) owner)
      → LeadsTo (Move time) next
  move_leads time next same among = part_follows beads staging setup pieces epoch (Move time) next (bead_move epoch.members time) embed embed Moved (λ world. moves_course n epoch time world.owner)
      (λ world rank. hand_at n (time + 1) world.owner rank []) (λ world rank. hand_at n (time + 1) (λ number. goes_to epoch.members time number (world.owner number)) rank []) on_hand with_number
      (λ unit world rank. 0) (record {
        part = λ world. lens_part moved_lens (bead_move epoch.members time) (embed world) (record { taken = λ rank n. refl; given = λ rank n now. refl; read = λ word. refl });
        course_is = λ world. refl;
        before_is = λ world rank placed is_in. refl;
        after_is = λ world rank placed is_in. same (after_stage beads staging setup epoch (Move time) world) rank;
        leads = λ world placed. moves_by n epoch placed.held.members_rise time world.owner placed.owned;
        owned = λ world placed. among (λ number. goes_to epoch.members time number (world.owner number))
            (λ k d within. goes_member epoch.members time _ (world.owner _) (placed.owned k d within));
        also = λ world placed. tt;
        weighs = λ unit. move_weighs bead_kind.first (λ members hand. without members hand.rank) (λ rank known bead. goes_to epoch.members time bead.number rank)
            (λ rank known bead. relinked epoch.members time bead) (λ (bead : Bead). bead.number == unit) (λ rank known bead. refl);
        of_local = hand_weight;
        of_after = hand_weight;
        of_word = count_numbers;
      })

  snapshot_leads : IsShort epoch → LeadsTo Snapshot Over
  snapshot_leads runs = snapshot_follows beads staging setup pieces epoch Snapshot Over bead_kind (λ (bead : Bead). bead.number) (λ local. []) (λ view heard. refl) (has_pieces setup) runs
      (sees_paired setup.shift) Copied (record {
        sight = paired_sight setup.shift epoch.members;
        part = λ world. lens_part copied_lens (as_delivery (snapshot_play (sees_paired setup.shift) setup.shift epoch)) (λ rank view. local_with view [])
            (record { taken = λ rank n. refl; given = λ rank n now. refl; read = λ word. refl });
        course_is = λ world. refl;
        leaves = refl;
        leaves_after = refl;
        unmade = refl;
        made = refl;
        stays = λ owner. refl;
        work = λ owner rank. refl;
        also = λ world placed. tt;
        light = λ word unit. refl;
      })

pub has_stages : (setup : BeadSetup) → HasStages beads staging setup pieces
has_stages setup epoch runs =
    plan_chain bead_plan (LeadsTo setup epoch) Tell (λ time other. refl) epoch runs
    (λ time. (tell_leads setup epoch time, (grow_leads setup epoch time, (move_leads setup epoch time (Tell (time + 1)) (λ world rank. refl) (λ owner owned. owned), tt))))
    (λ time last. (
      tell_leads setup epoch time,
      (
        grow_leads setup epoch time,
        (
          move_leads setup epoch time Snapshot
              (λ world rank. ap (λ t. local_of_hand setup.beads setup.shift epoch world rank (hand_at setup.beads t world.owner rank [])) last)
              (λ owner owned. subst (λ t. AreAmong epoch.members (beads_at setup.beads t) owner) last owned),
          tt,
        ),
      ),
    ))
    (snapshot_leads setup epoch runs)
