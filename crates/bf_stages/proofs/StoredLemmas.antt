-- What a restore reads, which homes are stored, and to whom a restore gives their parts, in a program of stages.
use Rattle.std.proofs.Common.{◌≡◌, ℕ, ◌+◌, ◌<◌, Bool, true, false, cond, List, [], ◌∷◌, map, filter, arith, refl, sym, ap, ◌∙◌, subst}
use Rattle.std.specs.Prelude.{◌==◌, ◌&&◌, not, nat_lt, IsTrue, All}
use Rattle.std.specs.List.{range_with_len, zip}
use Rattle.std.specs.List.Sorted.{IsStrictlyIncreasing}
use Rattle.std.specs.Map.{keys_of}
use Rattle.std.proofs.lemmas.Bool.Decides.{nat_tests}
use Rattle.std.proofs.lemmas.List.Kept.{IsStrictlyIncreasing-filter}
use Rattle.bf_buddy.proofs.MemberLemmas.{member_head, member_tail, member_filter_from, member_filter_parts, all_members, range_within}
use Rattle.bf_buddy.specs.Losses.{first_lost_of}
use Rattle.bf_buddy.specs.Members.{is_member}
use Rattle.bf_program.specs.declared.epoch.Epoch.{Epoch}
use Rattle.bf_program.specs.Epochs.{first_epoch, epoch_after_commit}
use Rattle.bf_program.specs.Laws.{KeepsReads, KeepsStored, KeepsParts}
use Rattle.bf_program.specs.Lockstep.{next_locals}
use Rattle.bf_program.specs.Meanings.{Meanings, Regions}
use Rattle.bf_program.specs.Restores.{heir_of, restored_epoch, restored_locals, filled_members}
use Rattle.bf_rounds.proofs.CourseLemmas.{next_is}
use Rattle.bf_rounds.proofs.PointLemmas.{told_its}
use Rattle.bf_rounds.specs.Canonical.{IsTold, KeepsTelling}
use Rattle.bf_parts.specs.declared.side.Side.{Side}
use Rattle.bf_parts.specs.Leaves.{Kind, is_filled, side_at}
use Rattle.bf_parts.specs.Sides.{has_items}
use Rattle.bf_parts.specs.Spreads.{view_at, restored_view}
use Rattle.bf_parts.specs.StockLaws.{part_filled}
use Rattle.bf_parts.specs.ViewLaws.{given_seen}
use Rattle.bf_parts.specs.Views.{View}
use Rattle.bf_stages.proofs.StartLemmas.{made_is, keeps_telling, stored_told, first_world, first_placed, opening_told, kept_world, kept_placed, kept_told, regained_world, regained_placed, restored_told}
use Rattle.bf_stages.specs.Stages.{World, Staging, stage_at, trio_of, view_of, after_stage, local_told, telling_of, IsStaged, HasStages, HasSides, HasSpans}

-- the members whose part of the new snapshot has an item
filled_told : {S L M T R : Type 0} (m : Meanings S L M T R) (test : ℕ → Bool) (at : ℕ → L) (members : List ℕ) → ((rank : ℕ) → is_member members rank ≡ true → m.filled (at rank) ≡ test rank)
    → filled_members m members (map at members) ≡ filter test members
unfolding filled_members
filled_told m test at [] filled = refl
filled_told {L = L} m test at (member ∷ members) filled =
    rw (filled member (member_head member members)) (by (test member) (filled_told m test at members (λ rank is_in. filled rank (member_tail member rank members is_in))))
  where
    by : (b : Bool) → keys_of (filter (λ (seat : ℕ × L). m.filled seat.1) (zip members (map at members))) ≡ filter test members
        → keys_of (cond b ((member, at member) ∷ filter (λ (seat : ℕ × L). m.filled seat.1) (zip members (map at members))) (filter (λ (seat : ℕ × L). m.filled seat.1) (zip members (map at members))))
        ≡ cond b (member ∷ filter test members) (filter test members)
    by true later = ap (λ rest. member ∷ rest) later
    by false later = later

stored_homes : (stored homes : List ℕ) (test : ℕ → Bool) → stored ≡ filter test homes → IsStrictlyIncreasing homes
    → IsStrictlyIncreasing stored × All (λ home. IsTrue (is_member homes home)) stored
stored_homes stored homes test same up =
    subst (λ (s : List ℕ). IsStrictlyIncreasing s × All (λ home. IsTrue (is_member homes home)) s) (sym same)
    (IsStrictlyIncreasing-filter test homes up, all_members (λ home. IsTrue (is_member homes home)) (filter test homes) (λ home is_in. (member_filter_parts test homes home is_in).0))

late : (rounds : ℕ) → not (nat_lt rounds rounds) ≡ true
late rounds = grind (arith, nat_tests)

module _ {S K I L N M T G : Type 0} (m : Meanings S L M T (Side I)) (st : Staging S K I L N M G) (kind : Kind I) (setup : S) (staged : IsStaged m st setup) (sides : HasSides m st kind setup) where
  -- what a restore reads changes by a commit alone
  pub reads_kept : KeepsReads m setup
  reads_kept = record {
    out = λ local epoch round to.
        sides.reads (m.out setup local epoch round to).0 ∙ ap (λ (p : L × M). (st.look p.0).active) ((staged.plays epoch round).out local to)
        ∙ (sides.plays epoch (stage_at st setup epoch round)).out local to ∙ sym (sides.reads local);
    take = λ local epoch round peer msg.
        sides.reads (m.take setup local epoch round peer msg) ∙ ap (λ (l : L). (st.look l).active) ((staged.plays epoch round).take local peer msg)
        ∙ (sides.plays epoch (stage_at st setup epoch round)).hear local peer msg ∙ sym (sides.reads local);
    finish = λ local epoch round.
        sides.reads (m.finish setup local epoch round) ∙ ap (λ (l : L). (st.look l).active) ((staged.plays epoch round).finish local)
        ∙ (sides.plays epoch (stage_at st setup epoch round)).finish local ∙ sym (sides.reads local);
    parcel = λ local. sides.reads (m.parcel local).0 ∙ sides.parcel local ∙ sym (sides.reads local);
    restore = λ local rank epoch.
        sides.reads (m.restore setup local rank epoch)
        ∙ ap (λ (l : L). (st.look l).active) (sides.restore local rank epoch)
        ∙ ap (λ (v : View I). v.active) (sides.seen (restored_view kind (m.shift setup) (st.look local).active rank epoch.members) (st.fresh setup epoch rank))
        ∙ sym (sides.reads local);
    alone = λ local other rank epoch same.
        sides.restore local rank epoch
        ∙ ap (λ (s : Side I). st.put (restored_view kind (m.shift setup) s rank epoch.members) (st.fresh setup epoch rank)) (sym (sides.reads local) ∙ same ∙ sides.reads other)
        ∙ sym (sides.restore other rank epoch);
  }

  -- a told local has its side of the agreed snapshot
  pub reads_told : (epoch : Epoch) (round : ℕ) (world : World K) (rank : ℕ)
      → m.reads (local_told m st setup epoch round world rank) ≡ side_at epoch.time epoch.homes (m.shift setup) (st.at setup epoch.time) world.home rank
  reads_told epoch round world rank =
      let stage : G = stage_at st setup epoch round in
      sides.reads (local_told m st setup epoch round world rank)
      ∙ ap (λ (v : View I). v.active) (sides.seen (view_of m st setup epoch stage world rank) (st.work setup epoch stage world.owner rank))

  module _ {B U : Type 0} (regions : Regions S L M T (Side I) B U) (stages : HasStages m st setup regions) where
    keeps : KeepsTelling m (telling_of m st) setup
    keeps = keeps_telling m st setup staged regions stages

    stored_by : (epoch : Epoch) (round : ℕ) (locals : List L) (told : IsTold (telling_of m st) setup epoch round locals)
        → m.stored locals ≡ filter (is_filled (st.at setup epoch.time) told.world.home) epoch.homes
    stored_by epoch round locals told = ap m.stored told.are ∙ stored_told m st kind setup sides epoch round told.world told.fits

    -- to whom a restore gives which parts
    pub given_kept : KeepsParts m (IsTold (telling_of m st)) setup
    given_kept = record {
      given = λ epoch round locals lives rank local told none its live home.
          let at = told_its m (telling_of m st) setup keeps epoch round locals rank local told its in
          let side : Side I = side_at epoch.time epoch.homes (m.shift setup) (st.at setup epoch.time) told.world.home rank in
          ap (λ (s : Side I). is_member (m.given setup s rank (restored_epoch lives epoch)) home) (ap m.reads at.1 ∙ reads_told epoch round told.world rank)
          ∙ ap (λ homes. is_member homes home) (sides.given side rank (restored_epoch lives epoch))
          ∙ given_seen epoch.time epoch.homes (filter lives epoch.members) (m.shift setup) (st.at setup epoch.time) told.world.home rank home told.fits.held.homes_rise
          (told.fits.held.among rank at.0) (member_filter_from lives epoch.members rank at.0 live)
          ∙ ap (λ homes. is_member homes home && (heir_of epoch.homes (filter lives epoch.members) (m.shift setup) home == rank)) (sym (stored_by epoch round locals told));
    }

    module _ (spans : HasSpans m st kind setup) where
      -- a rank's part of the new snapshot has an item where it owns a leaf
      filled_is : (epoch : Epoch) (world : World K) (rank : ℕ) → m.filled (local_told m st setup epoch (m.rounds setup epoch) world rank) ≡ is_filled (st.at setup epoch.target) world.owner rank
      filled_is epoch world rank =
          let stage : G = stage_at st setup epoch (m.rounds setup epoch) in
          let made : st.made stage ≡ true = made_is m st setup staged epoch (m.rounds setup epoch) ∙ late (m.rounds setup epoch) in
          sides.filled (local_told m st setup epoch (m.rounds setup epoch) world rank)
          ∙ ap (λ (v : View I). has_items v.spare.own) (sides.seen (view_of m st setup epoch stage world rank) (st.work setup epoch stage world.owner rank))
          ∙ ap (λ (b : Bool). has_items (view_at (m.shift setup) epoch b (trio_of m st setup epoch stage) world.owner world.home rank).spare.own) made
          ∙ part_filled (st.at setup epoch.target) world.owner rank

      -- the stored homes
      pub stored_kept : KeepsStored m (IsTold (telling_of m st)) setup
      stored_kept = record {
        laid = subst (λ (homes : List ℕ). All (λ rank. rank < m.ranks setup) homes) (sym spans.laid)
            (all_members (λ rank. rank < m.ranks setup) (filter (is_filled (st.at setup 0) spans.home_of) (range_with_len 0 (m.ranks setup)))
            (λ rank is_in.
            let below : rank < 0 + m.ranks setup =
            range_within 0 (m.ranks setup) rank (member_filter_parts (is_filled (st.at setup 0) spans.home_of) (range_with_len 0 (m.ranks setup)) rank is_in).0 in
            omega arith));
        opening = ap m.stored (opening_told m st kind setup staged sides spans)
            ∙ stored_told m st kind setup sides (first_epoch (m.ranks setup) (m.steps setup) (m.interval setup)) 0 (first_world m st kind setup staged sides spans)
            (first_placed m st kind setup staged sides spans)
            ∙ sym spans.laid;
        homes = λ epoch round locals told.
            stored_homes (m.stored locals) epoch.homes (is_filled (st.at setup epoch.time) told.world.home) (stored_by epoch round locals told) told.fits.held.homes_rise;
        next = λ epoch round locals told within.
            let stage : G = stage_at st setup epoch round in
            let after : World K = after_stage m st setup epoch stage told.world in
            ap (λ (ls : List L). m.stored (next_locals m setup epoch round ls)) told.are
            ∙ ap m.stored (next_is m setup epoch round (st.course setup epoch stage told.world) (local_told m st setup epoch round told.world)
            (local_told m st setup epoch (round + 1) after) (keeps.leads epoch round told.world told.fits within))
            ∙ stored_told m st kind setup sides epoch (round + 1) after (keeps.fits epoch round told.world told.fits within)
            ∙ sym (stored_by epoch round locals told);
        keep = λ epoch locals told goes_on.
            let after : Epoch = epoch_after_commit (m.steps setup) (m.interval setup) epoch in
            let world : World K = told.world in
            ap (λ (ls : List L). m.stored (map m.keep ls)) told.are
            ∙ ap m.stored (kept_told m st kind setup staged sides spans epoch world told.fits goes_on)
            ∙ stored_told m st kind setup sides after 0 (kept_world m st kind setup staged sides spans world) (kept_placed m st kind setup staged sides spans epoch world told.fits goes_on)
            ∙ sym (filled_told m (is_filled (st.at setup epoch.target) world.owner) (local_told m st setup epoch (m.rounds setup epoch) world) epoch.members
            (λ rank is_in. filled_is epoch world rank))
            ∙ ap (filled_members m epoch.members) (sym told.are);
        restore = λ epoch round locals lives told none.
            let world : World K = told.world in
            let regained : World K = regained_world m st kind setup staged sides spans epoch lives world in
            ap (λ (ls : List L). m.stored (restored_locals m setup epoch lives ls)) told.are
            ∙ ap m.stored (restored_told m st kind setup staged sides spans epoch round world lives told.fits)
            ∙ stored_told m st kind setup sides (restored_epoch lives epoch) 0 regained
            (regained_placed m st kind setup staged sides spans epoch round world lives told.fits
            (ap (λ (ls : List L). first_lost_of epoch.homes (m.stored ls) (filter lives epoch.members) (m.shift setup)) (sym told.are) ∙ none))
            ∙ sym (stored_by epoch round locals told);
      }
