-- In a program of stages no piece comes or goes, and together told locals hold each unit of the domain once.
use Rattle.std.proofs.Common.{◌≡◌, ℕ, ◌+◌, Bool, List, [], map, filter, refl, sym, ap, ◌∙◌, subst}
use Rattle.std.specs.Prelude.{IsTrue, Some}
use Rattle.std.specs.List.{count_by, flat_map, sum_by}
use Rattle.std.proofs.Math.Nat.{add-zero}
use Rattle.bf_buddy.proofs.MemberLemmas.{member_filter_from}
use Rattle.bf_buddy.specs.Members.{is_member}
use Rattle.bf_program.specs.declared.epoch.Epoch.{Epoch}
use Rattle.bf_program.specs.Laws.{times, is_holder, KeepsGood, KeepsRegions}
use Rattle.bf_program.specs.Lockstep.{local_of}
use Rattle.bf_program.specs.Meanings.{Meanings, Regions}
use Rattle.bf_program.specs.Restores.{restored_epoch}
use Rattle.bf_rounds.proofs.PointLemmas.{told_its, sending_told, receiving_told, finishing_told}
use Rattle.bf_rounds.specs.Canonical.{IsTold, KeepsTelling}
use Rattle.bf_parts.specs.declared.side.Side.{Side}
use Rattle.bf_parts.specs.Counts.{count_append}
use Rattle.bf_parts.specs.CoverLaws.{count_mapped, count_told, given_back, parts_counted, saved_is}
use Rattle.bf_parts.specs.Leaves.{Kind, part_of, side_at}
use Rattle.bf_parts.specs.Merges.{regained}
use Rattle.bf_parts.specs.Sides.{saved_of}
use Rattle.bf_parts.specs.Spreads.{restored_view}
use Rattle.bf_parts.specs.Views.{View}
use Rattle.bf_stages.proofs.StartLemmas.{follows_at, keeps_telling}
use Rattle.bf_stages.proofs.StoredLemmas.{reads_told}
use Rattle.bf_stages.specs.Stages.{World, Staging, stage_at, view_of, IsPlaced, local_told, telling_of, IsStaged, HasStages, HasSides, HasPieces}

module _ {S K I L N M T G B U : Type 0} (m : Meanings S L M T (Side I)) (st : Staging S K I L N M G) (kind : Kind I) (setup : S) (staged : IsStaged m st setup) (sides : HasSides m st kind setup)
    (regions : Regions S L M T (Side I) B U) (stages : HasStages m st setup regions) (box : I → B) (cargo : L → List B) (pieces : HasPieces m st kind setup regions box cargo) where
  abbrev covers : U → I → Bool
  covers unit item = regions.holds (box item) unit

  abbrev weigh : U → L → ℕ
  weigh unit local = times regions (regions.of_local local) unit

  abbrev weigh_message : U → M → ℕ
  weigh_message unit msg = times regions (regions.of_message msg) unit

  keeps : KeepsTelling m (telling_of m st) setup
  keeps = keeps_telling m st setup staged regions stages

  -- what a local weighs
  boxes_weigh : (unit : U) (items : List I) → times regions (map box items) unit ≡ count_by (covers unit) items
  boxes_weigh unit items = count_mapped box (λ b. regions.holds b unit) (covers unit) (λ item. refl) items

  weighs : (unit : U) (local : L) → weigh unit local ≡ count_by (covers unit) (st.look local).items + times regions (cargo local) unit
  weighs unit local =
      ap (λ (bs : List B). times regions bs unit) (pieces.of_local local)
      ∙ count_append (λ b. regions.holds b unit) (map box (st.look local).items) (cargo local)
      ∙ ap (λ n. n + times regions (cargo local) unit) (boxes_weigh unit (st.look local).items)

  weighs_items : (unit : U) (local : L) → cargo local ≡ [] → weigh unit local ≡ count_by (covers unit) (st.look local).items
  weighs_items unit local none =
      weighs unit local ∙ ap (λ (bs : List B). count_by (covers unit) (st.look local).items + times regions bs unit) none
      ∙ add-zero (count_by (covers unit) (st.look local).items)

  -- a told local has no cargo
  told_cargo : (epoch : Epoch) (round : ℕ) (world : World K) (rank : ℕ) → IsPlaced m st setup epoch round world → cargo (local_told m st setup epoch round world rank) ≡ []
  told_cargo epoch round world rank placed = pieces.no_cargo epoch (stage_at st setup epoch round) (view_of m st setup epoch (stage_at st setup epoch round) world rank) world.owner rank placed.runs

  its_cargo : (epoch : Epoch) (round : ℕ) (locals : List L) (rank : ℕ) (local : L) → IsTold (telling_of m st) setup epoch round locals
      → local_of epoch.members locals rank ≡ Some local → cargo local ≡ []
  its_cargo epoch round locals rank local is its =
      ap cargo (told_its m (telling_of m st) setup keeps epoch round locals rank local is its).1 ∙ told_cargo epoch round is.world rank is.fits

  -- together told locals hold each unit once
  whole_at : (epoch : Epoch) (round : ℕ) (world : World K) (unit : U) → IsPlaced m st setup epoch round world → IsTrue (regions.is_in_domain setup unit)
      → times regions (flat_map regions.of_local (map (local_told m st setup epoch round world) epoch.members)) unit ≡ 1
  whole_at epoch round world unit placed within =
      let stage : G = stage_at st setup epoch round in
      count_told (λ b. regions.holds b unit) regions.of_local (local_told m st setup epoch round world)
      (λ rank. count_by (covers unit) (part_of (st.leaves setup epoch stage) world.owner rank)) epoch.members
      (λ rank is_in.
      weighs_items unit (local_told m st setup epoch round world rank) (told_cargo epoch round world rank placed)
      ∙ ap (λ (v : View I). count_by (covers unit) v.items) (sides.seen (view_of m st setup epoch stage world rank) (st.work setup epoch stage world.owner rank)))
      ∙ parts_counted (st.leaves setup epoch stage) world.owner (covers unit) epoch.members placed.held.members_rise placed.owned
      ∙ pieces.once epoch stage world.owner unit placed.runs within

  -- a restored rank has the pieces of the parts that it is given
  restored_at : (epoch : Epoch) (round : ℕ) (locals : List L) (lives : ℕ → Bool) (rank : ℕ) (local : L) (unit : U) → IsTold (telling_of m st) setup epoch round locals
      → local_of epoch.members locals rank ≡ Some local → IsTrue (lives rank)
      → weigh unit (m.restore setup local rank (restored_epoch lives epoch))
      ≡ sum_by (λ home. times regions (regions.of_saved (m.reads local) rank home) unit) (m.given setup (m.reads local) rank (restored_epoch lives epoch))
  restored_at epoch round locals lives rank local unit is its live =
      let at = told_its m (telling_of m st) setup keeps epoch round locals rank local is its in
      let live_list : List ℕ = filter lives epoch.members in
      let after : Epoch = restored_epoch lives epoch in
      let side : Side I = side_at epoch.time epoch.homes (m.shift setup) (st.at setup epoch.time) is.world.home rank in
      let agreed : (st.look local).active ≡ side = sym (sides.reads local) ∙ ap m.reads at.1 ∙ reads_told m st kind setup staged sides epoch round is.world rank in
      let seen : View I = restored_view kind (m.shift setup) (st.look local).active rank live_list in
      ap (weigh unit) (sides.restore local rank after)
      ∙ weighs_items unit (st.put seen (st.fresh setup after rank)) (pieces.fresh_cargo seen after rank)
      ∙ ap (λ (v : View I). count_by (covers unit) v.items) (sides.seen seen (st.fresh setup after rank))
      ∙ ap (λ (s : Side I). count_by (covers unit) (regained kind s (m.shift setup) live_list)) agreed
      ∙ given_back kind (covers unit) (λ f item. pieces.blind f item unit) epoch.time epoch.homes live_list (m.shift setup) (st.at setup epoch.time) is.world.home rank
      is.fits.held.homes_rise (is.fits.held.among rank at.0) (member_filter_from lives epoch.members rank at.0 live)
      ∙ ap (sum_by (λ home. count_by (covers unit) (saved_of side rank home))) (sym (sides.given side rank after))
      ∙ ap (λ (f : ℕ → ℕ). sum_by f (m.given setup side rank after)) (λ i home. sym (saved_weighs unit side rank home) i)
      ∙ ap (λ (s : Side I). sum_by (λ home. times regions (regions.of_saved s rank home) unit) (m.given setup s rank after)) (sym (sides.reads local ∙ agreed))
    where
      saved_weighs : (unit : U) (side : Side I) (rank home : ℕ) → times regions (regions.of_saved side rank home) unit ≡ count_by (covers unit) (saved_of side rank home)
      saved_weighs unit side rank home = ap (λ (bs : List B). times regions bs unit) (pieces.of_saved side rank home) ∙ boxes_weigh unit (saved_of side rank home)

  -- what a holder has of a home's part
  saved_at : (epoch : Epoch) (round : ℕ) (locals : List L) (rank home : ℕ) (local : L) (unit : U) (is : IsTold (telling_of m st) setup epoch round locals)
      → local_of epoch.members locals rank ≡ Some local → IsTrue (is_member epoch.homes home) → IsTrue (is_holder epoch.homes (m.shift setup) home rank)
      → times regions (regions.of_saved (m.reads local) rank home) unit ≡ times regions (map box (part_of (st.at setup epoch.time) is.world.home home)) unit
  saved_at epoch round locals rank home local unit is its is_home holds =
      let at = told_its m (telling_of m st) setup keeps epoch round locals rank local is its in
      ap (λ (bs : List B). times regions bs unit) (pieces.of_saved (m.reads local) rank home)
      ∙ ap (λ (s : Side I). times regions (map box (saved_of s rank home)) unit) (ap m.reads at.1 ∙ reads_told m st kind setup staged sides epoch round is.world rank)
      ∙ ap (λ (items : List I). times regions (map box items) unit)
      (saved_is epoch.time epoch.homes (m.shift setup) (st.at setup epoch.time) is.world.home rank home is.fits.held.homes_rise is_home holds)

  pub pieces_kept : KeepsGood m (IsTold (telling_of m st)) setup → KeepsRegions m regions (IsTold (telling_of m st)) setup
  pieces_kept goods = record {
    out = λ epoch round to local unit is.
        let at = sending_told m (telling_of m st) setup keeps goods epoch round to local is in
        let follows = follows_at m st setup staged regions stages epoch round at.fits.runs at.within in
        let leads = keeps.leads epoch round at.world at.fits at.within in
        ap (λ (p : L × M). weigh unit p.0 + weigh_message unit p.1) (ap (λ (l : L). m.out setup l epoch round to) at.is ∙ leads.out at.rank to at.done at.rest at.member at.next)
        ∙ (follows.conserves at.world unit at.fits).out at.rank to at.done at.rest at.member at.next
        ∙ ap (weigh unit) (sym at.is);
    take = λ epoch round peer msg local unit is.
        let at = receiving_told m (telling_of m st) setup keeps goods epoch round peer msg local is in
        let follows = follows_at m st setup staged regions stages epoch round at.fits.runs at.within in
        let leads = keeps.leads epoch round at.world at.fits at.within in
        let course = st.course setup epoch (stage_at st setup epoch round) at.world in
        ap (λ (l : L). weigh unit (m.take setup l epoch round peer msg)) at.is
        ∙ ap (λ (msg : M). weigh unit (m.take setup (course.heard at.rank at.done) epoch round peer msg)) at.says
        ∙ ap (weigh unit) (leads.take at.rank peer at.done at.rest at.member at.next)
        ∙ (follows.conserves at.world unit at.fits).take at.rank peer at.done at.rest at.member at.next
        ∙ ap (λ (l : L). weigh unit l + weigh_message unit (course.told peer at.rank)) (sym at.is)
        ∙ ap (λ (msg : M). weigh unit local + weigh_message unit msg) (sym at.says);
    finish = λ epoch round local unit is.
        let at = finishing_told m (telling_of m st) setup keeps goods epoch round local is in
        let follows = follows_at m st setup staged regions stages epoch round at.fits.runs at.within in
        let leads = keeps.leads epoch round at.world at.fits at.within in
        ap (λ (l : L). weigh unit (m.finish setup l epoch round)) at.is
        ∙ ap (weigh unit) (leads.finish at.rank at.member)
        ∙ (follows.conserves at.world unit at.fits).finish at.rank at.member
        ∙ ap (weigh unit) (sym at.is);
    keep = λ local unit.
        weighs unit (m.keep local)
        ∙ ap (λ (v : View I). count_by (covers unit) v.items + times regions (cargo (m.keep local)) unit) (sides.keep local)
        ∙ ap (λ (bs : List B). count_by (covers unit) (st.look local).items + times regions bs unit) (pieces.keep_cargo local)
        ∙ sym (weighs unit local);
    parcel = λ epoch locals rank local unit is its. (
      ap (λ (bs : List B). times regions bs unit) (pieces.of_parcel local) ∙ boxes_weigh unit (st.look local).items
          ∙ sym (weighs_items unit local (its_cargo epoch (m.rounds setup epoch) locals rank local is its)),
      weighs_items unit (m.parcel local).0 (pieces.parcel_cargo local ∙ its_cargo epoch (m.rounds setup epoch) locals rank local is its)
          ∙ ap (count_by (covers unit)) (pieces.parcel_items local),
    );
    restore = λ epoch round locals lives rank local unit is none its live. restored_at epoch round locals lives rank local unit is its live;
    saved = λ epoch round locals a b home of_a of_b unit is its_a its_b is_home holds_a holds_b.
        saved_at epoch round locals a home of_a unit is its_a is_home holds_a ∙ sym (saved_at epoch round locals b home of_b unit is its_b is_home holds_b);
    whole = λ epoch round locals unit is within.
        subst (λ (ls : List L). times regions (flat_map regions.of_local ls) unit ≡ 1) (sym is.are) (whole_at epoch round is.world unit is.fits within);
  }
