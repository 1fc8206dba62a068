-- Kinds of stages that lead to the next, chains of stages, and all laws of a program of stages.
use Rattle.std.proofs.Common.{◌≡◌, ℕ, suc, zero, ◌+◌, ◌<◌, ◌≤◌, Bool, true, false, List, [], ◌∷◌, ◌++◌, map, arith, refl, sym, ap, ◌∙◌, subst}
use Rattle.std.specs.Prelude.{Option}
use Rattle.std.specs.List.{flat_map, range_with_len, count_by}
use Rattle.bf_program.specs.declared.epoch.Epoch.{Epoch}
use Rattle.bf_program.specs.Laws.{times, KeepsGood, KeepsLimits, Laws}
use Rattle.bf_program.specs.Meanings.{Meanings, Regions}
use Rattle.bf_rounds.proofs.LeadLemmas.{leads_same, conserves_same, alone_by, part_by, part_conserves, still_conserves, weighs_conserves}
use Rattle.bf_rounds.proofs.PointLemmas.{peers_told}
use Rattle.bf_rounds.proofs.StartLemmas.{goods_told}
use Rattle.bf_rounds.specs.Canonical.{IsTold, KeepsTelling}
use Rattle.bf_rounds.specs.Courses.{Course}
use Rattle.bf_rounds.specs.Delivering.{Delivery, as_delivery}
use Rattle.bf_rounds.specs.Leading.{LeadsBy, Lens, through, alone, lifted, Conserves}
use Rattle.bf_parts.specs.declared.side.Side.{Side}
use Rattle.bf_parts.specs.Counts.{count_append}
use Rattle.bf_parts.specs.CoverLaws.{count_mapped}
use Rattle.bf_parts.specs.Leaves.{Kind, Leaves, AreAmong}
use Rattle.bf_parts.specs.Spreads.{Trio, view_at}
use Rattle.bf_parts.specs.Views.{View}
use Rattle.bf_stages.proofs.PieceLemmas.{pieces_kept}
use Rattle.bf_stages.proofs.SnapshotLemmas.{snapshot_by, snapshot_weighs}
use Rattle.bf_stages.proofs.StartLemmas.{keeps_telling, keeps_starts}
use Rattle.bf_stages.proofs.StoredLemmas.{reads_kept, given_kept, stored_kept}
use Rattle.bf_stages.specs.Snapshots.{snapshot_play, snapshot_course}
use Rattle.bf_stages.specs.Stages.{World, Staging, head_of, Chain, trio_of, local_of_stage, after_stage, telling_of, IsStaged, Follows, HasStages, IsPartStage, IsAloneStage, IsSnapshotStage, KeepsSide, HasSides, HasSpans, HasPieces}

-- one chain behind another
pub chain_append : {G : Type 0} (R : G → G → Type 0) (xs ys : List G) (last : G) → Chain R xs (head_of ys last) → Chain R ys last → Chain R (xs ++ ys) last
chain_append R [] ys last first then = then
chain_append {G = G} R (x ∷ xs) ys last first then = (subst (λ (g : G). R x g) (head_of_both xs ys) first.0, chain_append R xs ys last first.1 then)
  where
    head_of_both : (xs ys : List G) → head_of xs (head_of ys last) ≡ head_of (xs ++ ys) last
    head_of_both [] ys = refl
    head_of_both (x ∷ xs) ys = refl

-- the stages of one time after another, from the gate of each to the gate of the next
pub times_chain : {G : Type 0} (R : G → G → Type 0) (stages : ℕ → List G) (gate : ℕ → G) (rest : List G) (last : G) (first count : ℕ)
    → ((time : ℕ) (other : G) → head_of (stages time) other ≡ gate time)
    → ((time : ℕ) → first ≤ time → time + 1 < first + count → Chain R (stages time) (gate (time + 1)))
    → ((time : ℕ) → first ≤ time → time + 1 ≡ first + count → Chain R (stages time) (head_of rest last))
    → Chain R rest last → Chain R (flat_map stages (range_with_len first count) ++ rest) last
times_chain R stages gate rest last first zero heads inner outer end = end
times_chain {G = G} R stages gate rest last first (suc zero) heads inner outer end =
    subst (λ (xs : List G). Chain R (xs ++ rest) last) (sym (one (stages first))) (chain_append R (stages first) rest last (outer first (omega arith) (omega arith)) end)
  where
    one : (xs : List G) → xs ++ [] ≡ xs
    one [] = refl
    one (x ∷ xs) = ap (λ rest. x ∷ rest) (one xs)
times_chain {G = G} R stages gate rest last first (suc (suc count)) heads inner outer end =
    let others : List G = flat_map stages (range_with_len (first + 1) (suc count)) in
    subst (λ (xs : List G). Chain R xs last) (sym (assoc (stages first) others rest))
    (chain_append R (stages first) (others ++ rest) last
    (subst (λ (g : G). Chain R (stages first) g) (sym (gated (stages (first + 1)) (flat_map stages (range_with_len (first + 1 + 1) count)) (heads (first + 1))))
    (inner first (omega arith) (omega arith)))
    (times_chain R stages gate rest last (first + 1) (suc count) heads (λ time low high. inner time (omega arith) (omega arith)) (λ time low high. outer time (omega arith) (omega arith)) end))
  where
    assoc : (xs ys zs : List G) → (xs ++ ys) ++ zs ≡ xs ++ (ys ++ zs)
    assoc [] ys zs = refl
    assoc (x ∷ xs) ys zs = ap (λ rest. x ∷ rest) (assoc xs ys zs)

    gated : (xs ys : List G) → ((other : G) → head_of xs other ≡ gate (first + 1)) → head_of ((xs ++ ys) ++ rest) last ≡ gate (first + 1)
    gated [] ys heads = heads _
    gated (x ∷ xs) ys heads = heads last

-- a play through a lens leaves the side where the lens does
pub lens_keeps : {L N M K I : Type 0} (look : L → View I) (lens : Lens L N M K) (play : Delivery N K) → ((local : L) (n : N) → (look (lens.give local n)).active ≡ (look local).active)
    → KeepsSide look (through lens play)
lens_keeps look lens play same = record {
  out = λ local to. same local (play.out (lens.take local) to).0;
  hear = λ local peer msg. same local (play.hear (lens.take local) peer (lens.unwrap msg));
  finish = λ local. same local (play.finish (lens.take local));
}

-- one kind of stage
module _ {S K I L N M T G B U : Type 0} (m : Meanings S L M T (Side I)) (st : Staging S K I L N M G) (setup : S) (regions : Regions S L M T (Side I) B U) (epoch : Epoch) (stage next : G) where
  abbrev weighing : U → L → ℕ
  weighing unit local = times regions (regions.of_local local) unit

  abbrev weighing_message : U → M → ℕ
  weighing_message unit msg = times regions (regions.of_message msg) unit

  -- on a part of the local
  pub part_follows : {P W : Type 0} (play : Delivery P W) (embed embed_after : World K → ℕ → P → L) (wrap : W → M) (course : World K → Course P W) (before after : World K → ℕ → P) (weigh : U → P → ℕ)
      (weigh_word : U → W → ℕ) (base : U → World K → ℕ → ℕ) → IsPartStage m st setup regions epoch stage next play embed embed_after wrap course before after weigh weigh_word base
      → Follows m st setup regions epoch stage next
  part_follows play embed embed_after wrap course before after weigh weigh_word base is = record {
    leads = λ world placed.
        subst (λ (c : Course L M). LeadsBy (st.play setup epoch stage) epoch.members c (local_of_stage m st setup epoch stage world) (local_of_stage m st setup epoch next (after_stage m st setup epoch stage world)))
        (sym (is.course_is world))
        (leads_same (st.play setup epoch stage) epoch.members (lifted (embed world) wrap (course world)) (λ rank. embed world rank (before world rank)) (λ rank. embed_after world rank (after world rank))
        (local_of_stage m st setup epoch stage world) (local_of_stage m st setup epoch next (after_stage m st setup epoch stage world))
        (λ rank member. is.before_is world rank placed member) (λ rank member. is.after_is world rank placed member)
        (part_by play (st.play setup epoch stage) (embed world) (embed_after world) wrap (is.part world) epoch.members (course world) (before world) (after world) (is.leads world placed)));
    owned = is.owned;
    also = is.also;
    conserves = λ world unit placed.
        subst (λ (c : Course L M). Conserves (weighing unit) (weighing_message unit) epoch.members c (local_of_stage m st setup epoch next (after_stage m st setup epoch stage world))) (sym (is.course_is world))
        (conserves_same (weighing unit) (weighing_message unit) epoch.members (lifted (embed world) wrap (course world)) (λ rank. embed_after world rank (after world rank))
        (local_of_stage m st setup epoch next (after_stage m st setup epoch stage world)) (λ rank member. is.after_is world rank placed member)
        (part_conserves (weighing unit) (weighing_message unit) (weigh unit) (weigh_word unit) (embed world) (embed_after world) wrap (base unit world) (is.of_local unit world) (is.of_after unit world) (is.of_word unit)
        epoch.members (course world) (after world)
        (weighs_conserves (weigh unit) (weigh_word unit) play (is.weighs unit) epoch.members (course world) (before world) (after world) (is.leads world placed))));
  }

  -- alone
  pub alone_follows : (nothing : M) → IsAloneStage m st setup regions epoch stage next nothing → Follows m st setup regions epoch stage next
  alone_follows nothing is = record {
    leads = λ world placed.
        subst (λ (c : Course L M). LeadsBy (st.play setup epoch stage) epoch.members c (local_of_stage m st setup epoch stage world) (local_of_stage m st setup epoch next (after_stage m st setup epoch stage world)))
        (sym (is.course_is world))
        (alone_by (st.play setup epoch stage) nothing epoch.members (local_of_stage m st setup epoch stage world) (local_of_stage m st setup epoch next (after_stage m st setup epoch stage world))
        (λ rank member. is.peers (local_of_stage m st setup epoch stage world rank)) (λ rank member. is.finish world rank placed member));
    owned = is.owned;
    also = is.also;
    conserves = λ world unit placed.
        subst (λ (c : Course L M). Conserves (weighing unit) (weighing_message unit) epoch.members c (local_of_stage m st setup epoch next (after_stage m st setup epoch stage world))) (sym (is.course_is world))
        (still_conserves (weighing unit) (weighing_message unit) epoch.members (alone nothing (local_of_stage m st setup epoch stage world))
        (local_of_stage m st setup epoch next (after_stage m st setup epoch stage world)) (λ rank. weighing unit (local_of_stage m st setup epoch stage world rank))
        (λ from to. is.light unit) (λ rank done. refl) (λ rank done. refl) (λ rank member. is.same unit world rank placed member));
  }

  -- the snapshot
  module _ (kind : Kind I) (box : I → B) (cargo : L → List B) (seen : (view : View I) (work : N) → st.look (st.put view work) ≡ view) (pieces : HasPieces m st kind setup regions box cargo) (runs : st.Runs setup epoch)
      (sees : (members : List ℕ) → (rank other : ℕ) → Bool) (wrap : Option (List I) → M) (is : IsSnapshotStage m st setup regions sees epoch stage next wrap) where
    abbrev trio_now : Trio K I
    trio_now = trio_of m st setup epoch stage

    abbrev held : World K → ℕ → View I → L
    held world rank view = st.put view (st.work setup epoch stage world.owner rank)

    holds : (unit : U) (world : World K) (rank : ℕ) (view : View I) → times regions (regions.of_local (held world rank view)) unit ≡ 0 + count_by (λ item. regions.holds (box item) unit) view.items
    holds unit world rank view =
        ap (λ (bs : List B). times regions bs unit) (pieces.of_local (held world rank view))
        ∙ ap (λ (v : View I). times regions (map box v.items ++ cargo (held world rank view)) unit) (sides_seen view world rank)
        ∙ ap (λ (bs : List B). times regions (map box view.items ++ bs) unit) (pieces.no_cargo epoch stage view world.owner rank runs)
        ∙ count_append (λ b. regions.holds b unit) (map box view.items) []
        ∙ ap (λ n. n + 0) (count_mapped box (λ b. regions.holds b unit) (λ item. regions.holds (box item) unit) (λ item. refl) view.items)
        ∙ turned (count_by (λ item. regions.holds (box item) unit) view.items)
      where
        turned : (n : ℕ) → n + 0 ≡ 0 + n
        turned n = omega arith

        sides_seen : (view : View I) (world : World K) (rank : ℕ) → st.look (held world rank view) ≡ view
        sides_seen view world rank = seen view (st.work setup epoch stage world.owner rank)

    pub snapshot_follows : Follows m st setup regions epoch stage next
    snapshot_follows = part_follows (as_delivery (snapshot_play sees (m.shift setup) epoch)) held held wrap (λ world. snapshot_course sees (m.shift setup) epoch trio_now world.owner world.home)
        (λ world rank. view_at (m.shift setup) epoch false trio_now world.owner world.home rank) (λ world rank. view_at (m.shift setup) epoch true trio_now world.owner world.home rank)
        (λ unit view. count_by (λ item. regions.holds (box item) unit) view.items) (λ unit word. 0) (λ unit world rank. 0)
        (record {
          part = is.part;
          course_is = is.course_is;
          before_is = λ world rank placed member. ap (λ (b : Bool). held world rank (view_at (m.shift setup) epoch b trio_now world.owner world.home rank)) (sym is.unmade);
          after_is = λ world rank placed member.
              ap (λ (b : Bool). held world rank (view_at (m.shift setup) epoch b trio_now world.owner world.home rank)) (sym is.made)
              ∙ ap (λ (ls : Leaves K I). held world rank (view_at (m.shift setup) epoch (st.made next) (record { now = ls; agreed = st.at setup epoch.time; new = st.at setup epoch.target }) world.owner world.home rank))
              (is.leaves ∙ sym is.leaves_after)
              ∙ ap (λ (work : N). st.put (view_at (m.shift setup) epoch (st.made next) (record { now = st.leaves setup epoch next; agreed = st.at setup epoch.time; new = st.at setup epoch.target }) world.owner world.home rank) work)
              (sym (is.work world.owner rank))
              ∙ ap (λ (owner : K → ℕ). local_of_stage m st setup epoch next (record { home = world.home; owner = owner }) rank) (sym (is.stays world.owner));
          leads = λ world placed. snapshot_by sees (m.shift setup) epoch is.sight trio_now is.leaves world.owner world.home placed.held.members_rise;
          owned = λ world placed.
              subst (λ (owner : K → ℕ). AreAmong epoch.members (st.leaves setup epoch next) owner) (sym (is.stays world.owner))
              (subst (λ (ls : Leaves K I). AreAmong epoch.members ls world.owner) (is.leaves ∙ sym is.leaves_after) placed.owned);
          also = λ world placed. subst (λ (owner : K → ℕ). st.Also setup epoch next owner) (sym (is.stays world.owner)) (is.also world placed);
          weighs = λ unit. snapshot_weighs sees (m.shift setup) epoch (λ item. regions.holds (box item) unit);
          of_local = λ unit world rank view. holds unit world rank view;
          of_after = λ unit world rank view. holds unit world rank view;
          of_word = λ unit word. is.light word unit;
        })

-- all laws of a program of stages
module _ {S K I L N M T G : Type 0} (m : Meanings S L M T (Side I)) (st : Staging S K I L N M G) (kind : Kind I) (setup : S) (staged : IsStaged m st setup) where
  module _ {B U : Type 0} (regions : Regions S L M T (Side I) B U) (box : I → B) (cargo : L → List B) where
    pub laws_staged : HasSides m st kind setup → HasSpans m st kind setup → HasStages m st setup regions → HasPieces m st kind setup regions box cargo → KeepsLimits m setup
        → Laws m regions (IsTold (telling_of m st)) setup
    laws_staged sides spans stages pieces limits =
        let keeps : KeepsTelling m (telling_of m st) setup = keeps_telling m st setup staged regions stages in
        let goods : KeepsGood m (IsTold (telling_of m st)) setup = goods_told m (telling_of m st) setup keeps (keeps_starts m st kind setup staged sides spans) in
        record {
          limits = limits;
          goods = goods;
          stores = stored_kept m st kind setup staged sides regions stages spans;
          peers = peers_told m (telling_of m st) setup keeps;
          saves = reads_kept m st kind setup staged sides;
          parts = given_kept m st kind setup staged sides regions stages;
          pieces = pieces_kept m st kind setup staged sides regions stages box cargo pieces goods;
        }
