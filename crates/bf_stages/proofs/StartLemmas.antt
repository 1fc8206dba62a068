-- Rounds, openings, commits and restores of a program of stages lead from told vectors to told vectors.
use Rattle.std.proofs.Common.{◌≡◌, ℕ, ◌+◌, ◌<◌, ◌≤◌, Bool, true, false, List, length, map, filter, arith, refl, sym, ap, ◌∙◌, subst}
use Rattle.std.specs.Prelude.{not, nat_lt, None}
use Rattle.std.specs.List.{range_with_len, count_by, flat_map}
use Rattle.std.proofs.lemmas.Bool.Decides.{nat_tests}
use Rattle.std.specs.List.Sorted.{IsStrictlyIncreasing}
use Rattle.std.proofs.lemmas.List.Kept.{IsStrictlyIncreasing-filter}
use Rattle.bf_buddy.proofs.MemberLemmas.{member_filter_parts, range_rises}
use Rattle.bf_buddy.specs.Losses.{first_lost_of}
use Rattle.bf_buddy.specs.Members.{is_member}
use Rattle.bf_program.specs.declared.epoch.Epoch.{Epoch}
use Rattle.bf_program.specs.Epochs.{first_epoch, epoch_after_commit}
use Rattle.bf_program.specs.Meanings.{Meanings, Regions}
use Rattle.bf_program.specs.Restores.{heir_of, restored_epoch, restored_locals}
use Rattle.bf_rounds.proofs.LeadLemmas.{leads_by}
use Rattle.bf_rounds.proofs.StartLemmas.{kept_map, restored_map}
use Rattle.bf_rounds.proofs.VectorLemmas.{map_members}
use Rattle.bf_rounds.specs.Canonical.{KeepsTelling, KeepsStarts}
use Rattle.bf_parts.specs.declared.side.Side.{Side}
use Rattle.bf_parts.specs.CoverLaws.{count_told, parts_counted}
use Rattle.bf_parts.specs.Leaves.{Kind, Leaves, AreAmong, part_of, is_filled}
use Rattle.bf_parts.specs.LossLaws.{heirs_held}
use Rattle.bf_parts.specs.Spreads.{view_at, kept_view, restored_view}
use Rattle.bf_parts.specs.ViewLaws.{begun_trio, kept_seen, restored_seen, stored_seen}
use Rattle.bf_parts.specs.Views.{View, IsHeld}
use Rattle.bf_stages.proofs.ChainLemmas.{head_is, chain_at, beyond}
use Rattle.bf_stages.specs.Stages.{World, Staging, stage_at, trio_of, view_of, local_of_stage, after_stage, IsPlaced, local_told, telling_of, IsStaged, Follows, HasStages, HasSides, HasSpans}

-- what told locals have stored, and what they have together
module _ {S K I L N M T G : Type 0} (m : Meanings S L M T (Side I)) (st : Staging S K I L N M G) (kind : Kind I) (setup : S) (sides : HasSides m st kind setup) where
  -- the homes whose part is stored are those of a leaf of the agreed snapshot
  pub stored_told : (epoch : Epoch) (round : ℕ) (world : World K) → IsPlaced m st setup epoch round world
      → m.stored (map (local_told m st setup epoch round world) epoch.members) ≡ filter (is_filled (st.at setup epoch.time) world.home) epoch.homes
  stored_told epoch round world placed =
      let stage : G = stage_at st setup epoch round in
      sides.stored (map (local_told m st setup epoch round world) epoch.members)
      ∙ stored_seen st.look (m.shift setup) epoch (st.made stage) (trio_of m st setup epoch stage) world.owner world.home (local_told m st setup epoch round world)
      (λ rank is_in. sides.seen (view_of m st setup epoch stage world rank) (st.work setup epoch stage world.owner rank)) placed.held

  -- and the items of all members together are the leaves, each once, by whichever test they are counted
  pub counted_told : (epoch : Epoch) (round : ℕ) (world : World K) (test : I → Bool) → IsPlaced m st setup epoch round world
      → count_by test (flat_map (λ local. (st.look local).items) (map (local_told m st setup epoch round world) epoch.members))
      ≡ count_by (λ key. test ((st.leaves setup epoch (stage_at st setup epoch round)).item world.owner key)) (st.leaves setup epoch (stage_at st setup epoch round)).keys
  counted_told epoch round world test placed =
      let stage : G = stage_at st setup epoch round in
      count_told test (λ local. (st.look local).items) (local_told m st setup epoch round world) (λ rank. count_by test (part_of (st.leaves setup epoch stage) world.owner rank)) epoch.members
      (λ rank is_in. ap (λ (v : View I). count_by test v.items) (sides.seen (view_of m st setup epoch stage world rank) (st.work setup epoch stage world.owner rank)))
      ∙ parts_counted (st.leaves setup epoch stage) world.owner test epoch.members placed.held.members_rise placed.owned

-- rounds
module _ {S K I L N M T G : Type 0} (m : Meanings S L M T (Side I)) (st : Staging S K I L N M G) (setup : S) (staged : IsStaged m st setup) where
  -- the new snapshot is made once all rounds are done
  pub made_is : (epoch : Epoch) (round : ℕ) → st.made (stage_at st setup epoch round) ≡ not (nat_lt round (m.rounds setup epoch))
  made_is epoch round = at (nat_lt round (m.rounds setup epoch)) refl
    where
      below : (k n l : ℕ) → nat_lt k n ≡ true → n ≡ l → k < l
      below k n l within same = grind (arith, nat_tests)

      above : (k n l : ℕ) → nat_lt k n ≡ false → n ≡ l → l ≤ k
      above k n l past same = grind (arith, nat_tests)

      at : (b : Bool) → nat_lt round (m.rounds setup epoch) ≡ b → st.made (stage_at st setup epoch round) ≡ not b
      at true within = staged.unmade epoch round st.last (below round (m.rounds setup epoch) (length (st.stages setup epoch)) within (staged.rounds epoch))
      at false past = ap st.made (beyond (st.stages setup epoch) st.last round (above round (m.rounds setup epoch) (length (st.stages setup epoch)) past (staged.rounds epoch))) ∙ staged.made

  -- each round leads on
  module _ {B U : Type 0} (regions : Regions S L M T (Side I) B U) (stages : HasStages m st setup regions) where
    pub follows_at : (epoch : Epoch) (round : ℕ) → st.Runs setup epoch → round < m.rounds setup epoch
        → Follows m st setup regions epoch (stage_at st setup epoch round) (stage_at st setup epoch (round + 1))
    follows_at epoch round runs within =
        chain_at (Follows m st setup regions epoch) (st.stages setup epoch) st.last (stages epoch runs) round (omega (arith, within, staged.rounds epoch))

    pub keeps_telling : KeepsTelling m (telling_of m st) setup
    keeps_telling = record {
      leads = λ epoch round world placed within.
          leads_by m setup epoch round (st.play setup epoch (stage_at st setup epoch round)) (st.course setup epoch (stage_at st setup epoch round) world) (local_told m st setup epoch round world)
          (local_told m st setup epoch (round + 1) (after_stage m st setup epoch (stage_at st setup epoch round) world)) (staged.plays epoch round)
          ((follows_at epoch round placed.runs within).leads world placed);
      fits = λ epoch round world placed within. record {
        runs = placed.runs;
        owned = (follows_at epoch round placed.runs within).owned world placed;
        housed = placed.housed;
        held = placed.held;
        also = (follows_at epoch round placed.runs within).also world placed;
      };
    }

-- openings, commits and restores
module _ {S K I L N M T G : Type 0} (m : Meanings S L M T (Side I)) (st : Staging S K I L N M G) (kind : Kind I) (setup : S) (staged : IsStaged m st setup) (sides : HasSides m st kind setup) (spans : HasSpans m st kind setup) where
  -- a view at the beginning of an epoch
  abbrev begun_view : Epoch → World K → (rank : ℕ) → View I
  begun_view epoch world rank = view_at (m.shift setup) epoch false (begun_trio (st.at setup epoch.time) (st.at setup epoch.target)) world.owner world.home rank

  first_leaves : (epoch : Epoch) → st.Runs setup epoch → st.leaves setup epoch (stage_at st setup epoch 0) ≡ st.at setup epoch.time
  first_leaves epoch runs = ap (st.leaves setup epoch) (head_is (st.stages setup epoch) st.last) ∙ spans.begins epoch runs

  begun : (epoch : Epoch) (world : World K) (rank : ℕ) → st.Runs setup epoch → st.put (begun_view epoch world rank) (st.fresh setup epoch rank) ≡ local_told m st setup epoch 0 world rank
  begun epoch world rank runs =
      let stage : G = stage_at st setup epoch 0 in
      let some = spans.some_stage epoch runs in
      ap (λ (ls : Leaves K I). st.put (record (begun_view epoch world rank) { items = part_of ls world.owner rank }) (st.fresh setup epoch rank)) (sym (first_leaves epoch runs))
      ∙ ap (λ (b : Bool). st.put (view_at (m.shift setup) epoch b (trio_of m st setup epoch stage) world.owner world.home rank) (st.fresh setup epoch rank))
      (sym (staged.unmade epoch 0 st.last (omega (arith, some))))
      ∙ ap (st.put (view_of m st setup epoch stage world rank))
      (sym (ap (λ (s : G). st.work setup epoch s world.owner rank) (head_is (st.stages setup epoch) st.last) ∙ spans.fresh epoch world.owner rank runs))

  -- the leaves of a first stage are owned where those of the agreed snapshot are
  begun_owned : (epoch : Epoch) (members : List ℕ) (owner : K → ℕ) → st.Runs setup epoch → AreAmong members (st.at setup epoch.time) owner
      → AreAmong members (st.leaves setup epoch (stage_at st setup epoch 0)) owner
  begun_owned epoch members owner runs owned = subst (λ (ls : Leaves K I). AreAmong members ls owner) (sym (first_leaves epoch runs)) owned

  begun_also : (epoch : Epoch) (owner : K → ℕ) → st.Runs setup epoch → AreAmong epoch.members (st.at setup epoch.time) owner → st.Also setup epoch (stage_at st setup epoch 0) owner
  begun_also epoch owner runs owned =
      subst (λ (s : G). st.Also setup epoch s owner) (sym (head_is (st.stages setup epoch) st.last))
      (spans.also epoch owner runs (subst (λ (ls : Leaves K I). AreAmong epoch.members ls owner) (sym (spans.begins epoch runs)) owned))

  -- the worlds with which epochs begin: the first, that after a commit and that after a restore
  abbrev pub first_world : World K
  first_world = record { home = spans.home_of; owner = spans.home_of }

  abbrev pub kept_world : World K → World K
  kept_world world = record { home = world.owner; owner = world.owner }

  abbrev pub regained_world : Epoch → (lives : ℕ → Bool) → World K → World K
  regained_world epoch lives world = record { home = world.home; owner = λ key. heir_of epoch.homes (filter lives epoch.members) (m.shift setup) (world.home key) }

  lone_held : (filled : ℕ → Bool) (members : List ℕ) → IsStrictlyIncreasing members → IsHeld filled (m.shift setup) members members
  lone_held filled members rise = record {
    homes_rise = rise;
    members_rise = rise;
    among = λ rank is_in. is_in;
    safe = λ home is_in full. rw is_in refl;
  }

  pub first_placed : IsPlaced m st setup (first_epoch (m.ranks setup) (m.steps setup) (m.interval setup)) 0 first_world
  first_placed =
      let epoch : Epoch = first_epoch (m.ranks setup) (m.steps setup) (m.interval setup) in
      record {
        runs = spans.first_runs;
        owned = begun_owned epoch (range_with_len 0 (m.ranks setup)) spans.home_of spans.first_runs spans.housed;
        housed = spans.housed;
        held = lone_held (is_filled (st.at setup 0) spans.home_of) (range_with_len 0 (m.ranks setup)) (range_rises (m.ranks setup));
        also = begun_also epoch spans.home_of spans.first_runs spans.housed;
      }

  pub opening_told : m.opening setup ≡ map (local_told m st setup (first_epoch (m.ranks setup) (m.steps setup) (m.interval setup)) 0 first_world) (range_with_len 0 (m.ranks setup))
  opening_told =
      let epoch : Epoch = first_epoch (m.ranks setup) (m.steps setup) (m.interval setup) in
      spans.opening ∙ map_members (λ rank. st.put (begun_view epoch first_world rank) (st.fresh setup epoch rank)) (local_told m st setup epoch 0 first_world) (range_with_len 0 (m.ranks setup))
      (λ rank is_in. begun epoch first_world rank spans.first_runs)

  -- a commit
  last_is : (epoch : Epoch) → stage_at st setup epoch (m.rounds setup epoch) ≡ st.last
  last_is epoch = beyond (st.stages setup epoch) st.last (m.rounds setup epoch) (omega (arith, staged.rounds epoch))

  pub kept_placed : (epoch : Epoch) (world : World K) → IsPlaced m st setup epoch (m.rounds setup epoch) world → epoch.target < m.steps setup
      → IsPlaced m st setup (epoch_after_commit (m.steps setup) (m.interval setup) epoch) 0 (kept_world world)
  kept_placed epoch world placed goes_on =
      let after : Epoch = epoch_after_commit (m.steps setup) (m.interval setup) epoch in
      let runs : st.Runs setup after = spans.commit_runs epoch placed.runs goes_on in
      let owned : AreAmong epoch.members (st.at setup epoch.target) world.owner =
      subst (λ (ls : Leaves K I). AreAmong epoch.members ls world.owner) (ap (st.leaves setup epoch) (last_is epoch) ∙ spans.ends epoch placed.runs) placed.owned in
      record {
        runs = runs;
        owned = begun_owned after epoch.members world.owner runs owned;
        housed = owned;
        held = lone_held (is_filled (st.at setup epoch.target) world.owner) epoch.members placed.held.members_rise;
        also = begun_also after world.owner runs owned;
      }

  -- the view behind the last stage, whose new snapshot becomes the agreed one
  last_kept : (epoch : Epoch) (world : World K) (rank : ℕ) → st.Runs setup epoch
      → kept_view (view_of m st setup epoch st.last world rank) ≡ begun_view (epoch_after_commit (m.steps setup) (m.interval setup) epoch) (kept_world world) rank
  last_kept epoch world rank runs =
      ap (λ (b : Bool). kept_view (view_at (m.shift setup) epoch b (trio_of m st setup epoch st.last) world.owner world.home rank)) staged.made
      ∙ kept_seen (m.shift setup) (m.steps setup) (m.interval setup) epoch (trio_of m st setup epoch st.last)
      (st.at setup (epoch_after_commit (m.steps setup) (m.interval setup) epoch).target) world.owner world.home rank (spans.ends epoch runs)

  kept_is : (epoch : Epoch) (world : World K) (rank : ℕ) → IsPlaced m st setup epoch (m.rounds setup epoch) world → epoch.target < m.steps setup
      → m.keep (local_told m st setup epoch (m.rounds setup epoch) world rank) ≡ local_told m st setup (epoch_after_commit (m.steps setup) (m.interval setup) epoch) 0 (kept_world world) rank
  kept_is epoch world rank placed goes_on =
      let after : Epoch = epoch_after_commit (m.steps setup) (m.interval setup) epoch in
      ap (λ (s : G). m.keep (local_of_stage m st setup epoch s world rank)) (last_is epoch)
      ∙ spans.keep epoch (view_of m st setup epoch st.last world rank) world.owner rank placed.runs goes_on
      ∙ ap (λ (v : View I). st.put v (st.fresh setup after rank)) (last_kept epoch world rank placed.runs)
      ∙ begun after (kept_world world) rank (spans.commit_runs epoch placed.runs goes_on)

  -- a restore
  pub regained_placed : (epoch : Epoch) (round : ℕ) (world : World K) (lives : ℕ → Bool) → IsPlaced m st setup epoch round world
      → first_lost_of epoch.homes (m.stored (map (local_told m st setup epoch round world) epoch.members)) (filter lives epoch.members) (m.shift setup) ≡ None
      → IsPlaced m st setup (restored_epoch lives epoch) 0 (regained_world epoch lives world)
  regained_placed epoch round world lives placed none =
      let live : List ℕ = filter lives epoch.members in
      let runs : st.Runs setup (restored_epoch lives epoch) = spans.restore_runs epoch lives placed.runs in
      let regained = heirs_held (st.at setup epoch.time) epoch.homes live (m.shift setup) world.home placed.held.homes_rise (IsStrictlyIncreasing-filter lives epoch.members placed.held.members_rise)
      (λ rank is_in. placed.held.among rank (member_filter_parts lives epoch.members rank is_in).0)
      (ap (λ homes. first_lost_of epoch.homes homes live (m.shift setup)) (sym (stored_told m st kind setup sides epoch round world placed)) ∙ none) placed.housed in
      record {
        runs = runs;
        owned = begun_owned (restored_epoch lives epoch) live (λ key. heir_of epoch.homes live (m.shift setup) (world.home key)) runs regained.0;
        housed = placed.housed;
        held = regained.1;
        also = begun_also (restored_epoch lives epoch) (λ key. heir_of epoch.homes live (m.shift setup) (world.home key)) runs regained.0;
      }

  regained_local : (epoch : Epoch) (round : ℕ) (world : World K) (lives : ℕ → Bool) (rank : ℕ) → IsPlaced m st setup epoch round world → is_member (filter lives epoch.members) rank ≡ true
      → m.restore setup (local_told m st setup epoch round world rank) rank (restored_epoch lives epoch) ≡ local_told m st setup (restored_epoch lives epoch) 0 (regained_world epoch lives world) rank
  regained_local epoch round world lives rank placed is_in =
      let live : List ℕ = filter lives epoch.members in
      let stage : G = stage_at st setup epoch round in
      sides.restore (local_told m st setup epoch round world rank) rank (restored_epoch lives epoch)
      ∙ ap (λ (v : View I). st.put (restored_view kind (m.shift setup) v.active rank live) (st.fresh setup (restored_epoch lives epoch) rank))
      (sides.seen (view_of m st setup epoch stage world rank) (st.work setup epoch stage world.owner rank))
      ∙ ap (λ (v : View I). st.put v (st.fresh setup (restored_epoch lives epoch) rank))
      (restored_seen kind (m.shift setup) epoch (st.made stage) (trio_of m st setup epoch stage) (st.at setup epoch.time) lives world.owner world.home rank (spans.are epoch placed.runs)
      placed.held.homes_rise (placed.held.among rank (member_filter_parts lives epoch.members rank is_in).0) is_in placed.housed)
      ∙ begun (restored_epoch lives epoch) (regained_world epoch lives world) rank (spans.restore_runs epoch lives placed.runs)

  -- the vectors after a commit and a restore
  pub kept_told : (epoch : Epoch) (world : World K) → IsPlaced m st setup epoch (m.rounds setup epoch) world → epoch.target < m.steps setup
      → map m.keep (map (local_told m st setup epoch (m.rounds setup epoch) world) epoch.members)
      ≡ map (local_told m st setup (epoch_after_commit (m.steps setup) (m.interval setup) epoch) 0 (kept_world world)) epoch.members
  kept_told epoch world placed goes_on =
      kept_map m setup epoch.members (local_told m st setup epoch (m.rounds setup epoch) world)
      (local_told m st setup (epoch_after_commit (m.steps setup) (m.interval setup) epoch) 0 (kept_world world)) (λ rank is_in. kept_is epoch world rank placed goes_on)

  pub restored_told : (epoch : Epoch) (round : ℕ) (world : World K) (lives : ℕ → Bool) → IsPlaced m st setup epoch round world
      → restored_locals m setup epoch lives (map (local_told m st setup epoch round world) epoch.members)
      ≡ map (local_told m st setup (restored_epoch lives epoch) 0 (regained_world epoch lives world)) (filter lives epoch.members)
  restored_told epoch round world lives placed =
      restored_map m setup epoch lives (local_told m st setup epoch round world) (local_told m st setup (restored_epoch lives epoch) 0 (regained_world epoch lives world))
      (λ rank is_in. regained_local epoch round world lives rank placed is_in)

  pub keeps_starts : KeepsStarts m (telling_of m st) setup
  keeps_starts = record {
    first = first_world;
    first_fits = first_placed;
    opening = opening_told;
    kept = λ epoch world. kept_world world;
    kept_fits = kept_placed;
    keep = λ epoch world rank placed goes_on is_in. kept_is epoch world rank placed goes_on;
    regained = λ epoch lives round world. regained_world epoch lives world;
    regained_fits = regained_placed;
    restore = λ epoch round world lives rank placed none is_in. regained_local epoch round world lives rank placed is_in;
  }
