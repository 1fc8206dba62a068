-- Programs whose rounds are stages that are made from the epoch, and whose locals are told by who owns what: what such a program supplies for all of its laws.
use Rattle.std.specs.Prelude.{ℕ, ◌≡◌, ◌+◌, ◌<◌, ◌≤◌, Bool, true, false, length, List, [], ◌∷◌, ◌++◌, map, filter, slice_index_or, All, IsTrue, Option}
use Rattle.std.specs.List.{range_with_len, count_by}
use Rattle.bf_buddy.specs.Members.{is_member}
use Rattle.bf_program.specs.declared.epoch.Epoch.{Epoch}
use Rattle.bf_program.specs.Epochs.{first_epoch, epoch_after_commit}
use Rattle.bf_program.specs.Laws.{times}
use Rattle.bf_program.specs.Meanings.{Meanings, Regions}
use Rattle.bf_program.specs.Restores.{restored_epoch}
use Rattle.bf_rounds.specs.Canonical.{Telling}
use Rattle.bf_rounds.specs.Courses.{Course}
use Rattle.bf_rounds.specs.Delivering.{Delivery, as_delivery, PlaysDelivery}
use Rattle.bf_rounds.specs.Leading.{LeadsBy, IsPartOf, alone, lifted, Weighs, Conserves}
use Rattle.bf_parts.specs.declared.side.Side.{Side}
use Rattle.bf_parts.specs.Leaves.{Kind, Leaves, AreLeaves, AreAmong, part_of, is_filled, side_at}
use Rattle.bf_parts.specs.Sides.{bare, has_items, is_given, saved_of}
use Rattle.bf_parts.specs.Spreads.{Trio, view_at, kept_view, restored_view}
use Rattle.bf_parts.specs.Views.{View, stored_of, IsHeld}
use Rattle.bf_stages.specs.Snapshots.{IsSight, snapshot_play, snapshot_course}

-- all that can differ between two good vectors: who has what of the agreed snapshot, and who owns what
pub record World (K : Type 0) : Type 0 where
  pub home : K → ℕ
  pub owner : K → ℕ

-- how a program's locals are told and its rounds are staged: over setups, keys, items, locals, what a local has beside its view, messages, and stages
pub record Staging (S K I L N M G : Type 0) : Type 1 where
  -- what is seen of a local, and the local of what is seen and what else it has
  pub look : L → View I
  pub put : View I → N → L
  -- the leaves of the snapshot of each time
  pub at : S → (time : ℕ) → Leaves K I
  -- the epochs that come up
  pub Runs : S → Epoch → Type 0
  -- what else holds of the owners at the beginning of a stage
  pub Also : S → Epoch → G → (owner : K → ℕ) → Type 0
  -- what a rank's local has beside its view at the beginning of an epoch
  pub fresh : S → Epoch → (rank : ℕ) → N
  -- the stages of an epoch, and what stands behind them; whether the new snapshot is made before a stage
  pub stages : S → Epoch → List G
  pub last : G
  pub made : G → Bool
  -- how a stage is played
  pub play : S → Epoch → G → Delivery L M
  -- at the beginning of a stage: the leaves, and what a rank's local has beside its view
  pub leaves : S → Epoch → G → Leaves K I
  pub work : S → Epoch → G → (owner : K → ℕ) → (rank : ℕ) → N
  -- who owns what after it, and its course
  pub moved : S → Epoch → G → (owner : K → ℕ) → K → ℕ
  pub course : S → Epoch → G → World K → Course L M

-- the stage of a round; behind the last round there is what stands behind all stages
abbrev pub stage_at : {S K I L N M G : Type 0} → Staging S K I L N M G → S → Epoch → (round : ℕ) → G
stage_at st setup epoch round = slice_index_or (st.stages setup epoch) round st.last

-- the first stage, or what stands behind all
abbrev pub head_of : {G : Type 0} → List G → G → G
head_of [] last = last
head_of (x ∷ xs) last = x

-- of each two stages that follow each other, the last followed by what stands behind all
abbrev pub Chain : {G : Type 0} → (R : G → G → Type 0) → List G → (last : G) → Type 0
Chain R [] last = Unit {0}
Chain R (x ∷ xs) last = R x (head_of xs last) × Chain R xs last

module _ {S K I L N M T G : Type 0} (m : Meanings S L M T (Side I)) (st : Staging S K I L N M G) (setup : S) where
  -- the program plays the stages
  pub record IsStaged : Type 0 where
    pub rounds : (epoch : Epoch) → m.rounds setup epoch ≡ length (st.stages setup epoch)
    pub plays : (epoch : Epoch) (round : ℕ) → PlaysDelivery m setup epoch round (st.play setup epoch (stage_at st setup epoch round))
    pub unmade : (epoch : Epoch) → All (λ stage. st.made stage ≡ false) (st.stages setup epoch)
    pub made : st.made st.last ≡ true

  module _ (epoch : Epoch) (stage : G) where
    -- the leaves of a stage, those of the agreed snapshot and those of the new one
    abbrev pub trio_of : Trio K I
    trio_of = record { now = st.leaves setup epoch stage; agreed = st.at setup epoch.time; new = st.at setup epoch.target }

    -- what is seen of a rank's local at the beginning of a stage
    abbrev pub view_of : World K → (rank : ℕ) → View I
    view_of world rank = view_at (m.shift setup) epoch (st.made stage) trio_of world.owner world.home rank

    -- and the local
    abbrev pub local_of_stage : World K → (rank : ℕ) → L
    local_of_stage world rank = st.put (view_of world rank) (st.work setup epoch stage world.owner rank)

    -- the world one stage later
    abbrev pub after_stage : World K → World K
    after_stage world = record world { owner = st.moved setup epoch stage world.owner }

    -- a world at the beginning of a stage: the owners are members, and the agreed snapshot is at its holders
    pub record IsPlacedAt (world : World K) : Type 0 where
      pub runs : st.Runs setup epoch
      pub owned : AreAmong epoch.members (st.leaves setup epoch stage) world.owner
      pub housed : AreAmong epoch.homes (st.at setup epoch.time) world.home
      pub held : IsHeld (is_filled (st.at setup epoch.time) world.home) (m.shift setup) epoch.homes epoch.members
      pub also : st.Also setup epoch stage world.owner

-- a world and a rank's local at the beginning of a round: those of its stage
abbrev pub IsPlaced : {S K I L N M T G : Type 0} → Meanings S L M T (Side I) → Staging S K I L N M G → S → Epoch → (round : ℕ) → World K → Type 0
IsPlaced m st setup epoch round = IsPlacedAt m st setup epoch (stage_at st setup epoch round)

abbrev pub local_told : {S K I L N M T G : Type 0} → Meanings S L M T (Side I) → Staging S K I L N M G → S → Epoch → (round : ℕ) → World K → (rank : ℕ) → L
local_told m st setup epoch round = local_of_stage m st setup epoch (stage_at st setup epoch round)

-- the good vectors of such a program
abbrev pub telling_of : {S K I L N M T G : Type 0} → Meanings S L M T (Side I) → Staging S K I L N M G → Telling S L M (World K)
telling_of m st = record {
  Fits = IsPlaced m st;
  local_at = local_told m st;
  next = λ setup epoch round. after_stage m st setup epoch (stage_at st setup epoch round);
  course = λ setup epoch round. st.course setup epoch (stage_at st setup epoch round);
}

module _ {S K I L N M T G : Type 0} (m : Meanings S L M T (Side I)) (st : Staging S K I L N M G) (setup : S) where
  module _ {B U : Type 0} (regions : Regions S L M T (Side I) B U) where
    -- a stage leads to another
    pub record Follows (epoch : Epoch) (stage next : G) : Type 0 where
      pub leads : (world : World K) → IsPlacedAt m st setup epoch stage world
          → LeadsBy (st.play setup epoch stage) epoch.members (st.course setup epoch stage world) (local_of_stage m st setup epoch stage world) (local_of_stage m st setup epoch next (after_stage m st setup epoch stage world))
      pub owned : (world : World K) → IsPlacedAt m st setup epoch stage world → AreAmong epoch.members (st.leaves setup epoch next) (st.moved setup epoch stage world.owner)
      pub also : (world : World K) → IsPlacedAt m st setup epoch stage world → st.Also setup epoch next (st.moved setup epoch stage world.owner)
      pub conserves : (world : World K) (unit : U) → IsPlacedAt m st setup epoch stage world
          → Conserves (λ local. times regions (regions.of_local local) unit) (λ msg. times regions (regions.of_message msg) unit) epoch.members
          (st.course setup epoch stage world) (local_of_stage m st setup epoch next (after_stage m st setup epoch stage world))

    abbrev pub HasStages : Type 0
    HasStages = (epoch : Epoch) → st.Runs setup epoch → Chain (Follows epoch) (st.stages setup epoch) st.last

    -- a stage is played on a part of the local: how the part lies in what else a rank has, before and after; how the part goes on; and what it weighs
    pub record IsPartStage {P W : Type 0} (epoch : Epoch) (stage next : G) (play : Delivery P W) (embed embed_after : World K → ℕ → P → L) (wrap : W → M) (course : World K → Course P W)
        (before after : World K → ℕ → P) (weigh : U → P → ℕ) (weigh_word : U → W → ℕ) (base : U → World K → ℕ → ℕ) : Type 0 where
      pub part : (world : World K) → IsPartOf play (st.play setup epoch stage) (embed world) (embed_after world) wrap
      pub course_is : (world : World K) → st.course setup epoch stage world ≡ lifted (embed world) wrap (course world)
      pub before_is : (world : World K) (rank : ℕ) → IsPlacedAt m st setup epoch stage world → IsTrue (is_member epoch.members rank)
          → embed world rank (before world rank) ≡ local_of_stage m st setup epoch stage world rank
      pub after_is : (world : World K) (rank : ℕ) → IsPlacedAt m st setup epoch stage world → IsTrue (is_member epoch.members rank)
          → embed_after world rank (after world rank) ≡ local_of_stage m st setup epoch next (after_stage m st setup epoch stage world) rank
      pub leads : (world : World K) → IsPlacedAt m st setup epoch stage world → LeadsBy play epoch.members (course world) (before world) (after world)
      pub owned : (world : World K) → IsPlacedAt m st setup epoch stage world → AreAmong epoch.members (st.leaves setup epoch next) (st.moved setup epoch stage world.owner)
      pub also : (world : World K) → IsPlacedAt m st setup epoch stage world → st.Also setup epoch next (st.moved setup epoch stage world.owner)
      pub weighs : (unit : U) → Weighs (weigh unit) (weigh_word unit) play
      pub of_local : (unit : U) (world : World K) (rank : ℕ) (n : P) → times regions (regions.of_local (embed world rank n)) unit ≡ base unit world rank + weigh unit n
      pub of_after : (unit : U) (world : World K) (rank : ℕ) (n : P) → times regions (regions.of_local (embed_after world rank n)) unit ≡ base unit world rank + weigh unit n
      pub of_word : (unit : U) (word : W) → times regions (regions.of_message (wrap word)) unit ≡ weigh_word unit word

    -- a stage in which each rank is alone
    pub record IsAloneStage (epoch : Epoch) (stage next : G) (nothing : M) : Type 0 where
      pub course_is : (world : World K) → st.course setup epoch stage world ≡ alone nothing (local_of_stage m st setup epoch stage world)
      pub peers : (local : L) → (st.play setup epoch stage).peers epoch.members local ≡ []
      pub finish : (world : World K) (rank : ℕ) → IsPlacedAt m st setup epoch stage world → IsTrue (is_member epoch.members rank)
          → (st.play setup epoch stage).finish (local_of_stage m st setup epoch stage world rank) ≡ local_of_stage m st setup epoch next (after_stage m st setup epoch stage world) rank
      pub owned : (world : World K) → IsPlacedAt m st setup epoch stage world → AreAmong epoch.members (st.leaves setup epoch next) (st.moved setup epoch stage world.owner)
      pub also : (world : World K) → IsPlacedAt m st setup epoch stage world → st.Also setup epoch next (st.moved setup epoch stage world.owner)
      pub light : (unit : U) → times regions (regions.of_message nothing) unit ≡ 0
      pub same : (unit : U) (world : World K) (rank : ℕ) → IsPlacedAt m st setup epoch stage world → IsTrue (is_member epoch.members rank)
          → times regions (regions.of_local (local_of_stage m st setup epoch next (after_stage m st setup epoch stage world) rank)) unit ≡ times regions (regions.of_local (local_of_stage m st setup epoch stage world rank)) unit

    -- a stage in which the snapshot is made
    pub record IsSnapshotStage (sees : (members : List ℕ) → (rank other : ℕ) → Bool) (epoch : Epoch) (stage next : G) (wrap : Option (List I) → M) : Type 0 where
      pub sight : IsSight (m.shift setup) sees epoch.members
      pub part : (world : World K) → IsPartOf (as_delivery (snapshot_play sees (m.shift setup) epoch)) (st.play setup epoch stage) (λ rank view. st.put view (st.work setup epoch stage world.owner rank))
          (λ rank view. st.put view (st.work setup epoch stage world.owner rank)) wrap
      pub course_is : (world : World K) → st.course setup epoch stage world ≡ lifted (λ rank view. st.put view (st.work setup epoch stage world.owner rank)) wrap
          (snapshot_course sees (m.shift setup) epoch (trio_of m st setup epoch stage) world.owner world.home)
      pub leaves : st.leaves setup epoch stage ≡ st.at setup epoch.target
      pub leaves_after : st.leaves setup epoch next ≡ st.at setup epoch.target
      pub unmade : st.made stage ≡ false
      pub made : st.made next ≡ true
      pub stays : (owner : K → ℕ) → st.moved setup epoch stage owner ≡ owner
      pub work : (owner : K → ℕ) (rank : ℕ) → st.work setup epoch next owner rank ≡ st.work setup epoch stage owner rank
      pub also : (world : World K) → IsPlacedAt m st setup epoch stage world → st.Also setup epoch next world.owner
      pub light : (word : Option (List I)) (unit : U) → times regions (regions.of_message (wrap word)) unit ≡ 0

-- a play leaves the side of the agreed snapshot
pub record KeepsSide {L M I : Type 0} (look : L → View I) (play : Delivery L M) : Type 0 where
  pub out : (local : L) (to : ℕ) → (look (play.out local to).0).active ≡ (look local).active
  pub hear : (local : L) (peer : ℕ) (msg : M) → (look (play.hear local peer msg)).active ≡ (look local).active
  pub finish : (local : L) → (look (play.finish local)).active ≡ (look local).active

module _ {S K I L N M T G : Type 0} (m : Meanings S L M T (Side I)) (st : Staging S K I L N M G) (kind : Kind I) (setup : S) where
  -- of any local: what is seen of it, and what calls do to that
  pub record HasSides : Type 0 where
    pub seen : (view : View I) (work : N) → st.look (st.put view work) ≡ view
    pub reads : (local : L) → m.reads local ≡ (st.look local).active
    pub stored : (locals : List L) → m.stored locals ≡ stored_of st.look locals
    pub filled : (local : L) → m.filled local ≡ has_items (st.look local).spare.own
    pub given : (side : Side I) (rank : ℕ) (epoch : Epoch) → m.given setup side rank epoch ≡ filter (is_given side rank epoch.members) side.homes
    pub plays : (epoch : Epoch) (stage : G) → KeepsSide st.look (st.play setup epoch stage)
    pub parcel : (local : L) → (st.look (m.parcel local).0).active ≡ (st.look local).active
    pub keep : (local : L) → st.look (m.keep local) ≡ kept_view (st.look local)
    pub restore : (local : L) (rank : ℕ) (epoch : Epoch) → m.restore setup local rank epoch
        ≡ st.put (restored_view kind (m.shift setup) (st.look local).active rank epoch.members) (st.fresh setup epoch rank)

  -- of epochs: their first stage begins with the leaves of the agreed snapshot, and behind the last are those of the new one
  pub record HasSpans : Type 0 where
    pub first_runs : st.Runs setup (first_epoch (m.ranks setup) (m.steps setup) (m.interval setup))
    pub commit_runs : (epoch : Epoch) → st.Runs setup epoch → epoch.target < m.steps setup → st.Runs setup (epoch_after_commit (m.steps setup) (m.interval setup) epoch)
    pub restore_runs : (epoch : Epoch) (lives : ℕ → Bool) → st.Runs setup epoch → st.Runs setup (restored_epoch lives epoch)
    pub some_stage : (epoch : Epoch) → st.Runs setup epoch → 1 ≤ length (st.stages setup epoch)
    pub are : (epoch : Epoch) → st.Runs setup epoch → AreLeaves kind (st.at setup epoch.time)
    pub begins : (epoch : Epoch) → st.Runs setup epoch → st.leaves setup epoch (head_of (st.stages setup epoch) st.last) ≡ st.at setup epoch.time
    pub ends : (epoch : Epoch) → st.Runs setup epoch → st.leaves setup epoch st.last ≡ st.at setup epoch.target
    pub also : (epoch : Epoch) (owner : K → ℕ) → st.Runs setup epoch → AreAmong epoch.members (st.leaves setup epoch (head_of (st.stages setup epoch) st.last)) owner
        → st.Also setup epoch (head_of (st.stages setup epoch) st.last) owner
    pub fresh : (epoch : Epoch) (owner : K → ℕ) (rank : ℕ) → st.Runs setup epoch → st.work setup epoch (head_of (st.stages setup epoch) st.last) owner rank ≡ st.fresh setup epoch rank
    pub keep : (epoch : Epoch) (view : View I) (owner : K → ℕ) (rank : ℕ) → st.Runs setup epoch → epoch.target < m.steps setup
        → m.keep (st.put view (st.work setup epoch st.last owner rank)) ≡ st.put (kept_view view) (st.fresh setup (epoch_after_commit (m.steps setup) (m.interval setup) epoch) rank)
    -- the opening
    pub home_of : K → ℕ
    pub housed : AreAmong (range_with_len 0 (m.ranks setup)) (st.at setup 0) home_of
    pub opening : m.opening setup ≡ map (λ rank. st.put (record {
      rank = rank;
      items = part_of (st.at setup 0) home_of rank;
      active = side_at 0 (range_with_len 0 (m.ranks setup)) (m.shift setup) (st.at setup 0) home_of rank;
      spare = bare;
    }) (st.fresh setup (first_epoch (m.ranks setup) (m.steps setup) (m.interval setup)) rank)) (range_with_len 0 (m.ranks setup))
    pub laid : m.laid setup ≡ filter (is_filled (st.at setup 0) home_of) (range_with_len 0 (m.ranks setup))

  -- of pieces: each item is a box, and a local holds those of its items and its cargo; at the beginning of a stage it has none
  pub record HasPieces {B U : Type 0} (regions : Regions S L M T (Side I) B U) (box : I → B) (cargo : L → List B) : Type 0 where
    pub blind : (f : ℕ → ℕ) (item : I) (unit : U) → regions.holds (box (kind.remap f item)) unit ≡ regions.holds (box item) unit
    pub of_local : (local : L) → regions.of_local local ≡ map box (st.look local).items ++ cargo local
    pub of_saved : (side : Side I) (rank home : ℕ) → regions.of_saved side rank home ≡ map box (saved_of side rank home)
    pub of_parcel : (local : L) → regions.of_part (m.parcel local).1 ≡ map box (st.look local).items
    pub parcel_items : (local : L) → (st.look (m.parcel local).0).items ≡ []
    pub parcel_cargo : (local : L) → cargo (m.parcel local).0 ≡ cargo local
    pub keep_cargo : (local : L) → cargo (m.keep local) ≡ cargo local
    pub fresh_cargo : (view : View I) (epoch : Epoch) (rank : ℕ) → cargo (st.put view (st.fresh setup epoch rank)) ≡ []
    pub no_cargo : (epoch : Epoch) (stage : G) (view : View I) (owner : K → ℕ) (rank : ℕ) → st.Runs setup epoch → cargo (st.put view (st.work setup epoch stage owner rank)) ≡ []
    pub once : (epoch : Epoch) (stage : G) (owner : K → ℕ) (unit : U) → st.Runs setup epoch → IsTrue (regions.is_in_domain setup unit)
        → count_by (λ key. regions.holds (box ((st.leaves setup epoch stage).item owner key)) unit) (st.leaves setup epoch stage).keys ≡ 1
