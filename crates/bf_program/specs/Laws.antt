-- What each round program keeps.
use Rattle.std.specs.Prelude.{◌≡◌, ◌≢◌, ℕ, ◌+◌, ◌<◌, ◌≤◌, ◌^◌, Bool, ◌&&◌, ◌==◌, IsTrue, List, length, map, filter, All, Some, None, ◌||◌}
use Rattle.std.specs.List.{count_by, flat_map, sum_by}
use Rattle.std.specs.List.Sorted.{IsStrictlyIncreasing}
use Rattle.bf_buddy.specs.Members.{is_member}
use Rattle.bf_buddy.specs.Buddy.{buddy_of}
use Rattle.bf_buddy.specs.Losses.{first_lost_of}
use Rattle.bf_program.specs.declared.epoch.Epoch.{Epoch}
use Rattle.bf_program.specs.Epochs.{first_epoch, epoch_after_commit}
use Rattle.bf_program.specs.Meanings.{Meanings, Regions}
use Rattle.bf_program.specs.Lockstep.{local_of, next_locals}
use Rattle.bf_program.specs.Points.{IsSending, IsReceiving, IsFinishing}
use Rattle.bf_program.specs.Restores.{heir_of, restored_epoch, restored_locals, filled_members}

-- how often a unit lies in boxes
abbrev pub times : {S L M T R B U : Type 0} → Regions S L M T R B U → List B → U → ℕ
times regions boxes unit = count_by (λ box. regions.holds box unit) boxes

-- whether a rank is to hold a home's part of the agreed snapshot: it is the home, or its buddy
abbrev pub is_holder : (homes : List ℕ) → (shift home rank : ℕ) → Bool
is_holder homes shift home rank = home == rank || buddy_of homes home shift == rank

-- ranks, steps, shift, interval and the numbers of rounds are within their limits, and ranks die that there are, once each
pub record KeepsLimits {S L M T R : Type 0} (m : Meanings S L M T R) (setup : S) : Type 0 where
  pub some_rank : 1 ≤ m.ranks setup
  pub ranks : m.ranks setup ≤ 32
  pub steps : m.steps setup ≤ 128
  pub shift : m.shift setup ≤ 1000
  pub some_interval : 1 ≤ m.interval setup
  pub interval : m.interval setup ≤ 128
  pub rounds : (epoch : Epoch) → m.rounds setup epoch < 2 ^ 32
  pub deaths : All (λ (death : ℕ × ℕ). death.0 < m.ranks setup) (m.deaths setup)
  pub rising_deaths : IsStrictlyIncreasing (map (λ (death : ℕ × ℕ). death.0) (m.deaths setup))

-- what a restore reads changes by `keep` alone, and beside it a restore rests on the setup, the rank and the epoch alone
pub record KeepsReads {S L M T R : Type 0} (m : Meanings S L M T R) (setup : S) : Type 0 where
  pub out : (local : L) (epoch : Epoch) (round to : ℕ) → m.reads (m.out setup local epoch round to).0 ≡ m.reads local
  pub take : (local : L) (epoch : Epoch) (round peer : ℕ) (msg : M) → m.reads (m.take setup local epoch round peer msg) ≡ m.reads local
  pub finish : (local : L) (epoch : Epoch) (round : ℕ) → m.reads (m.finish setup local epoch round) ≡ m.reads local
  pub parcel : (local : L) → m.reads (m.parcel local).0 ≡ m.reads local
  pub restore : (local : L) (rank : ℕ) (epoch : Epoch) → m.reads (m.restore setup local rank epoch) ≡ m.reads local
  pub alone : (local other : L) (rank : ℕ) (epoch : Epoch) → m.reads local ≡ m.reads other
      → m.restore setup local rank epoch ≡ m.restore setup other rank epoch

module _ {S L M T R : Type 0} (m : Meanings S L M T R) (good : S → Epoch → ℕ → List L → Type 0) (setup : S) where
  -- good vectors: the opening, each round, a commit and a restore keep them good
  pub record KeepsGood : Type 0 where
    pub opening : good setup (first_epoch (m.ranks setup) (m.steps setup) (m.interval setup)) 0 (m.opening setup)
    pub one_each : (epoch : Epoch) (round : ℕ) (locals : List L) → good setup epoch round locals → length locals ≡ length epoch.members
    pub next : (epoch : Epoch) (round : ℕ) (locals : List L) → good setup epoch round locals → round < m.rounds setup epoch
        → good setup epoch (round + 1) (next_locals m setup epoch round locals)
    pub keep : (epoch : Epoch) (locals : List L) → good setup epoch (m.rounds setup epoch) locals → epoch.target < m.steps setup
        → good setup (epoch_after_commit (m.steps setup) (m.interval setup) epoch) 0 (map m.keep locals)
    pub restore : (epoch : Epoch) (round : ℕ) (locals : List L) (lives : ℕ → Bool) → good setup epoch round locals
        → first_lost_of epoch.homes (m.stored locals) (filter lives epoch.members) (m.shift setup) ≡ None
        → good setup (restored_epoch lives epoch) 0 (restored_locals m setup epoch lives locals)

  -- the homes whose part of the agreed snapshot has a block: the rounds and a restore keep them
  pub record KeepsStored : Type 0 where
    pub laid : All (λ rank. rank < m.ranks setup) (m.laid setup)
    pub opening : m.stored (m.opening setup) ≡ m.laid setup
    pub homes : (epoch : Epoch) (round : ℕ) (locals : List L) → good setup epoch round locals
        → IsStrictlyIncreasing (m.stored locals) × All (λ home. IsTrue (is_member epoch.homes home)) (m.stored locals)
    pub next : (epoch : Epoch) (round : ℕ) (locals : List L) → good setup epoch round locals → round < m.rounds setup epoch
        → m.stored (next_locals m setup epoch round locals) ≡ m.stored locals
    pub keep : (epoch : Epoch) (locals : List L) → good setup epoch (m.rounds setup epoch) locals → epoch.target < m.steps setup
        → m.stored (map m.keep locals) ≡ filled_members m epoch.members locals
    pub restore : (epoch : Epoch) (round : ℕ) (locals : List L) (lives : ℕ → Bool) → good setup epoch round locals
        → first_lost_of epoch.homes (m.stored locals) (filter lives epoch.members) (m.shift setup) ≡ None
        → m.stored (restored_locals m setup epoch lives locals) ≡ m.stored locals

  -- in a good vector peers are other members, in rising order, and peers of each other
  pub record KeepsPeers : Type 0 where
    pub rising : (epoch : Epoch) (round : ℕ) (locals : List L) (rank : ℕ) (local : L) → good setup epoch round locals
        → round < m.rounds setup epoch → local_of epoch.members locals rank ≡ Some local
        → IsStrictlyIncreasing (m.peers setup local epoch round)
    pub others : (epoch : Epoch) (round : ℕ) (locals : List L) (rank : ℕ) (local : L) → good setup epoch round locals
        → round < m.rounds setup epoch → local_of epoch.members locals rank ≡ Some local
        → All (λ peer. IsTrue (is_member epoch.members peer) × (peer ≢ rank)) (m.peers setup local epoch round)
    pub symmetric : (epoch : Epoch) (round : ℕ) (locals : List L) (rank peer : ℕ) (local other : L) → good setup epoch round locals
        → round < m.rounds setup epoch → local_of epoch.members locals rank ≡ Some local → local_of epoch.members locals peer ≡ Some other
        → IsTrue (is_member (m.peers setup local epoch round) peer) → IsTrue (is_member (m.peers setup other epoch round) rank)

  -- where no part is lost, a restore gives each stored part to its heir, and nothing else
  pub record KeepsParts : Type 0 where
    pub given : (epoch : Epoch) (round : ℕ) (locals : List L) (lives : ℕ → Bool) (rank : ℕ) (local : L) → good setup epoch round locals
        → first_lost_of epoch.homes (m.stored locals) (filter lives epoch.members) (m.shift setup) ≡ None
        → local_of epoch.members locals rank ≡ Some local → IsTrue (lives rank) → (home : ℕ)
        → is_member (m.given setup (m.reads local) rank (restored_epoch lives epoch)) home
        ≡ (is_member (m.stored locals) home && (heir_of epoch.homes (filter lives epoch.members) (m.shift setup) home == rank))

module _ {S L M T R B U : Type 0} (m : Meanings S L M T R) (regions : Regions S L M T R B U) (good : S → Epoch → ℕ → List L → Type 0) (setup : S) where
  -- no piece of the domain comes or goes, a restore goes on with the pieces of parts of the agreed snapshot, and together
  -- good locals hold each unit once
  pub record KeepsRegions : Type 0 where
    pub out : (epoch : Epoch) (round to : ℕ) (local : L) (unit : U) → IsSending m good setup epoch round to local
        → times regions (regions.of_local (m.out setup local epoch round to).0) unit + times regions (regions.of_message (m.out setup local epoch round to).1) unit
        ≡ times regions (regions.of_local local) unit
    pub take : (epoch : Epoch) (round peer : ℕ) (msg : M) (local : L) (unit : U) → IsReceiving m good setup epoch round peer msg local
        → times regions (regions.of_local (m.take setup local epoch round peer msg)) unit
        ≡ times regions (regions.of_local local) unit + times regions (regions.of_message msg) unit
    pub finish : (epoch : Epoch) (round : ℕ) (local : L) (unit : U) → IsFinishing m good setup epoch round local
        → times regions (regions.of_local (m.finish setup local epoch round)) unit ≡ times regions (regions.of_local local) unit
    pub keep : (local : L) (unit : U) → times regions (regions.of_local (m.keep local)) unit ≡ times regions (regions.of_local local) unit
    -- once all rounds are done
    pub parcel : (epoch : Epoch) (locals : List L) (rank : ℕ) (local : L) (unit : U) → good setup epoch (m.rounds setup epoch) locals
        → local_of epoch.members locals rank ≡ Some local
        → (times regions (regions.of_part (m.parcel local).1) unit ≡ times regions (regions.of_local local) unit)
        × (times regions (regions.of_local (m.parcel local).0) unit ≡ 0)
    -- where no part is lost, a restore gives a rank the pieces of the parts that it is given, and no others
    pub restore : (epoch : Epoch) (round : ℕ) (locals : List L) (lives : ℕ → Bool) (rank : ℕ) (local : L) (unit : U) → good setup epoch round locals
        → first_lost_of epoch.homes (m.stored locals) (filter lives epoch.members) (m.shift setup) ≡ None
        → local_of epoch.members locals rank ≡ Some local → IsTrue (lives rank)
        → times regions (regions.of_local (m.restore setup local rank (restored_epoch lives epoch))) unit
        ≡ sum_by (λ home. times regions (regions.of_saved (m.reads local) rank home) unit) (m.given setup (m.reads local) rank (restored_epoch lives epoch))
    -- two members that hold a home's part have the same pieces of it
    pub saved : (epoch : Epoch) (round : ℕ) (locals : List L) (a b home : ℕ) (of_a of_b : L) (unit : U) → good setup epoch round locals
        → local_of epoch.members locals a ≡ Some of_a → local_of epoch.members locals b ≡ Some of_b
        → IsTrue (is_member epoch.homes home)
        → IsTrue (is_holder epoch.homes (m.shift setup) home a) → IsTrue (is_holder epoch.homes (m.shift setup) home b)
        → times regions (regions.of_saved (m.reads of_a) a home) unit ≡ times regions (regions.of_saved (m.reads of_b) b home) unit
    pub whole : (epoch : Epoch) (round : ℕ) (locals : List L) (unit : U) → good setup epoch round locals → IsTrue (regions.is_in_domain setup unit)
        → times regions (flat_map regions.of_local locals) unit ≡ 1

  pub record Laws : Type 0 where
    pub limits : KeepsLimits m setup
    pub goods : KeepsGood m good setup
    pub stores : KeepsStored m good setup
    pub peers : KeepsPeers m good setup
    pub saves : KeepsReads m setup
    pub parts : KeepsParts m good setup
    pub pieces : KeepsRegions
