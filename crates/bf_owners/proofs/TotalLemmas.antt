-- While a run goes on, the lockstep's locals where the ranks stand and the messages that wait hold each unit once.
use Rattle.std.proofs.Common.{◌≡◌, ℕ, ◌+◌, ◌<◌, Bool, true, false, cond, ◌||◌, IsTrue, List, [], ◌∷◌, length, arith, refl, sym, ◌∙◌, ap}
use Rattle.std.specs.Prelude.{◌==◌, Some, None, sum_by}
use Rattle.std.specs.List.{range_with_len}
use Rattle.std.proofs.lemmas.Bool.{eqb-true, eq-eqb, or_left, or_right}
use Rattle.std.proofs.lemmas.List.Sums.{sum_by-append, sum_by-cons}
use Rattle.bf_buddy.specs.Members.{is_member}
use Rattle.bf_program.specs.declared.epoch.Epoch.{Epoch}
use Rattle.bf_program.specs.Meanings.{Meanings, Regions}
use Rattle.bf_program.specs.Laws.{KeepsGood, KeepsPeers, KeepsRegions, times}
use Rattle.bf_program.specs.Lockstep.{local_of}
use Rattle.bf_world.specs.Messages.{sent_to, received_from, HoldsMessages}
use Rattle.bf_world.specs.Queues.{Waiting, messages}
use Rattle.bf_world.specs.Runs.{Run, place}
use Rattle.bf_world.proofs.MemberLemmas.{Apart}
use Rattle.bf_world.proofs.PlaceLemmas.{IsPlaced}
use Rattle.bf_owners.specs.Owners.{local_here}
use Rattle.bf_owners.proofs.SumLemmas.{sum_alike, sum_none, sum_both, sum_turned, sum_joined, sum_range, sum_of_one}
use Rattle.bf_owners.proofs.LedgerLemmas.{weight_with, place_weighs}

-- who is no member has no local
pub no_seat : {L : Type 0} (members : List ℕ) (locals : List L) (rank : ℕ) → is_member members rank ≡ false → local_of members locals rank ≡ None
no_seat [] locals rank out = refl
no_seat (x ∷ xs) [] rank out = refl
no_seat {L = L} (x ∷ xs) (l ∷ ls) rank out = at_first (x == rank) out (λ later. no_seat xs ls rank later)
  where
    at_first : (b : Bool) → (b || is_member xs rank) ≡ false → (is_member xs rank ≡ false → local_of xs ls rank ≡ None) → cond b (Some l) (local_of xs ls rank) ≡ None
    at_first true among rest = absurd (cc)
    at_first false later rest = rest later

-- the members' locals, told by looking each rank up, weigh what all locals do
pub seats_weigh : {L : Type 0} (weight : L → ℕ) (members : List ℕ) (locals : List L) (ranks : ℕ) → Apart members → length locals ≡ length members
    → ((y : ℕ) → is_member members y ≡ true → y < ranks)
    → sum_by (λ rank. weight_with weight (local_of members locals rank)) (range_with_len 0 ranks) ≡ sum_by weight locals
seats_weigh weight [] [] ranks apart each below = sum_none (range_with_len 0 ranks)
seats_weigh weight [] (l ∷ ls) ranks apart each below = absurd (omega (arith, each))
seats_weigh weight (x ∷ xs) [] ranks apart each below = absurd (omega (arith, each))
seats_weigh {L = L} weight (x ∷ xs) (l ∷ ls) ranks apart each below =
    let rest : sum_by (λ rank. weight_with weight (local_of xs ls rank)) (range_with_len 0 ranks) ≡ sum_by weight ls =
    seats_weigh weight xs ls ranks apart.1 (omega (arith, each)) (λ y later. below y (or_right (x == y) (is_member xs y) later)) in
    let its : sum_by (λ rank. cond (x == rank) (weight l) 0) (range_with_len 0 ranks) ≡ weight l =
    sum_of_one (λ rank. weight l) x 0 ranks (omega arith) (omega (arith, below x (or_left (x == x) (is_member xs x) (eq-eqb x x refl)))) in
    let all : sum_by (λ rank. weight_with weight (local_of (x ∷ xs) (l ∷ ls) rank)) (range_with_len 0 ranks)
    ≡ sum_by (λ rank. cond (x == rank) (weight l) 0) (range_with_len 0 ranks) + sum_by (λ rank. weight_with weight (local_of xs ls rank)) (range_with_len 0 ranks) =
    sum_alike (λ rank. weight_with weight (local_of (x ∷ xs) (l ∷ ls) rank)) (λ rank. cond (x == rank) (weight l) 0 + weight_with weight (local_of xs ls rank))
    (range_with_len 0 ranks) (λ rank. at_each rank (x == rank) refl)
    ∙ sum_both (λ rank. cond (x == rank) (weight l) 0) (λ rank. weight_with weight (local_of xs ls rank)) (range_with_len 0 ranks) in
    omega (arith, rest, its, all, sum_by-cons weight l ls)
  where
    at_each : (rank : ℕ) (b : Bool) → (x == rank) ≡ b
        → weight_with weight (cond b (Some l) (local_of xs ls rank)) ≡ cond b (weight l) 0 + weight_with weight (local_of xs ls rank)
    at_each rank true same =
        let none : local_of xs ls rank ≡ None = no_seat xs ls rank (ap (is_member xs) (sym (eqb-true x rank same)) ∙ apart.0) in
        omega (arith, ap (weight_with weight) none)
    at_each rank false other = omega arith

module _ {S L M T R B U : Type 0} (m : Meanings S L M T R) (regions : Regions S L M T R B U) (good : S → Epoch → ℕ → List L → Type 0) (setup : S)
    (goods : KeepsGood m good setup) (peers : KeepsPeers m good setup) (pieces : KeepsRegions m regions good setup) (unit : U) where
  -- good locals, told by looking each rank up, hold a unit of the domain once
  pub good_weighs : (epoch : Epoch) (round : ℕ) (locals : List L) (ranks : ℕ) → good setup epoch round locals → Apart epoch.members
      → ((y : ℕ) → is_member epoch.members y ≡ true → y < ranks) → IsTrue (regions.is_in_domain setup unit)
      → sum_by (λ rank. weight_with (λ local. times regions (regions.of_local local) unit) (local_of epoch.members locals rank)) (range_with_len 0 ranks) ≡ 1
  good_weighs epoch round locals ranks is_good apart below inside =
      seats_weigh (λ local. times regions (regions.of_local local) unit) epoch.members locals ranks apart (goods.one_each epoch round locals is_good) below
      ∙ sym (sum_joined (λ (box : B). cond (regions.holds box unit) 1 0) regions.of_local locals)
      ∙ pieces.whole epoch round locals unit is_good inside

  -- the locals where the ranks stand, and what waits for each, hold it once
  pub total_weighs : (run : Run L T) (waiting : Waiting M) → good setup run.core.epoch 0 run.start → Apart run.core.epoch.members
      → ((y : ℕ) → is_member run.core.epoch.members y ≡ true → y < waiting.ranks)
      → ((rank : ℕ) → IsPlaced m setup run.core.epoch run.start rank (place run rank)) → HoldsMessages m setup run waiting
      → IsTrue (regions.is_in_domain setup unit)
      → sum_by (λ rank. weight_with (λ local. times regions (regions.of_local local) unit) (local_here m setup run rank)) (range_with_len 0 waiting.ranks)
      + sum_by (λ rank. sum_by (λ from. sum_by (λ msg. times regions (regions.of_message msg) unit) (messages waiting from rank)) (range_with_len 0 waiting.ranks)) (range_with_len 0 waiting.ranks)
      ≡ 1
  total_weighs run waiting is_good apart below placed held inside =
      omega (
        arith,
        sym (sum_both here (λ rank. sum_by (λ to. weigh (sent rank to)) every) every)
            ∙ sum_alike _ _ every (λ rank. place_weighs m regions good setup goods peers pieces run.core.epoch run.start is_good unit waiting.ranks below rank (place run rank) (placed rank))
            ∙ sum_both first (λ rank. sum_by (λ from. weigh (received rank from)) every) every,
        sum_range (λ from. sum_by (λ to. weigh (sent from to)) every) (λ from. sum_by (λ to. weigh (received to from) + weigh (messages waiting from to)) every) 0 waiting.ranks
            (λ from _ hf. sum_range (λ to. weigh (sent from to)) (λ to. weigh (received to from) + weigh (messages waiting from to)) 0 waiting.ranks
            (λ to _ ht. ap weigh (sym (held.holds from to (omega (arith, hf)) (omega (arith, ht)))) ∙ sum_by-append one (received to from) (messages waiting from to)))
            ∙ sum_alike _ (λ from. sum_by (λ to. weigh (received to from)) every + sum_by (λ to. weigh (messages waiting from to)) every) every
            (λ from. sum_both (λ to. weigh (received to from)) (λ to. weigh (messages waiting from to)) every)
            ∙ sum_both (λ from. sum_by (λ to. weigh (received to from)) every) (λ from. sum_by (λ to. weigh (messages waiting from to)) every) every,
        sum_turned (λ from to. weigh (received to from)) every every,
        sum_turned (λ from to. weigh (messages waiting from to)) every every,
        good_weighs run.core.epoch 0 run.start waiting.ranks is_good apart below inside,
      )
    where
      every : List ℕ
      every = range_with_len 0 waiting.ranks

      one : M → ℕ
      one msg = times regions (regions.of_message msg) unit

      weigh : List M → ℕ
      weigh msgs = sum_by (λ msg. times regions (regions.of_message msg) unit) msgs

      sent : (rank to : ℕ) → List M
      sent rank to = sent_to m setup run.core.epoch run.start rank to (place run rank)

      received : (rank from : ℕ) → List M
      received rank from = received_from m setup run.core.epoch run.start rank from (place run rank)

      here : ℕ → ℕ
      here rank = weight_with (λ local. times regions (regions.of_local local) unit) (local_here m setup run rank)

      first : ℕ → ℕ
      first rank = weight_with (λ local. times regions (regions.of_local local) unit) (local_of run.core.epoch.members run.start rank)
