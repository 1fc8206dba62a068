-- No box comes or goes in the round.
use Rattle.std.proofs.Common.{◌≡◌, ℕ, ◌+◌, ◌≤◌, Bool, true, false, cond, not, ◌&&◌, ◌==◌, ◌<◌, List, [], ◌∷◌, ◌++◌, map, filter, refl, sym, ap, ◌∙◌, subst, IsTrue, All, arith, append-nil, append_assoc}
use Rattle.std.specs.Prelude.{AllPairs}
use Rattle.std.specs.List.{count_by}
use Rattle.std.specs.List.Sorted.{IsStrictlyIncreasing}
use Rattle.std.proofs.lemmas.List.{map-append}
use Rattle.std.proofs.lemmas.List.Elements.{All-contains, All-map}
use Rattle.std.proofs.lemmas.Simd.{map-map}
use Rattle.bf_lemmas.proofs.Lists.{All-from_Contains}
use Rattle.bf_buddy.specs.Members.{is_member}
use Rattle.bf_id.specs.Id.{BlockId, level_of}
use Rattle.bf_id.proofs.Tilings.{Contains-flat_map_cases}
use Rattle.bf_case.specs.declared.case.Case.{Case}
use Rattle.bf_case.specs.Model.{regrids}
use Rattle.bf_case.proofs.TestLemmas.{Contains-filter_cases}
use Rattle.bf_block.specs.declared.cargo.Cargo.{Cargo}
use Rattle.bf_block.specs.Runs.{CanRun}
use Rattle.bf_block.specs.Block.{BlockValue, IsModels}
use Rattle.bf_parts.specs.Counts.{count_append, count_cons, once}
use Rattle.bf_migrate.specs.Boxes.{IsHalved, boxes_in, boxes_of}
use Rattle.bf_migrate.specs.Lots.{AreBlocksOf, cargo_id}
use Rattle.bf_migrate.proofs.BoxLemmas.{boxes_given, boxes_made}
use Rattle.bf_mark_rounds.specs.Neighbors.{AreOwned, is_own}
use Rattle.bf_rounds.specs.Leading.{Conserves}
use Rattle.bf_migrate_rounds.specs.Boxes.{boxes_held}
use Rattle.bf_msg.specs.declared.linked_block.LinkedBlock.{LinkedBlock}
use Rattle.bf_migrate_rounds.specs.Holdings.{Holdings, Migrating, blocks_in, loads, on_hand}
use Rattle.bf_migrate_rounds.specs.Plays.{cargo_for, cargo_without}
use Rattle.bf_migrate_rounds.specs.Shares.{block_after, block_before, cargo_told, held_after, held_heard, held_sent, left_with, migrating_after, migrating_course, new_ids, old_ids, own_new, own_old, proxy_of, target_at, two_way_peers}
use Rattle.bf_migrate_rounds.proofs.BlockLemmas.{block_models, comes_from, goes_to, load, load_id, new, old, pieces, regridded_model}
use Rattle.bf_migrate_rounds.proofs.EndLemmas.{came, gained, hand_is, hand_makes, peers_up}
use Rattle.bf_migrate_rounds.proofs.ListLemmas.{not_before}
use Rattle.bf_migrate_rounds.proofs.PieceLemmas.{pieces_shallow}
use Rattle.bf_migrate_rounds.proofs.RoundLemmas.{migration_leads}
use Rattle.bf_migrate_rounds.proofs.SendLemmas.{blocks_are, for_peer, left_more, left_none}
use Rattle.bf_migrate_rounds.proofs.TellLemmas.{old_stand}

-- those for a rank, and the others
count_split : (test : BlockId → Bool) (to : ℕ) (xs : List (ℕ × Cargo))
    → count_by test (boxes_in (loads (cargo_without to xs))) + count_by test (boxes_in (cargo_for to xs)) ≡ count_by test (boxes_in (loads xs))
count_split test to [] = refl
count_split test to (x ∷ xs) = by (x.0 == to) (count_split test to xs) ∙ sym (count_cons test (cargo_id x.1) (boxes_in (loads xs)))
  where
    others : List (ℕ × Cargo)
    others = cargo_without to xs

    those : List (ℕ × Cargo)
    those = filter (λ (y : ℕ × Cargo). y.0 == to) xs

    first : (a b d n m : ℕ) → b ≡ d + m → a + m ≡ n → a + b ≡ d + n
    first a b d n m e f = omega arith

    second : (a b d n m : ℕ) → a ≡ d + m → m + b ≡ n → a + b ≡ d + n
    second a b d n m e f = omega arith

    by : (b : Bool) → count_by test (boxes_in (loads others)) + count_by test (boxes_in (loads those)) ≡ count_by test (boxes_in (loads xs))
        → count_by test (boxes_in (loads (cond (not b) (x ∷ others) others))) + count_by test (boxes_in (loads (cond b (x ∷ those) those)))
        ≡ once (test (cargo_id x.1)) + count_by test (boxes_in (loads xs))
    by true later =
        first (count_by test (boxes_in (loads others))) (count_by test (boxes_in (loads (x ∷ those)))) (once (test (cargo_id x.1)))
        (count_by test (boxes_in (loads xs))) (count_by test (boxes_in (loads those)))
        (count_cons test (cargo_id x.1) (boxes_in (loads those))) later
    by false later =
        second (count_by test (boxes_in (loads (x ∷ others)))) (count_by test (boxes_in (loads those))) (once (test (cargo_id x.1)))
        (count_by test (boxes_in (loads xs))) (count_by test (boxes_in (loads others)))
        (count_cons test (cargo_id x.1) (boxes_in (loads others))) later

-- what is heard is held
grown : (test : BlockId → Bool) (holds : Holdings) (msg : List Cargo)
    → count_by test (boxes_held (record holds { arrived = holds.arrived ++ msg })) ≡ count_by test (boxes_held holds) + count_by test (boxes_in msg)
grown test holds msg =
    ap (λ xs. count_by test (boxes_of (blocks_in holds.blocks) ++ boxes_in xs)) (sym (append_assoc (loads holds.cargo) holds.arrived msg))
    ∙ ap (λ is. count_by test (boxes_of (blocks_in holds.blocks) ++ is)) (map-append cargo_id (on_hand holds) msg)
    ∙ ap (count_by test) (sym (append_assoc (boxes_of (blocks_in holds.blocks)) (boxes_in (on_hand holds)) (boxes_in msg)))
    ∙ count_append test (boxes_held holds) (boxes_in msg)

module _ (c : Case) (time : ℕ) (runs : CanRun c) (does : IsTrue (regrids c time)) (owner later : BlockId → ℕ) (members : List ℕ) (rise : IsStrictlyIncreasing members)
    (owned : AreOwned (old_ids c time) owner members) (owned_later : AreOwned (new_ids c time) later members) (test : BlockId → Bool) (halved : IsHalved test) where
  abbrev before : BlockId → BlockValue
  before = old c time runs does

  abbrev now : BlockId → BlockValue
  now = new c time runs does

  abbrev own : ℕ → List BlockId
  own = own_old c time owner later

  abbrev own_later : ℕ → List BlockId
  own_later = own_new c time owner later

  abbrev left : ℕ → List ℕ → List (ℕ × Cargo)
  left = left_with c time owner later

  abbrev peers : ℕ → List ℕ
  peers = two_way_peers c time owner later members

  abbrev weight : List Cargo → ℕ
  weight cargo = count_by test (boxes_in cargo)

  given_weighs : (rank : ℕ) → count_by test (boxes_of (blocks_in (map (block_before c time owner later) (own rank)))) ≡ weight (loads (left rank []))
  given_weighs rank =
      ap (λ bs. count_by test (boxes_of bs)) (blocks_are c time runs does owner later rank)
      ∙ sym (boxes_given c time later (map before (own rank)) test (old_stand c time runs does owner later rank)
      (All-map IsModels before (own rank) (All-from_Contains (λ i. IsModels (before i)) (own rank) (λ i has.
      block_models c time runs does i (Contains-filter_cases (is_own owner rank) (old_ids c time) i has).0))) halved)
      ∙ ap (λ xs. weight (loads xs)) (sym (left_none c time runs does owner later rank))

  -- at a send
  sent_weighs : (rank : ℕ) (done : List ℕ) → count_by test (boxes_held (held_sent c time owner later rank done)) ≡ weight (loads (left rank done))
  sent_weighs rank [] =
      ap (count_by test) (append-nil (boxes_of (blocks_in (map (block_before c time owner later) (own rank))))) ∙ given_weighs rank
  sent_weighs rank (d ∷ done) = ap weight (append-nil (loads (left rank (d ∷ done))))

  out_keeps : (rank to : ℕ) (done : List ℕ) → is_member done to ≡ false
      → count_by test (boxes_held (held_sent c time owner later rank (done ++ to ∷ []))) + weight (cargo_told c time owner later rank to)
      ≡ count_by test (boxes_held (held_sent c time owner later rank done))
  out_keeps rank to done fresh =
      ap (λ n. n + weight (cargo_told c time owner later rank to))
      (sent_weighs rank (done ++ to ∷ []) ∙ ap (λ xs. weight (loads xs)) (sym (left_more c time runs does owner later rank to done)))
      ∙ ap (λ xs. weight (loads (cargo_without to (left rank done))) + weight xs) (sym (for_peer c time runs does owner later rank to done fresh))
      ∙ count_split test to (left rank done)
      ∙ sym (sent_weighs rank done)

  -- once all peers are heard
  heard_weighs : (rank : ℕ) (done : List ℕ) (arrived : List Cargo)
      → count_by test (boxes_held (record (held_sent c time owner later rank done) { arrived = arrived })) ≡ weight (loads (left rank done) ++ arrived)
  heard_weighs rank [] arrived =
      count_append test (boxes_of (blocks_in (map (block_before c time owner later) (own rank)))) (boxes_in arrived)
      ∙ ap (λ n. n + weight arrived) (given_weighs rank)
      ∙ sym (count_append test (boxes_in (loads (left rank []))) (boxes_in arrived))
      ∙ sym (ap (count_by test) (map-append cargo_id (loads (left rank [])) arrived))
  heard_weighs rank (d ∷ done) arrived = refl

  are_blocks : (qs : List BlockId) → AreBlocksOf c time (map (proxy_of c time owner later) qs) (map now qs)
  are_blocks [] = refl
  are_blocks (q ∷ qs) = (now q, (map now qs, (refl, (record { case = refl; point = refl; id = refl }, are_blocks qs))))

  hand_shallow : (rank : ℕ)
      → All (λ (x : Cargo). level_of (cargo_id x) ≤ 4) (loads (left rank (peers rank)) ++ gained c time runs does owner later members rise owned owned_later rank)
  hand_shallow rank =
      let all : List BlockId = pieces c time runs does in
      let some : List BlockId = came c time runs does owner later members rise owned owned_later rank (rank ∷ peers rank) in
      subst (All (λ (x : Cargo). level_of (cargo_id x) ≤ 4)) (sym (hand_is c time runs does owner later members rise owned owned_later rank))
      (All-map (λ (x : Cargo). level_of (cargo_id x) ≤ 4) (load c time runs does) some
      (All-from_Contains (λ p. level_of (cargo_id (load c time runs does p)) ≤ 4) some (λ p has.
      let from = Contains-flat_map_cases (λ k. filter (λ p. passed rank k p) all) (rank ∷ peers rank) p has in
      let is_in = (Contains-filter_cases (λ p. passed rank from.0 p) all p from.2).0 in
      let low : level_of p ≤ c.levels =
      All-contains (λ p. level_of p ≤ c.levels) all p
      (pieces_shallow c.roots c.levels (old_ids c time) (target_at c time) (regridded_model c time runs does)) is_in in
      let few : c.levels ≤ 4 = runs.valid.sized.shallow in
      subst (λ i. level_of i ≤ 4) (sym (load_id c time runs does p)) (omega arith))))
    where
      passed : ℕ → ℕ → BlockId → Bool
      passed rank k p = comes_from c time runs does owner later p == k && goes_to c time runs does owner later p == rank

  finish_keeps : (rank : ℕ) → IsTrue (is_member members rank)
      → count_by test (boxes_held (held_after c time owner later rank))
      ≡ count_by test (boxes_held (held_heard c time owner later members rank (gained c time runs does owner later members rise owned owned_later rank)))
  finish_keeps rank member =
      let cargo : List Cargo = loads (left rank (peers rank)) ++ gained c time runs does owner later members rise owned owned_later rank in
      ap (count_by test) (append-nil (boxes_of (blocks_in (map (block_after c time owner later) (own_later rank)))))
      ∙ ap (λ bs. count_by test (boxes_of bs)) (map-map (λ (o : LinkedBlock). o.block) (block_after c time owner later) (own_later rank))
      ∙ sym (boxes_made c time (map (proxy_of c time owner later) (own_later rank)) cargo (map now (own_later rank)) test
      (hand_makes c time runs does owner later members rise owned owned_later rank member) (are_blocks (own_later rank)) (hand_shallow rank) halved)
      ∙ sym (heard_weighs rank (peers rank) (gained c time runs does owner later members rise owned owned_later rank))

  pub boxes_stay : Conserves (λ (local : Migrating). count_by test (boxes_held local.holds)) (λ msg. count_by test (boxes_in msg)) members (migrating_course c time owner later members)
      (migrating_after c time owner later)
  boxes_stay = record {
    out = λ rank to done rest member is_next.
        out_keeps rank to done
        (not_before done rest to (subst (AllPairs (λ a b. a < b)) is_next (peers_up c time runs does owner later members rise owned owned_later rank member)));
    take = λ rank peer done rest member is_next.
        ap (λ (local : Migrating). count_by test (boxes_held local.holds))
        (sym ((migration_leads c time runs does owner later members rise owned owned_later).take rank peer done rest member is_next))
        ∙ grown test ((migrating_course c time owner later members).heard rank done).holds (cargo_told c time owner later peer rank);
    finish = finish_keeps;
  }
