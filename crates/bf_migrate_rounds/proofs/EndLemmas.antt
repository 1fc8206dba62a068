-- At the end of the round a rank has on hand each piece for its proxies, once.
use Rattle.std.proofs.Common.{◌≡◌, ℕ, ◌<◌, Bool, true, false, not, ◌&&◌, ◌==◌, inr, List, [], ◌∷◌, ◌++◌, map, filter, flat_map, Contains, refl, sym, ap, ◌∙◌, subst, IsTrue}
use Rattle.std.specs.Prelude.{AllPairs, IsPermutation}
use Rattle.std.specs.List.Sorted.{IsStrictlyIncreasing}
use Rattle.std.proofs.lemmas.Bool.{eqb-true}
use Rattle.std.proofs.lemmas.List.{map-append}
use Rattle.std.proofs.lemmas.List.Elements.{filter_agree}
use Rattle.std.proofs.lemmas.List.Kept.{AllPairs-from_increasing}
use Rattle.std.proofs.lemmas.Simd.{map-map}
use Rattle.bf_lemmas.proofs.Lists.{filter_mapped, filter_twice}
use Rattle.bf_buddy.specs.Members.{is_member}
use Rattle.bf_buddy.proofs.MemberLemmas.{member_filter, member_filter_from}
use Rattle.bf_id.specs.Id.{BlockId, id_eq}
use Rattle.bf_case.specs.declared.case.Case.{Case}
use Rattle.bf_case.specs.Model.{regrids}
use Rattle.bf_block.specs.declared.cargo.Cargo.{Cargo}
use Rattle.bf_block.specs.Runs.{CanRun}
use Rattle.bf_marks.proofs.RefinedLemmas.{filter_where}
use Rattle.bf_mark_rounds.specs.Neighbors.{is_own, AreOwned}
use Rattle.bf_migrate.specs.Lots.{Makes, cargo_id}
use Rattle.bf_rounds.specs.Gathering.{gathered}
use Rattle.bf_rounds.proofs.LeadLemmas.{peers_rise}
use Rattle.bf_migrate_rounds.specs.Holdings.{Holdings, loads, on_hand}
use Rattle.bf_migrate_rounds.specs.Plays.{assembled, ended, migrate_play, packed}
use Rattle.bf_migrate_rounds.specs.Shares.{cargo_told, held_after, held_heard, left_with, migrating_after, migrating_with, new_ids, old_ids, own_new, plan_at, proxy_of, two_way_peers, Flows}
use Rattle.bf_migrate_rounds.proofs.BlockLemmas.{comes_from, given_is, goes_to, load, load_id, pieces, regridded_model, sent_as}
use Rattle.bf_migrate_rounds.proofs.ListLemmas.{IsOnce, flat_map_of_maps, flat_map_where, if_so, nobody, none_of, once_each, one_of, only_itself, only_once}
use Rattle.bf_migrate_rounds.proofs.LotLemmas.{HasParts, assembled_are, own_was_new, part_is_for, pieces_make}
use Rattle.bf_migrate_rounds.proofs.PeerLemmas.{goes_to_peers, mutual_peers, piece_flows, sees, sees_by, source_owned}
use Rattle.bf_migrate_rounds.proofs.PieceLemmas.{pieces_rise}
use Rattle.bf_migrate_rounds.proofs.SendLemmas.{packed_sent}

module _ (c : Case) (time : ℕ) (runs : CanRun c) (does : IsTrue (regrids c time)) (owner later : BlockId → ℕ) (members : List ℕ) (rise : IsStrictlyIncreasing members)
    (owned : AreOwned (old_ids c time) owner members) (owned_later : AreOwned (new_ids c time) later members) where
  abbrev all : List BlockId
  all = pieces c time runs does

  abbrev at : BlockId → Cargo
  at = load c time runs does

  abbrev source : BlockId → ℕ
  source = comes_from c time runs does owner later

  abbrev destination : BlockId → ℕ
  destination = goes_to c time runs does owner later

  abbrev peers : ℕ → List ℕ
  peers = two_way_peers c time owner later members

  abbrev sent : BlockId → ℕ × Cargo
  sent = sent_as c time runs does owner later

  -- a piece goes from one rank to another
  abbrev passes : (rank from : ℕ) → BlockId → Bool
  passes rank from p = source p == from && destination p == rank

  abbrev pub is_for : (rank : ℕ) → BlockId → Bool
  is_for rank p = destination p == rank

  -- the pieces that some ranks give to one
  abbrev pub came : (rank : ℕ) → (ranks : List ℕ) → List BlockId
  came rank ranks = flat_map (λ k. filter (passes rank k) all) ranks

  -- ---- messages, and what stays

  pub told_are : (rank peer : ℕ) → cargo_told c time owner later peer rank ≡ map at (filter (passes rank peer) all)
  told_are rank peer =
      ap (λ xs. loads (filter (λ (x : ℕ × Cargo). x.0 == rank) xs)) (given_is c time runs does owner later peer)
      ∙ ap loads (filter_mapped (λ (x : ℕ × Cargo). x.0 == rank) sent (filter (λ p. is_own source peer p) all))
      ∙ map-map (λ (x : ℕ × Cargo). x.1) sent (filter (is_for rank) (filter (λ p. is_own source peer p) all))
      ∙ ap (map at) (filter_twice (is_for rank) (λ p. is_own source peer p) all)

  pub peer_not_self : (rank : ℕ) → is_member (peers rank) rank ≡ false
  peer_not_self rank =
      member_filter (sees c time runs does owner later rank) members rank
      ∙ ap (λ b. is_member members rank && b) ((mutual_peers c time runs does owner later members).apart rank)
      ∙ and_none (is_member members rank)
    where
      and_none : (b : Bool) → (b && false) ≡ false
      and_none true = refl
      and_none false = refl

  stays : (rank : ℕ) (p : BlockId) → Contains all p → (is_own source rank p && not (is_member (peers rank) (destination p))) ≡ passes rank rank p
  stays rank p has = by (source p == rank) (destination p == rank) refl refl
    where
      by : (b d : Bool) → (source p == rank) ≡ b → (destination p == rank) ≡ d
          → (source p == rank && not (is_member (peers rank) (destination p))) ≡ (source p == rank && destination p == rank)
      by false d other e = ap (λ b. b && not (is_member (peers rank) (destination p))) other ∙ sym (ap (λ b. b && destination p == rank) other)
      by true true same here =
          ap (λ b. source p == rank && not b) (ap (is_member (peers rank)) (eqb-true (destination p) rank here) ∙ peer_not_self rank)
          ∙ sym (ap (λ b. source p == rank && b) here)
      by true false same away =
          let own : source p ≡ rank = eqb-true (source p) rank same in
          let moved : not (destination p == source p) ≡ true = ap (λ n. not (destination p == n)) own ∙ ap not away in
          let peer : is_member (peers rank) (destination p) ≡ true =
          ap (λ n. is_member (peers n) (destination p)) (sym own) ∙ goes_to_peers c time runs does owner later members owned owned_later p has moved in
          ap (λ b. source p == rank && not b) peer ∙ sym (ap (λ b. source p == rank && b) away)

  stay_are : (rank : ℕ) → loads (left_with c time owner later rank (peers rank)) ≡ map at (filter (passes rank rank) all)
  stay_are rank =
      ap (λ xs. loads (filter (λ (x : ℕ × Cargo). not (is_member (peers rank) x.0)) xs)) (given_is c time runs does owner later rank)
      ∙ ap loads (filter_mapped (λ (x : ℕ × Cargo). not (is_member (peers rank) x.0)) sent (filter (λ p. is_own source rank p) all))
      ∙ map-map (λ (x : ℕ × Cargo). x.1) sent (filter (λ p. not (is_member (peers rank) (destination p))) (filter (λ p. is_own source rank p) all))
      ∙ ap (map at) (filter_twice (λ p. not (is_member (peers rank) (destination p))) (λ p. is_own source rank p) all
      ∙ filter_where (λ p. is_own source rank p && not (is_member (peers rank) (destination p))) (passes rank rank) all (stays rank))

  pub told_all : (rank : ℕ) (ranks : List ℕ) → flat_map (λ peer. cargo_told c time owner later peer rank) ranks ≡ map at (came rank ranks)
  told_all rank ranks =
      flat_map_where (λ peer. cargo_told c time owner later peer rank) (λ peer. map at (filter (passes rank peer) all)) ranks (λ peer has. told_are rank peer)
      ∙ flat_map_of_maps at (λ k. filter (passes rank k) all) ranks

  -- what a rank has on hand once it has heard its peers
  abbrev pub gained : (rank : ℕ) → List Cargo
  gained rank = gathered (λ peer (msg : List Cargo). msg) (cargo_told c time owner later) rank (peers rank)

  pub hand_is : (rank : ℕ) → loads (left_with c time owner later rank (peers rank)) ++ gained rank ≡ map at (came rank (rank ∷ peers rank))
  hand_is rank =
      ap (λ xs. xs ++ gained rank) (stay_are rank) ∙ ap (λ xs. map at (filter (passes rank rank) all) ++ xs) (told_all rank (peers rank))
      ∙ sym (map-append at (filter (passes rank rank) all) (came rank (peers rank)))

  -- ---- each piece once

  pub peers_up : (rank : ℕ) → IsTrue (is_member members rank) → AllPairs (λ a b. a < b) (peers rank)
  peers_up rank member =
      AllPairs-from_increasing (peers rank) (peers_rise members (sees c time runs does owner later) peers rise
      (mutual_peers c time runs does owner later members) rank member)

  pub once_on_hand : (rank : ℕ) → IsTrue (is_member members rank) → (p : BlockId) → Contains all p → IsOnce (passes rank) (rank ∷ peers rank) (is_for rank) p
  once_on_hand rank member p has = by (destination p == rank) refl
    where
      sender : (source p == rank) ≡ false → (destination p == rank) ≡ true → is_member (peers rank) (source p) ≡ true
      sender other here =
          let flow : Flows c time owner later (source p) rank =
          subst (λ n. Flows c time owner later (source p) n) (eqb-true (destination p) rank here)
          (piece_flows c time runs does owner later members owned owned_later p has) in
          member_filter_from (sees c time runs does owner later rank) members (source p) (source_owned c time runs does owner later members owned owned_later p has)
          (sees_by c time runs does owner later rank (source p) (ap not other) (inr flow))

      at_once : (b : Bool) → (source p == rank) ≡ b → (destination p == rank) ≡ true
          → (if_so (source p == rank && true) p ++ flat_map (λ k. if_so (source p == k && true) p) (peers rank)) ≡ p ∷ []
      at_once true same here =
          ap (λ s. if_so (s && true) p ++ flat_map (λ k. if_so (source p == k && true) p) (peers rank)) same
          ∙ ap (λ ps. p ∷ ps) (none_of p (source p) true (peers rank) (ap (is_member (peers rank)) (eqb-true (source p) rank same) ∙ peer_not_self rank))
      at_once false other here =
          ap (λ s. if_so (s && true) p ++ flat_map (λ k. if_so (source p == k && true) p) (peers rank)) other
          ∙ one_of p (source p) true (peers rank) (peers_up rank member) (sender other here)

      by : (b : Bool) → (destination p == rank) ≡ b
          → flat_map (λ k. if_so (source p == k && destination p == rank) p) (rank ∷ peers rank) ≡ if_so (destination p == rank) p
      by false away =
          ap (λ b. flat_map (λ k. if_so (source p == k && b) p) (rank ∷ peers rank)) away ∙ nobody p (source p) (rank ∷ peers rank) ∙ sym (ap (λ b. if_so b p) away)
      by true here =
          ap (λ b. flat_map (λ k. if_so (source p == k && b) p) (rank ∷ peers rank)) here ∙ at_once (source p == rank) refl here ∙ sym (ap (λ b. if_so b p) here)

  -- of all members too
  once_of_members : (rank : ℕ) (p : BlockId) → Contains all p → IsOnce (passes rank) members (is_for rank) p
  once_of_members rank p has =
      one_of p (source p) (destination p == rank) members (AllPairs-from_increasing members rise)
      (source_owned c time runs does owner later members owned owned_later p has)

  pub hand_once : (rank : ℕ) → IsTrue (is_member members rank) → IsPermutation (came rank (rank ∷ peers rank)) (filter (is_for rank) all)
  hand_once rank member = once_each (passes rank) (rank ∷ peers rank) (is_for rank) all (once_on_hand rank member)

  pub hand_makes : (rank : ℕ) → IsTrue (is_member members rank)
      → Makes c time (map (proxy_of c time owner later) (own_new c time owner later rank)) (loads (left_with c time owner later rank (peers rank)) ++ gained rank)
  hand_makes rank member =
      subst (Makes c time (map (proxy_of c time owner later) (own_new c time owner later rank))) (sym (hand_is rank))
      (pieces_make c time runs does owner later rank (came rank (rank ∷ peers rank)) (hand_once rank member))

  pub packed_makes : (rank : ℕ) → IsTrue (is_member members rank)
      → Makes c time (map (proxy_of c time owner later) (own_new c time owner later rank))
      (on_hand (packed (plan_at c time owner later rank) (held_heard c time owner later members rank (gained rank))))
  packed_makes rank member =
      subst (λ (h : Holdings). Makes c time (map (proxy_of c time owner later) (own_new c time owner later rank)) (on_hand (record h { arrived = gained rank })))
      (sym (packed_sent c time runs does owner later rank (peers rank))) (hand_makes rank member)

  pub all_make : (rank : ℕ)
      → Makes c time (map (proxy_of c time owner later) (own_new c time owner later rank)) (flat_map (λ from. cargo_told c time owner later from rank) members)
  all_make rank =
      subst (Makes c time (map (proxy_of c time owner later) (own_new c time owner later rank))) (sym (told_all rank members))
      (pieces_make c time runs does owner later rank (came rank members) (once_each (passes rank) members (is_for rank) all (once_of_members rank)))

  -- ---- the end

  hand_has : (rank : ℕ) → IsTrue (is_member members rank) → (q : BlockId) → Contains (own_new c time owner later rank) q
      → HasParts c time runs does owner later (map at (came rank (rank ∷ peers rank))) q
  hand_has rank member q has p part =
      let piece = part_is_for c time runs does owner later rank q p has part in
      let of : BlockId → Bool = λ r. id_eq r p in
      filter_mapped (λ x. id_eq (cargo_id x) p) at (came rank (rank ∷ peers rank))
      ∙ ap (map at) (filter_agree (λ r. id_eq (cargo_id (at r)) p) of (λ r. ap (λ i. id_eq i p) (load_id c time runs does r)) (came rank (rank ∷ peers rank)))
      ∙ ap (map at) (only_once (passes rank) (rank ∷ peers rank) of (is_for rank) all p
      (only_itself all p (pieces_rise c.roots c.levels (old_ids c time) _ (regridded_model c time runs does)) piece.0) (once_on_hand rank member p piece.0))
      ∙ ap (λ b. map at (if_so b p)) piece.1

  pub finish_is : (rank : ℕ) → IsTrue (is_member members rank)
      → migrate_play.finish (migrating_with c time owner later rank (held_heard c time owner later members rank (gained rank)))
      ≡ migrating_after c time owner later rank
  finish_is rank member =
      ap (λ (h : Holdings). migrating_with c time owner later rank (ended (plan_at c time owner later rank) (record h { arrived = gained rank })))
      (packed_sent c time runs does owner later rank (peers rank))
      ∙ ap (λ bs. migrating_with c time owner later rank (record (held_after c time owner later rank) { blocks = bs }))
      (ap (λ xs. assembled (map (proxy_of c time owner later) (own_new c time owner later rank)) xs) (hand_is rank)
      ∙ assembled_are c time runs does owner later (map at (came rank (rank ∷ peers rank))) (own_new c time owner later rank)
      (λ q has. (own_was_new c time runs does owner later rank q has).0) (hand_has rank member))
