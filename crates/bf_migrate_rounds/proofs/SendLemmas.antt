-- Blocks become cargo, and a send takes out the cargo for its peer.
use Rattle.std.proofs.Common.{◌≡◌, ℕ, Bool, true, false, not, ◌&&◌, ◌||◌, ◌==◌, List, [], ◌∷◌, ◌++◌, map, filter, Contains, refl, sym, ap, ◌∙◌, subst, IsTrue, append-nil}
use Rattle.std.specs.List.{range_with_len}
use Rattle.std.specs.Option.{option_map_or}
use Rattle.std.proofs.lemmas.Bool.{eqb-true}
use Rattle.std.proofs.lemmas.List.Elements.{filter_agree}
use Rattle.std.proofs.lemmas.Simd.{map-map}
use Rattle.bf_lemmas.proofs.Lists.{filter_twice}
use Rattle.bf_lemmas.proofs.Tests.{eqb_swap}
use Rattle.bf_buddy.specs.Members.{is_member}
use Rattle.bf_id.specs.Id.{BlockId, id_eq}
use Rattle.bf_id.proofs.Boxes.{id_eq_is_equal}
use Rattle.bf_case.specs.declared.case.Case.{Case}
use Rattle.bf_case.specs.declared.target.Target.{Target}
use Rattle.bf_case.specs.declared.target.Target.TheVariants.{Keep, Refine, Merge}
use Rattle.bf_case.specs.Model.{regrids}
use Rattle.bf_case.proofs.ListLemmas.{Contains-map, Contains-map_cases, find_only}
use Rattle.bf_block.specs.declared.cargo.Cargo.{Cargo}
use Rattle.bf_block.specs.Runs.{CanRun}
use Rattle.bf_block.specs.Block.{BlockValue, before_regrid, child_block}
use Rattle.bf_migrate.specs.Giving.{Gift, all_sent, gifts_by, gifts_of, sent_to, whole}
use Rattle.bf_proxy.specs.Homes.{goes_into}
use Rattle.bf_msg.specs.declared.linked_block.LinkedBlock.{LinkedBlock}
use Rattle.bf_migrate_rounds.specs.Holdings.{Holdings, blocks_in, loads}
use Rattle.bf_migrate_rounds.specs.Plays.{cargo_for, cargo_without, migrate_play, packed, rank_in}
use Rattle.bf_migrate_rounds.specs.Shares.{block_before, cargo_told, given_by, held_sent, left_with, migrating_with, model_block, new_ids, own_old, plan_at, target_at, with_rank}
use Rattle.bf_migrate_rounds.proofs.ListLemmas.{flat_map_where, map_where, member_more}
use Rattle.bf_migrate_rounds.proofs.PeerLemmas.{flow_target, is_target}

-- a block gives to the proxies into which it goes
pub gift_ids : (t : Target) (b : BlockValue) → map (λ (gift : Gift). gift.0) (gifts_by t b) ≡ goes_into t b.id
gift_ids Keep b = refl
gift_ids Refine b =
    ap (map (λ (gift : Gift). gift.0)) (map-map whole (child_block b) (range_with_len 0 8))
    ∙ map-map (λ (gift : Gift). gift.0) (λ k. whole (child_block b k)) (range_with_len 0 8)
gift_ids Merge b = refl

sent_alike : (rank other : BlockId → ℕ) (blocks : List BlockValue)
    → ((b : BlockValue) → Contains blocks b → (gift : Gift) → Contains (gifts_of b) gift → rank gift.0 ≡ other gift.0)
    → all_sent rank blocks ≡ all_sent other blocks
sent_alike rank other blocks same =
    flat_map_where (λ b. map (sent_to rank) (gifts_of b)) (λ b. map (sent_to other) (gifts_of b)) blocks
    (λ b has. map_where (sent_to rank) (sent_to other) (gifts_of b) (λ gift of. ap (λ n. (n, gift.1)) (same b has gift of)))

module _ (c : Case) (time : ℕ) (runs : CanRun c) (does : IsTrue (regrids c time)) (owner later : BlockId → ℕ) where
  abbrev own : ℕ → List BlockId
  own = own_old c time owner later

  abbrev old : BlockId → BlockValue
  old = model_block c (before_regrid time)

  abbrev target : BlockId → Target
  target = target_at c time

  abbrev targets : ℕ → List BlockId
  targets rank = filter (is_target c time runs does owner later rank) (new_ids c time)

  abbrev pair : BlockId → BlockId × ℕ
  pair = with_rank c time owner later

  -- the targets tell the ranks of the proxies into which blocks go
  pub rank_told : (rank : ℕ) (q : BlockId) → Contains (targets rank) q → rank_in (plan_at c time owner later rank).targets q ≡ later q
  rank_told rank q has =
      ap (λ found. option_map_or (λ (t : BlockId × ℕ). t.1) found 0)
      (find_only (λ (t : BlockId × ℕ). id_eq t.0 q) (map pair (targets rank)) (pair q) (Contains-map pair (targets rank) q has) ((id_eq_is_equal q q).1 refl)
      (λ t has' passed.
      let r = Contains-map_cases pair (targets rank) t has' in
      r.2 ∙ ap pair ((id_eq_is_equal r.0 q).0 (subst (λ (x : BlockId × ℕ). id_eq x.0 q ≡ true) r.2 passed))))

  pub blocks_are : (rank : ℕ) → blocks_in (map (block_before c time owner later) (own rank)) ≡ map old (own rank)
  blocks_are rank = map-map (λ (o : LinkedBlock). o.block) (block_before c time owner later) (own rank)

  all_given : (rank : ℕ)
      → all_sent (rank_in (plan_at c time owner later rank).targets) (blocks_in (map (block_before c time owner later) (own rank)))
      ≡ given_by c time owner later rank
  all_given rank =
      ap (all_sent (rank_in (plan_at c time owner later rank).targets)) (blocks_are rank)
      ∙ sent_alike (rank_in (plan_at c time owner later rank).targets) later (map old (own rank)) (λ b has gift of.
      let i = Contains-map_cases old (own rank) b has in
      let of_leaf : Contains (gifts_of (old i.0)) gift = subst (λ (x : BlockValue). Contains (gifts_of x) gift) i.2 of in
      let goes : Contains (goes_into (target i.0) i.0) gift.0 =
      subst (λ qs. Contains qs gift.0) (gift_ids (target i.0) (old i.0)) (Contains-map (λ (g : Gift). g.0) (gifts_of (old i.0)) gift of_leaf) in
      rank_told rank gift.0 (flow_target c time runs does owner later rank i.0 gift.0 i.1 goes))

  abbrev pub boxed : (rank : ℕ) → (done : List ℕ) → Holdings
  boxed rank done = record { blocks = []; cargo = left_with c time owner later rank done; arrived = [] }

  all_pass : (xs : List (ℕ × Cargo)) → filter (λ x. true) xs ≡ xs
  all_pass [] = refl
  all_pass (x ∷ xs) = ap (λ ys. x ∷ ys) (all_pass xs)

  pub left_none : (rank : ℕ) → left_with c time owner later rank [] ≡ given_by c time owner later rank
  left_none rank = all_pass (given_by c time owner later rank)

  -- at any send, blocks that are there still become cargo
  pub packed_sent : (rank : ℕ) (done : List ℕ) → packed (plan_at c time owner later rank) (held_sent c time owner later rank done) ≡ boxed rank done
  packed_sent rank [] =
      ap (λ (xs : List (ℕ × Cargo)). record (boxed rank []) { cargo = xs }) (all_given rank ∙ sym (left_none rank))
  packed_sent rank (d ∷ done) =
      ap (λ (xs : List (ℕ × Cargo)). record (boxed rank (d ∷ done)) { cargo = xs }) (append-nil (left_with c time owner later rank (d ∷ done)))

  pub sent_is : (rank to : ℕ) (done : List ℕ) → boxed rank (done ++ to ∷ []) ≡ held_sent c time owner later rank (done ++ to ∷ [])
  sent_is rank to [] = refl
  sent_is rank to (d ∷ done) = refl

  pub left_more : (rank to : ℕ) (done : List ℕ) → cargo_without to (left_with c time owner later rank done) ≡ left_with c time owner later rank (done ++ to ∷ [])
  left_more rank to done =
      filter_twice (λ (x : ℕ × Cargo). not (x.0 == to)) (λ (x : ℕ × Cargo). not (is_member done x.0)) (given_by c time owner later rank)
      ∙ filter_agree (λ (x : ℕ × Cargo). not (is_member done x.0) && not (x.0 == to)) (λ (x : ℕ × Cargo). not (is_member (done ++ to ∷ []) x.0))
      (λ x. ap (λ b. not (is_member done x.0) && not b) (eqb_swap x.0 to) ∙ tests (is_member done x.0) (to == x.0) ∙ ap not (sym (member_more done to x.0)))
      (given_by c time owner later rank)
    where
      tests : (a b : Bool) → (not a && not b) ≡ not (a || b)
      tests true b = refl
      tests false b = refl

  pub for_peer : (rank to : ℕ) (done : List ℕ) → is_member done to ≡ false
      → cargo_for to (left_with c time owner later rank done) ≡ cargo_told c time owner later rank to
  for_peer rank to done fresh =
      ap loads
      (filter_twice (λ (x : ℕ × Cargo). x.0 == to) (λ (x : ℕ × Cargo). not (is_member done x.0)) (given_by c time owner later rank)
      ∙ filter_agree (λ (x : ℕ × Cargo). not (is_member done x.0) && x.0 == to) (λ (x : ℕ × Cargo). x.0 == to)
      (λ x. tests (is_member done x.0) (x.0 == to) (λ e. ap (is_member done) (eqb-true x.0 to e) ∙ fresh)) (given_by c time owner later rank))
    where
      tests : (a b : Bool) → (b ≡ true → a ≡ false) → (not a && b) ≡ b
      tests true true apart = let wrong : true ≡ false = apart refl in absurd (cc)
      tests true false apart = refl
      tests false b apart = refl

  pub out_is : (rank to : ℕ) (done : List ℕ) → is_member done to ≡ false
      → migrate_play.out (migrating_with c time owner later rank (held_sent c time owner later rank done)) to
      ≡ (migrating_with c time owner later rank (held_sent c time owner later rank (done ++ to ∷ [])), cargo_told c time owner later rank to)
  out_is rank to done fresh =
      ap (λ (h : Holdings). (migrating_with c time owner later rank (record h { cargo = cargo_without to h.cargo }), cargo_for to h.cargo)) (packed_sent rank done)
      ∙ (λ k. (migrating_with c time owner later rank (left k), for_peer rank to done fresh k))
    where
      left : record (boxed rank done) { cargo = cargo_without to (left_with c time owner later rank done) } ≡ held_sent c time owner later rank (done ++ to ∷ [])
      left = ap (λ (xs : List (ℕ × Cargo)). record (boxed rank done) { cargo = xs }) (left_more rank to done) ∙ sent_is rank to done
