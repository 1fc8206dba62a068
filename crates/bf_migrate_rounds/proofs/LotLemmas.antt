-- What goes into a proxy makes its block.
use Rattle.std.proofs.Common.{◌≡◌, ℕ, true, ◌==◌, List, [], ◌∷◌, ◌++◌, map, filter, flat_map, Contains, refl, sym, ap, ◌∙◌, subst, IsTrue}
use Rattle.std.specs.Prelude.{All, AllPairs, IsPermutation}
use Rattle.std.proofs.lemmas.List.{map-append}
use Rattle.std.proofs.lemmas.List.Elements.{All-head, All-tail}
use Rattle.std.proofs.lemmas.List.Concat.{flat_map_single}
use Rattle.std.proofs.lemmas.List.Kept.{AllPairs-filter}
use Rattle.std.proofs.lemmas.List.Sorted.{IsPermutation-map}
use Rattle.std.proofs.lemmas.Simd.{map-map}
use Rattle.bf_id.specs.Id.{BlockId, children_of}
use Rattle.bf_id.specs.Walk.{IsBefore}
use Rattle.bf_id.proofs.Tilings.{Contains-head, Contains-tail, Contains-one, Contains-one_cases, Contains-child_cases, Contains-flat_map, Contains-flat_map_cases}
use Rattle.bf_case.specs.declared.case.Case.{Case}
use Rattle.bf_case.specs.declared.target.Target.{Target}
use Rattle.bf_case.specs.declared.target.Target.TheVariants.{Keep, Refine, Merge}
use Rattle.bf_case.specs.Model.{regrids}
use Rattle.bf_case.specs.Regrid.{heirs_by}
use Rattle.bf_case.proofs.HeirLemmas.{heirs_in, IsRegridded}
use Rattle.bf_case.proofs.TestLemmas.{Contains-filter, Contains-filter_cases}
use Rattle.std.proofs.lemmas.Bool.{eqb-true, eq-eqb}
use Rattle.bf_block.specs.declared.cargo.Cargo.{Cargo}
use Rattle.bf_block.specs.declared.cargo.Cargo.TheVariants.{Whole, Piece}
use Rattle.bf_block.specs.Runs.{CanRun}
use Rattle.bf_block.specs.Block.{BlockValue, IsModels}
use Rattle.bf_block.specs.Eighth.{EighthValue, eighth_of}
use Rattle.bf_migrate.specs.Lots.{AreBlocksOf, AreLots, IsLotOf, Lot, Makes, Octet, Ready, cargo_id, cargo_in}
use Rattle.bf_mark_rounds.specs.Neighbors.{is_own}
use Rattle.bf_mark_rounds.proofs.HeardLemmas.{rising_same}
use Rattle.bf_proxy.specs.Homes.{origin_of}
use Rattle.bf_proxy.specs.declared.proxy.Proxy.{Proxy}
use Rattle.bf_msg.specs.declared.linked_block.LinkedBlock.{LinkedBlock}
use Rattle.bf_migrate_rounds.specs.Calls.{AreLotsFrom, IsLotFrom, MakesFrom}
use Rattle.bf_migrate_rounds.specs.Plays.{assembled, cargo_of, eighths, made_of, merged_of, wholes, with_links}
use Rattle.bf_migrate_rounds.specs.Shares.{block_after, new_ids, old_ids, own_new, proxy_of, target_at}
use Rattle.bf_migrate_rounds.proofs.BlockLemmas.{block_is, goal, goes_to, load, load_child, load_id, load_kept, load_merged, merged_is, new, news_are, octet_is, old, parts, pieces, regridded_model}
use Rattle.bf_migrate_rounds.proofs.ListLemmas.{flat_map_where, map_where, rise_mapped}
use Rattle.bf_migrate_rounds.proofs.PieceLemmas.{From, Goes, from, goes_of, into, news_rise, octet_of, part_goes, parts_by, parts_of, parts_rise, pieces_rise}

eighths_of : (f : BlockId → EighthValue) (ps : List BlockId) → eighths (map (λ p. Piece (f p)) ps) ≡ map f ps
eighths_of f [] = refl
eighths_of f (p ∷ ps) = ap (λ es. f p ∷ es) (eighths_of f ps)

-- whatever the origins of the proxies
module _ (c : Case) (time : ℕ) where
  lots_are : (proxies : List Proxy) (cargo : List Cargo) → AreLotsFrom c time proxies cargo → AreLots c time proxies cargo
  lots_are [] cargo none = none
  lots_are (proxy ∷ proxies) cargo (lot, (rest, (front, (is, more)))) = (lot, (rest, (front, (is.0, lots_are proxies rest more))))

  pub makes_of : (proxies : List Proxy) (cargo : List Cargo) → MakesFrom c time proxies cargo → Makes c time proxies cargo
  makes_of proxies cargo from = record { ordered = from.ordered; same = from.same; rising = from.rising; lots = lots_are proxies from.ordered from.lots }

module _ (c : Case) (time : ℕ) (runs : CanRun c) (does : IsTrue (regrids c time)) (owner later : BlockId → ℕ) where
  abbrev ids : List BlockId
  ids = old_ids c time

  abbrev news : List BlockId
  news = new_ids c time

  abbrev target : BlockId → Target
  target = target_at c time

  abbrev is : IsRegridded c.roots c.levels ids target
  is = regridded_model c time runs does

  abbrev origin : BlockId → BlockId
  origin = origin_of ids

  abbrev at : BlockId → Cargo
  at = load c time runs does

  abbrev now : BlockId → BlockValue
  now = new c time runs does

  abbrev before : BlockId → BlockValue
  before = old c time runs does

  abbrev pub parts_for : BlockId → List BlockId
  parts_for = parts_of c.roots c.levels ids target is

  abbrev destination : BlockId → ℕ
  destination = goes_to c time runs does owner later

  abbrev own_later : ℕ → List BlockId
  own_later = own_new c time owner later

  was_new : (q : BlockId) → Contains news q → Contains (heirs_in target ids) q
  was_new q has = subst (λ is. Contains is q) (news_are c time runs does) has

  pub own_was_new : (rank : ℕ) (q : BlockId) → Contains (own_later rank) q → Contains news q × (later q ≡ rank)
  own_was_new rank q has = let its = Contains-filter_cases (is_own later rank) news q has in (its.0, eqb-true (later q) rank its.1)

  -- the pieces for a rank are the parts of its proxies, in the proxies' order
  pub pieces_are_parts : (rank : ℕ) → filter (λ p. destination p == rank) (pieces c time runs does) ≡ flat_map parts_for (own_later rank)
  pieces_are_parts rank =
      rising_same (filter (λ p. destination p == rank) (pieces c time runs does)) (flat_map parts_for (own_later rank))
      (AllPairs-filter IsBefore (λ p. destination p == rank) (pieces c time runs does) (pieces_rise c.roots c.levels ids target is))
      (parts_rise c.roots c.levels ids target is (own_later rank)
      (AllPairs-filter IsBefore (is_own later rank) news (subst (AllPairs IsBefore) (sym (news_are c time runs does)) (news_rise c.roots c.levels ids target is)))
      (λ q has. was_new q (own_was_new rank q has).0))
      there back
    where
      there : (p : BlockId) → Contains (filter (λ p. destination p == rank) (pieces c time runs does)) p → Contains (flat_map parts_for (own_later rank)) p
      there p has =
          let its = Contains-filter_cases (λ p. destination p == rank) (pieces c time runs does) p has in
          let piece : Goes c.roots c.levels ids target is p = goes_of c.roots c.levels ids target is p its.0 in
          let q : BlockId = goal c time runs does p in
          let new' : Contains news q = subst (λ is. Contains is q) (sym (news_are c time runs does))
          (into c.roots c.levels ids target is (origin p) q piece.leaf piece.goes).new in
          Contains-flat_map parts_for (own_later rank) q p (Contains-filter (is_own later rank) news q new' its.1) piece.part

      back : (p : BlockId) → Contains (flat_map parts_for (own_later rank)) p → Contains (filter (λ p. destination p == rank) (pieces c time runs does)) p
      back p has =
          let q = Contains-flat_map_cases parts_for (own_later rank) p has in
          let its = own_was_new rank q.0 q.1 in
          let goes = part_goes c.roots c.levels ids target is q.0 p (was_new q.0 its.0) q.2 in
          Contains-filter (λ p. destination p == rank) (pieces c time runs does) p goes.0 (eq-eqb (destination p) rank (ap later goes.1 ∙ its.1))

  -- a part of a rank's proxy is a piece that goes to it
  pub part_is_for : (rank : ℕ) (q p : BlockId) → Contains (own_later rank) q → Contains (parts_for q) p
      → Contains (pieces c time runs does) p × ((destination p == rank) ≡ true)
  part_is_for rank q p has part =
      let its = own_was_new rank q has in
      let goes = part_goes c.roots c.levels ids target is q p (was_new q its.0) part in
      (goes.0, eq-eqb (destination p) rank (ap later goes.1 ∙ its.1))

  -- ---- the lot of a proxy

  heir_of : (q : BlockId) → Contains news q → (t : Target) → target (origin q) ≡ t → Contains ids (origin q) × Contains (heirs_by t (origin q)) q
  heir_of q has t e =
      let came : From c.roots c.levels ids target is q = from c.roots c.levels ids target is q (was_new q has) in
      (came.leaf, subst (λ u. Contains (heirs_by u (origin q)) q) e came.heir)

  kept_at : (q : BlockId) → Contains news q → target (origin q) ≡ Keep → at q ≡ Whole (now q)
  kept_at q has e =
      let heir = heir_of q has Keep e in
      let same : q ≡ origin q = Contains-one_cases (origin q) q heir.1 in
      load_kept c time runs does q (subst (Contains ids) (sym same) heir.0) (ap target same ∙ e)

  child_at : (q : BlockId) → Contains news q → target (origin q) ≡ Refine → at q ≡ Whole (now q)
  child_at q has e =
      let heir = heir_of q has Refine e in
      let o = Contains-child_cases (origin q) q heir.1 in
      subst (λ r. at r ≡ Whole (now r)) (sym o.2) (load_child c time runs does (origin q) o.0 heir.0 e o.1)

  eighths_at : (q : BlockId) → Contains news q → target (origin q) ≡ Merge → map at (children_of q) ≡ map (λ i. Piece (eighth_of (before i))) (children_of q)
  eighths_at q has e =
      let octet = (octet_of c.roots c.levels ids target is q (was_new q has) e).0 in
      map_where at (λ i. Piece (eighth_of (before i))) (children_of q) (λ p child.
      let o = Contains-child_cases q p child in
      load_merged c time runs does p (subst (Contains ids) (sym o.2) (octet.leaves o.0 o.1)) (ap target o.2 ∙ octet.merge o.0 o.1))

  lot_by : Target → BlockId → Lot
  lot_by Keep q = Ready (now q)
  lot_by Refine q = Ready (now q)
  lot_by Merge q = Octet (parts c time runs does q)

  lot_goes : (t : Target) (q : BlockId) → IsLotOf c time q (lot_by t q)
  unfolding lot_by
  lot_goes Keep q = record { case = refl; point = refl; id = refl }
  lot_goes Refine q = record { case = refl; point = refl; id = refl }
  lot_goes Merge q = octet_is c time runs does q

  lot_is : (q : BlockId) → Contains news q → (t : Target) → target (origin q) ≡ t → map at (parts_by t q) ≡ cargo_in (lot_by t q)
  unfolding lot_by
  lot_is q has Keep e = ap (λ x. x ∷ []) (kept_at q has e)
  lot_is q has Refine e = ap (λ x. x ∷ []) (child_at q has e)
  lot_is q has Merge e = eighths_at q has e ∙ sym (map-map Piece (λ i. eighth_of (before i)) (children_of q))

  lot_from : (t : Target) (q : BlockId) → IsLotFrom t (lot_by t q)
  unfolding lot_by
  lot_from Keep q = λ e. cc
  lot_from Refine q = λ e. cc
  lot_from Merge q = refl

  lots_from : (qs : List BlockId) → ((q : BlockId) → Contains qs q → Contains news q)
      → AreLotsFrom c time (map (proxy_of c time owner later) qs) (map at (flat_map parts_for qs))
  lots_from [] within = refl
  lots_from (q ∷ qs) within =
      let t : Target = target (origin q) in
      let rest : List Cargo = map at (flat_map parts_for qs) in (
        lot_by t q,
        (
          rest,
          (
            map-append at (parts_for q) (flat_map parts_for qs) ∙ ap (λ xs. xs ++ rest) (lot_is q (within q (Contains-head q qs)) t refl),
            ((lot_goes t q, lot_from t q), lots_from qs (λ r has. within r (Contains-tail q qs r has))),
          ),
        ),
      )

  -- cargo that is the pieces for a rank, in any order, makes its proxies
  pub pieces_from : (rank : ℕ) (ps : List BlockId) → IsPermutation ps (filter (λ p. destination p == rank) (pieces c time runs does))
      → MakesFrom c time (map (proxy_of c time owner later) (own_later rank)) (map at ps)
  pieces_from rank ps same =
      let ordered : List BlockId = flat_map parts_for (own_later rank) in
      record {
        ordered = map at ordered;
        same = IsPermutation-map at ps ordered (subst (IsPermutation ps) (pieces_are_parts rank) same);
        rising = rise_mapped cargo_id at (load_id c time runs does) ordered
            (subst (AllPairs IsBefore) (pieces_are_parts rank)
            (AllPairs-filter IsBefore (λ p. destination p == rank) (pieces c time runs does) (pieces_rise c.roots c.levels ids target is)));
        lots = lots_from (own_later rank) (λ q has. (own_was_new rank q has).0);
      }

  pub pieces_make : (rank : ℕ) (ps : List BlockId) → IsPermutation ps (filter (λ p. destination p == rank) (pieces c time runs does))
      → Makes c time (map (proxy_of c time owner later) (own_later rank)) (map at ps)
  pieces_make rank ps same = makes_of c time (map (proxy_of c time owner later) (own_later rank)) (map at ps) (pieces_from rank ps same)

  -- ---- the block of a proxy

  -- cargo that has each of some pieces once
  abbrev pub HasParts : List Cargo → BlockId → Type 0
  HasParts cargo q = (p : BlockId) → Contains (parts_for q) p → cargo_of cargo p ≡ at p ∷ []

  block_made : (q : BlockId) (cargo : List Cargo) → Contains news q → (t : Target) → target (origin q) ≡ t → HasParts cargo q → made_of t cargo q ≡ now q ∷ []
  block_made q cargo has t e parts_in = by t e (λ p part. parts_in p (subst (λ u. Contains (parts_by u q) p) (sym e) part))
    where
      by : (t : Target) → target (origin q) ≡ t → ((p : BlockId) → Contains (parts_by t q) p → cargo_of cargo p ≡ at p ∷ []) → made_of t cargo q ≡ now q ∷ []
      by Keep e own = ap wholes (own q (Contains-one q) ∙ ap (λ x. x ∷ []) (kept_at q has e))
      by Refine e own = ap wholes (own q (Contains-one q) ∙ ap (λ x. x ∷ []) (child_at q has e))
      by Merge e own =
          let octet = (octet_of c.roots c.levels ids target is q (was_new q has) e).0 in
          ap (λ xs. merged_of q (eighths xs))
          (flat_map_where (cargo_of cargo) (λ p. at p ∷ []) (children_of q) own ∙ flat_map_single at (children_of q) ∙ eighths_at q has e)
          ∙ ap (merged_of q) (eighths_of (λ i. eighth_of (before i)) (children_of q))
          ∙ ap (λ b. b ∷ []) (merged_is c time runs does q octet.leaves octet.merge)

  pub assembled_are : (cargo : List Cargo) (qs : List BlockId) → ((q : BlockId) → Contains qs q → Contains news q)
      → ((q : BlockId) → Contains qs q → HasParts cargo q)
      → assembled (map (proxy_of c time owner later) qs) cargo ≡ map (block_after c time owner later) qs
  assembled_are cargo [] within has = refl
  assembled_are cargo (q ∷ qs) within has =
      let proxy : Proxy = proxy_of c time owner later q in
      ap (λ bs. map (with_links proxy) bs ++ assembled (map (proxy_of c time owner later) qs) cargo)
      (block_made q cargo (within q (Contains-head q qs)) (target (origin q)) refl (has q (Contains-head q qs)))
      ∙ ap (λ (os : List LinkedBlock). block_after c time owner later q ∷ os)
      (assembled_are cargo qs (λ r in'. within r (Contains-tail q qs r in')) (λ r in'. has r (Contains-tail q qs r in')))

  -- blocks that real cargo makes are those that the play's does
  pub blocks_made : (qs : List BlockId) (blocks : List BlockValue) → AreBlocksOf c time (map (proxy_of c time owner later) qs) blocks
      → All IsModels blocks → blocks ≡ map now qs
  blocks_made [] blocks none models = none
  blocks_made (q ∷ qs) blocks (b, (rest, (first, (at', more)))) models =
      let both : All IsModels (b ∷ rest) = subst (All IsModels) first models in
      first ∙ ap (λ (x : BlockValue). x ∷ rest) (block_is c time q b at' (All-head IsModels b rest both))
      ∙ ap (λ (bs : List BlockValue). now q ∷ bs) (blocks_made qs rest more (All-tail IsModels b rest both))
