-- What messages hold, and that the calls of the round may be made.
use Rattle.std.proofs.Common.{◌≡◌, ℕ, [], true, ◌==◌, List, map, filter, Contains, refl, sym, ap, ◌∙◌, subst, IsTrue}
use Rattle.std.specs.Prelude.{AllPairs}
use Rattle.std.proofs.lemmas.List.{map-id}
use Rattle.std.proofs.lemmas.List.Elements.{All-map}
use Rattle.std.proofs.lemmas.List.Kept.{AllPairs-filter}
use Rattle.std.proofs.lemmas.Simd.{map-map}
use Rattle.bf_id.specs.Id.{BlockId}
use Rattle.bf_id.specs.Walk.{IsBefore}
use Rattle.bf_id.proofs.Tilings.{Contains-flat_map, Contains-flat_map_cases}
use Rattle.bf_case.specs.declared.case.Case.{Case}
use Rattle.bf_case.specs.declared.target.Target.{Target}
use Rattle.bf_case.specs.Model.{regrids}
use Rattle.bf_case.proofs.ListLemmas.{Contains-map, Contains-map_cases}
use Rattle.bf_case.proofs.TestLemmas.{Contains-filter, Contains-filter_cases}
use Rattle.bf_block.specs.declared.cargo.Cargo.{Cargo}
use Rattle.bf_block.specs.Runs.{CanRun}
use Rattle.bf_block.specs.Block.{BlockValue, before_regrid}
use Rattle.bf_marks.proofs.ChosenLemmas.{among_has}
use Rattle.bf_migrate.specs.Giving.{Gift, all_sent, gifts_of, sent_to, StandBefore}
use Rattle.bf_migrate.specs.Targets.{AreTargets, ids_in, proxies_of}
use Rattle.bf_mark_rounds.specs.Neighbors.{is_own}
use Rattle.bf_proxy.specs.Homes.{go_into, goes_into}
use Rattle.bf_migrate_rounds.specs.Holdings.{Holdings, blocks_in}
use Rattle.bf_migrate_rounds.specs.Plays.{packed}
use Rattle.bf_migrate_rounds.specs.Shares.{block_before, cargo_told, given_by, held_before, model_block, new_ids, old_ids, own_old, plan_at, target_at, with_rank, IsCargoFor}
use Rattle.bf_migrate_rounds.proofs.BlockLemmas.{news_are, regridded_model}
use Rattle.bf_migrate_rounds.proofs.ListLemmas.{rise_mapped}
use Rattle.bf_migrate_rounds.proofs.PeerLemmas.{flow_target, goes_in, is_new, is_target}
use Rattle.bf_migrate_rounds.proofs.PieceLemmas.{news_rise}
use Rattle.bf_migrate_rounds.proofs.SendLemmas.{blocks_are, gift_ids, left_none, packed_sent}

module _ (c : Case) (time : ℕ) (runs : CanRun c) (does : IsTrue (regrids c time)) (owner later : BlockId → ℕ) where
  abbrev own : ℕ → List BlockId
  own = own_old c time owner later

  abbrev old : BlockId → BlockValue
  old = model_block c (before_regrid time)

  abbrev target : BlockId → Target
  target = target_at c time

  abbrev news : List BlockId
  news = new_ids c time

  abbrev targets : ℕ → List BlockId
  targets rank = filter (is_target c time runs does owner later rank) news

  abbrev gives : BlockValue → List (ℕ × Cargo)
  gives b = map (sent_to later) (gifts_of b)

  -- a gift goes into a proxy of its leaf, and to each of these goes one
  gift_goes : (i : BlockId) (gift : Gift) → Contains (gifts_of (old i)) gift → Contains (goes_into (target i) i) gift.0
  gift_goes i gift of = subst (λ qs. Contains qs gift.0) (gift_ids (target i) (old i)) (Contains-map (λ (g : Gift). g.0) (gifts_of (old i)) gift of)

  -- ---- messages

  pub told_there : (from to : ℕ) (x : Cargo) → Contains (cargo_told c time owner later from to) x → IsCargoFor c time owner later from to x
  told_there from to x has =
      let sent = Contains-map_cases (λ (y : ℕ × Cargo). y.1) (filter (λ (y : ℕ × Cargo). y.0 == to) (given_by c time owner later from)) x has in
      let its = Contains-filter_cases (λ (y : ℕ × Cargo). y.0 == to) (given_by c time owner later from) sent.0 sent.1 in
      let block = Contains-flat_map_cases gives (map old (own from)) sent.0 its.0 in
      let i = Contains-map_cases old (own from) block.0 block.1 in
      let gift = Contains-map_cases (sent_to later) (gifts_of block.0) sent.0 block.2 in
      let of : Contains (gifts_of (old i.0)) gift.0 = subst (λ (b : BlockValue). Contains (gifts_of b) gift.0) i.2 gift.1 in
      let leaf = Contains-filter_cases (is_own owner from) (old_ids c time) i.0 i.1 in
      let goes = goes_in c time runs does owner later i.0 (gift.0).0 leaf.0 (gift_goes i.0 gift.0 of) in
      record {
        leaf = i.0;
        owned = i.1;
        gift = gift.0;
        given = of;
        proxy = Contains-filter (is_own later to) news (gift.0).0 (is_new c time runs does owner later (gift.0).0 goes.new)
            (subst (λ (y : ℕ × Cargo). (y.0 == to) ≡ true) gift.2 its.1);
        is = sent.2 ∙ ap (λ (y : ℕ × Cargo). y.1) gift.2;
      }

  pub told_back : (from to : ℕ) (x : Cargo) → IsCargoFor c time owner later from to x → Contains (cargo_told c time owner later from to) x
  told_back from to x is =
      let y : ℕ × Cargo = sent_to later is.gift in
      subst (Contains (cargo_told c time owner later from to)) (sym is.is)
      (Contains-map (λ (y : ℕ × Cargo). y.1) (filter (λ (y : ℕ × Cargo). y.0 == to) (given_by c time owner later from)) y
      (Contains-filter (λ (y : ℕ × Cargo). y.0 == to) (given_by c time owner later from) y
      (Contains-flat_map gives (map old (own from)) (old is.leaf) y (Contains-map old (own from) is.leaf is.owned)
      (Contains-map (sent_to later) (gifts_of (old is.leaf)) is.gift is.given))
      (Contains-filter_cases (is_own later to) news is.gift.0 is.proxy).1))

  -- ---- what is asked of blocks that become cargo

  pub old_stand : (rank : ℕ) → StandBefore c time (map old (own rank))
  old_stand rank = record {
    regrids = does;
    cases = All-map (λ (b : BlockValue). b.case ≡ c) old (own rank) (λ k d below. refl);
    points = All-map (λ (b : BlockValue). b.point ≡ before_regrid time) old (own rank) (λ k d below. refl);
  }

  pub stand_before : (rank : ℕ) → StandBefore c time (blocks_in (map (block_before c time owner later) (own rank)))
  stand_before rank = subst (StandBefore c time) (sym (blocks_are c time runs does owner later rank)) (old_stand rank)

  -- they become all that they give, each to the rank of its proxy
  pub packed_cargo : (rank : ℕ) → (packed (plan_at c time owner later rank) (held_before c time owner later rank)).cargo
      ≡ all_sent later (blocks_in (held_before c time owner later rank).blocks)
  packed_cargo rank =
      ap (λ (h : Holdings). h.cargo) (packed_sent c time runs does owner later rank [])
      ∙ left_none c time runs does owner later rank
      ∙ ap (all_sent later) (sym (blocks_are c time runs does owner later rank))

  abbrev names : BlockValue → List BlockId
  names b = map (λ (gift : Gift). gift.0) (gifts_of b)

  pub are_targets : (rank : ℕ) → AreTargets later (blocks_in (map (block_before c time owner later) (own rank))) (plan_at c time owner later rank).targets
  are_targets rank =
      subst (λ (bs : List BlockValue). AreTargets later bs (plan_at c time owner later rank).targets) (sym (blocks_are c time runs does owner later rank))
      (record {
        rising = rise_mapped (λ (t : BlockId × ℕ). t.0) (with_rank c time owner later) (λ q. refl) (targets rank)
            (AllPairs-filter IsBefore (is_target c time runs does owner later rank) news
            (subst (AllPairs IsBefore) (sym (news_are c time runs does)) (news_rise c.roots c.levels (old_ids c time) target (regridded_model c time runs does))));
        ranked = All-map (λ (t : BlockId × ℕ). t.1 ≡ later t.0) (with_rank c time owner later) (targets rank) (λ k d below. refl);
        exact = λ q. (there q, back q);
      })
    where
      ids_are : ids_in (map (with_rank c time owner later) (targets rank)) ≡ targets rank
      ids_are = map-map (λ (t : BlockId × ℕ). t.0) (with_rank c time owner later) (targets rank) ∙ map-id (targets rank)

      there : (q : BlockId) → Contains (ids_in (map (with_rank c time owner later) (targets rank))) q → Contains (proxies_of (map old (own rank))) q
      there q has =
          let its = Contains-filter_cases (is_target c time runs does owner later rank) news q (subst (λ qs. Contains qs q) ids_are has) in
          let i = Contains-flat_map_cases (λ i. goes_into (target i) i) (own rank) q (among_has (go_into target (own rank)) q its.1) in
          Contains-flat_map names (map old (own rank)) (old i.0) q (Contains-map old (own rank) i.0 i.1)
          (subst (λ qs. Contains qs q) (sym (gift_ids (target i.0) (old i.0))) i.2)

      back : (q : BlockId) → Contains (proxies_of (map old (own rank))) q → Contains (ids_in (map (with_rank c time owner later) (targets rank))) q
      back q has =
          let block = Contains-flat_map_cases names (map old (own rank)) q has in
          let i = Contains-map_cases old (own rank) block.0 block.1 in
          let of : Contains (names (old i.0)) q = subst (λ (b : BlockValue). Contains (names b) q) i.2 block.2 in
          subst (λ qs. Contains qs q) (sym ids_are)
          (flow_target c time runs does owner later rank i.0 q i.1 (subst (λ qs. Contains qs q) (gift_ids (target i.0) (old i.0)) of))
