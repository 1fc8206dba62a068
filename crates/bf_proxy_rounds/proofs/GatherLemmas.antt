-- Proxies gather outer links one after another, and those of a round can be gathered.
use Rattle.std.proofs.Common.{◌≡◌, ℕ, zero, suc, ◌+◌, ◌<◌, ◌≤◌, Bool, true, false, cond, ◌==◌, List, [], ◌∷◌, ◌++◌, map, filter, flat_map, length, take, drop, get_or, All, Contains, refl, sym, ap, ◌∙◌, subst, arith}
use Rattle.std.specs.Prelude.{AllPairs}
use Rattle.std.specs.List.{fold}
use Rattle.std.proofs.Math.ListN.{set}
use Rattle.std.proofs.lemmas.Bool.{cond-true, cond-false, false_from_ne_true}
use Rattle.std.proofs.lemmas.List.{get_or-map, length-map, map-append}
use Rattle.std.proofs.lemmas.List.Elements.{All-map}
use Rattle.std.proofs.lemmas.List.Kept.{AllPairs-filter}
use Rattle.std.proofs.lemmas.List.Sums.{fold-append}
use Rattle.bf_lemmas.proofs.Lists.{All-from_Contains, map_twice}
use Rattle.bf_id.specs.declared.shape.Shape.{Shape}
use Rattle.bf_id.specs.Id.{BlockId, id_eq, parent_of}
use Rattle.bf_id.specs.Walk.{IsBefore}
use Rattle.bf_id.proofs.Boxes.{id_eq_is_equal}
use Rattle.bf_case.specs.Regrid.{regridded_ids, target_of}
use Rattle.bf_case.specs.Wishes.{Wishes}
use Rattle.bf_case.proofs.SampleLemmas.{not_before_itself}
use Rattle.bf_mark_rounds.specs.Neighbors.{is_own}
use Rattle.bf_proxy.specs.Homes.{home_of, made_at, CanRegrid}
use Rattle.bf_proxy.specs.Joined.{joined, AgreeOnOwners}
use Rattle.bf_proxy.specs.Proxies.{gathered}
use Rattle.bf_proxy.specs.declared.proxy.Proxy.{Proxy}
use Rattle.bf_proxy.proofs.LawLemmas.{new_rise, rank_makes}
use Rattle.bf_proxy_rounds.specs.Calls.{CanGather, IsGatherable, ProxiesRise}
use Rattle.bf_proxy_rounds.specs.Making.{made_proxies, outer_at}
use Rattle.bf_proxy_rounds.specs.Plays.{all_gathered, gathered_at, Outer}
use Rattle.bf_proxy_rounds.proofs.CallLemmas.{list_next}
use Rattle.bf_proxy_rounds.proofs.CompleteLemmas.{gathers_agree, gathers_few}
use Rattle.bf_proxy_rounds.proofs.ToldLemmas.{map_flat}

-- ---- ids stay

same_id : (b : Bool) (outer : Outer) (proxy : Proxy) → (cond b (gathered outer.1 proxy) proxy).id ≡ proxy.id
same_id true outer proxy = refl
same_id false outer proxy = refl

pub gathered_id : (outers : List Outer) (proxy : Proxy) → (all_gathered outers proxy).id ≡ proxy.id
gathered_id [] proxy = refl
gathered_id (outer ∷ outers) proxy = gathered_id outers (gathered_at proxy outer) ∙ same_id (id_eq outer.0 proxy.id) outer proxy

-- so that proxies rise that have gathered
pub gathered_rise : (outers : List Outer) (proxies : List Proxy) → ProxiesRise proxies → ProxiesRise (map (all_gathered outers) proxies)
gathered_rise outers proxies rising i j d before within =
    let long : length (map (all_gathered outers) proxies) ≡ length proxies = length-map proxies (all_gathered outers) in
    let in_j : j < length proxies = omega arith in
    let at : (k : ℕ) → k < length proxies → (get_or (map (all_gathered outers) proxies) k d).id ≡ (get_or proxies k d).id =
    λ k below. ap (λ (p : Proxy). p.id) (get_or-map (all_gathered outers) proxies k d d below) ∙ gathered_id outers (get_or proxies k d) in
    subst (λ q. IsBefore (get_or (map (all_gathered outers) proxies) i d).id q) (sym (at j in_j))
    (subst (λ q. IsBefore q (get_or proxies j d).id) (sym (at i (omega arith))) (rising i j d before in_j))

-- ---- one gathers

-- where none has the id
pub none_gathered : (proxies : List Proxy) (outer : Outer) → ((k : ℕ) (d : Proxy) → k < length proxies → (get_or proxies k d).id ≡ outer.0 → ⊥)
    → proxies ≡ map (λ (proxy : Proxy). gathered_at proxy outer) proxies
none_gathered [] outer none = refl
none_gathered (p ∷ proxies) outer none =
    let other : id_eq outer.0 p.id ≡ false = false_from_ne_true (id_eq outer.0 p.id) (λ same. none 0 p (omega arith) (sym ((id_eq_is_equal outer.0 p.id).0 same))) in
    ap (λ q. q ∷ proxies) (sym (cond-false (id_eq outer.0 p.id) (gathered outer.1 p) p other))
    ∙ ap (λ rest. gathered_at p outer ∷ rest) (none_gathered proxies outer (λ k d within. none (suc k) d (omega arith)))

-- where one has it
pub one_gathered : (proxies : List Proxy) (outer : Outer) (k : ℕ) (d new : Proxy) → ProxiesRise proxies → k < length proxies → (get_or proxies k d).id ≡ outer.0
    → new ≡ gathered outer.1 (get_or proxies k d) → set proxies k new ≡ map (λ (proxy : Proxy). gathered_at proxy outer) proxies
one_gathered [] outer k d new rising within found is = absurd (omega arith)
one_gathered (p ∷ proxies) outer zero d new rising within found is =
    let its : id_eq outer.0 p.id ≡ true = (id_eq_is_equal outer.0 p.id).1 (sym found) in
    ap (λ q. q ∷ proxies) (is ∙ sym (cond-true (id_eq outer.0 p.id) (gathered outer.1 p) p its))
    ∙ ap (λ rest. gathered_at p outer ∷ rest)
    (none_gathered proxies outer (λ k e below same.
    let before : IsBefore p.id (get_or proxies k e).id = rising 0 (suc k) e (omega arith) (omega arith) in
    not_before_itself p.id (subst (IsBefore p.id) (same ∙ sym found) before)))
one_gathered (p ∷ proxies) outer (suc k) d new rising within found is =
    let before : IsBefore p.id (get_or proxies k d).id = rising 0 (suc k) d (omega arith) (omega arith) in
    let other : id_eq outer.0 p.id ≡ false =
    false_from_ne_true (id_eq outer.0 p.id) (λ same. not_before_itself p.id (subst (IsBefore p.id) (found ∙ (id_eq_is_equal outer.0 p.id).0 same) before)) in
    ap (λ q. q ∷ set proxies k new) (sym (cond-false (id_eq outer.0 p.id) (gathered outer.1 p) p other))
    ∙ ap (λ rest. gathered_at p outer ∷ rest) (one_gathered proxies outer k d new (λ i j e low below. rising (suc i) (suc j) e (omega arith) (omega arith)) (omega arith) found is)

-- ---- several gather

pub split_at : {X : Type 0} (xs : List X) (k : ℕ) (x : X) → k < length xs → x ≡ get_or xs k x → xs ≡ take k xs ++ x ∷ drop (k + 1) xs
split_at [] k x below is = absurd (omega arith)
split_at (y ∷ xs) zero x below is = ap (λ z. z ∷ xs) (sym is)
split_at (y ∷ xs) (suc k) x below is =
    let up : suc k + 1 ≡ suc (k + 1) = omega arith in
    ap (λ rest. y ∷ rest) (split_at xs k x (omega arith) is) ∙ ap (λ n. y ∷ (take k xs ++ x ∷ drop n (y ∷ xs))) (sym up)

pub gathered_more : (outers : List Outer) (proxies : List Proxy) (k : ℕ) (outer : Outer) → k < length outers → outer ≡ get_or outers k outer
    → map (λ (proxy : Proxy). gathered_at proxy outer) (map (all_gathered (take k outers)) proxies) ≡ map (all_gathered (take (k + 1) outers)) proxies
gathered_more outers proxies k outer below is =
    map_twice (λ (proxy : Proxy). gathered_at proxy outer) (all_gathered (take k outers)) (all_gathered (take (k + 1) outers))
    (λ proxy. sym (ap (λ os. all_gathered os proxy) (list_next outers k outer below is) ∙ fold-append gathered_at proxy (take k outers) (outer ∷ []))) proxies

-- ---- those of a round can be gathered

-- what is mapped to a list that is split
record SplitOf {X Y : Type 0} (f : X → Y) (before : List Y) (y : Y) : Type 0 where
  first : List X
  here : X
  before_is : before ≡ map f first
  here_is : y ≡ f here

split_mapped : {X Y : Type 0} (f : X → Y) (xs : List X) (before later : List Y) (y : Y) → map f xs ≡ before ++ y ∷ later → SplitOf f before y
split_mapped f [] [] later y is = absurd (let wrong : [] ≡ y ∷ later = is in cc)
split_mapped f [] (z ∷ before) later y is = absurd (let wrong : [] ≡ z ∷ (before ++ y ∷ later) = is in cc)
split_mapped f (x ∷ xs) [] later y is = record { first = []; here = x; before_is = refl; here_is = cc }
split_mapped f (x ∷ xs) (z ∷ before) later y is =
    let rest : map f xs ≡ before ++ y ∷ later = cc in
    let first : z ≡ f x = cc in
    let of = split_mapped f xs before later y rest in
    record { first = x ∷ of.first; here = of.here; before_is = λ k. first k ∷ of.before_is k; here_is = of.here_is }

named_rise : (proxies : List Proxy) → AllPairs IsBefore (map (λ (proxy : Proxy). proxy.id) proxies) → ProxiesRise proxies
named_rise proxies rising i j d before within =
    let name : Proxy → BlockId = λ (proxy : Proxy). proxy.id in
    let long : length (map name proxies) ≡ length proxies = length-map proxies name in
    let at : (k : ℕ) → k < length proxies → get_or (map name proxies) k d.id ≡ (get_or proxies k d).id = λ k below. get_or-map name proxies k d d.id below in
    subst (λ q. IsBefore (get_or proxies i d).id q) (at j within)
    (subst (λ q. IsBefore q (get_or (map name proxies) j d.id)) (at i (omega arith)) (rising i j d.id before (omega arith)))

module _ (shape : Shape) (levels : ℕ) (ids : List BlockId) (w : Wishes) (can : CanRegrid shape levels ids w) (owner : BlockId → ℕ) (rank : ℕ) where
  abbrev made : List Proxy
  made = made_proxies shape ids w owner rank

  abbrev outers_of : List BlockId → List Outer
  outers_of leaves = map (outer_at shape ids w owner) leaves

  made_rise : ProxiesRise made
  made_rise =
      named_rise made
      (subst (AllPairs IsBefore)
      (sym (map_flat (λ (proxy : Proxy). proxy.id) (made_at shape ids (target_of shape ids w) owner) (filter (is_own owner rank) ids) ∙ rank_makes shape levels ids w owner rank can))
      (AllPairs-filter IsBefore (λ q. home_of ids owner q == rank) (regridded_ids shape ids w) (new_rise shape levels ids w can)))

  -- first of some leaves and then of others
  in_turn : (before next : List BlockId) (proxy : Proxy) → all_gathered (outers_of next) (all_gathered (outers_of before) proxy) ≡ all_gathered (outers_of (before ++ next)) proxy
  in_turn before next proxy =
      sym (ap (λ os. all_gathered os proxy) (map-append (outer_at shape ids w owner) before next) ∙ fold-append gathered_at proxy (outers_of before) (outers_of next))

  module _ (before next : List BlockId) (i : BlockId) where
    abbrev so_far : Proxy → Proxy
    so_far proxy = all_gathered (outers_of next) (all_gathered (outers_of before) proxy)

    octet : (proxy : Proxy) → parent_of i ≡ (so_far proxy).id → parent_of i ≡ proxy.id
    octet proxy is = is ∙ gathered_id (outers_of next) (all_gathered (outers_of before) proxy) ∙ gathered_id (outers_of before) proxy

    gatherable : IsGatherable (outer_at shape ids w owner i) (map (all_gathered (outers_of next)) (map (all_gathered (outers_of before)) made))
    gatherable = record {
      few = All-map (λ (proxy : Proxy). parent_of i ≡ proxy.id → length (joined (outer_at shape ids w owner i).1 proxy.links) ≤ 56) (all_gathered (outers_of next)) (map (all_gathered (outers_of before)) made)
          (All-map (λ (proxy : Proxy). parent_of i ≡ (all_gathered (outers_of next) proxy).id → length (joined (outer_at shape ids w owner i).1 (all_gathered (outers_of next) proxy).links) ≤ 56)
          (all_gathered (outers_of before)) made
          (All-from_Contains (λ (proxy : Proxy). parent_of i ≡ (so_far proxy).id → length (joined (outer_at shape ids w owner i).1 (so_far proxy).links) ≤ 56) made
          (λ proxy has is.
          subst (λ (p : Proxy). length (joined (outer_at shape ids w owner i).1 p.links) ≤ 56) (sym (in_turn before next proxy))
          (gathers_few shape levels ids w can owner rank proxy has (before ++ next) i (octet proxy is)))));
      agree = All-map (λ (proxy : Proxy). parent_of i ≡ proxy.id → AgreeOnOwners (outer_at shape ids w owner i).1 proxy.links) (all_gathered (outers_of next)) (map (all_gathered (outers_of before)) made)
          (All-map (λ (proxy : Proxy). parent_of i ≡ (all_gathered (outers_of next) proxy).id → AgreeOnOwners (outer_at shape ids w owner i).1 (all_gathered (outers_of next) proxy).links)
          (all_gathered (outers_of before)) made
          (All-from_Contains (λ (proxy : Proxy). parent_of i ≡ (so_far proxy).id → AgreeOnOwners (outer_at shape ids w owner i).1 (so_far proxy).links) made
          (λ proxy has is.
          subst (λ (p : Proxy). AgreeOnOwners (outer_at shape ids w owner i).1 p.links) (sym (in_turn before next proxy))
          (gathers_agree shape levels ids w can owner rank proxy has (before ++ next) i (octet proxy is)))));
    }

  pub can_gather : (before leaves : List BlockId) → CanGather (outers_of leaves) (map (all_gathered (outers_of before)) made)
  can_gather before leaves = record {
    rising = gathered_rise (outers_of before) made made_rise;
    each = λ first later outer is.
        let of = split_mapped (outer_at shape ids w owner) leaves first later outer is in
        subst (λ (o : Outer). IsGatherable o (map (all_gathered first) (map (all_gathered (outers_of before)) made))) (sym of.here_is)
        (subst (λ (os : List Outer). IsGatherable (outer_at shape ids w owner of.here) (map (all_gathered os) (map (all_gathered (outers_of before)) made))) (sym of.before_is)
        (gatherable before of.first of.here));
  }
