-- Lists of leaves, each with what stands beside it, and links to leaves that were told in several lists.
use Rattle.std.proofs.Common.{◌≡◌, ℕ, Bool, true, false, cond, ◌||◌, List, [], ◌∷◌, ◌++◌, map, flat_map, Contains, refl, sym, ap, ◌∙◌}
use Rattle.std.specs.Prelude.{AllPairs, Some, None, option_map, find}
use Rattle.std.specs.List.{zip}
use Rattle.std.specs.BTreeSet.{insert_key}
use Rattle.std.specs.Ordering.{match_ordering}
use Rattle.std.specs.declared.cmp.Ordering.{Ordering}
use Rattle.std.specs.declared.cmp.Ordering.TheVariants.{Less, Equal, Greater}
use Rattle.std.proofs.Math.Bool.{or-false}
use Rattle.std.proofs.lemmas.List.{map-append}
use Rattle.bf_id.specs.Id.{BlockId, id_cmp, id_eq}
use Rattle.bf_id.specs.Walk.{IsBefore}
use Rattle.bf_id.proofs.Boxes.{id_eq_is_equal}
use Rattle.bf_id.proofs.Rising.{AllPairs-nil}
use Rattle.bf_id.proofs.Tilings.{Contains-head, Contains-tail}
use Rattle.bf_case.specs.Refinement.{is_among}
use Rattle.bf_links.specs.Links.{link_to, owner_of}
use Rattle.bf_links.specs.declared.link.Link.{Link}
use Rattle.bf_mark_rounds.proofs.HeardLemmas.{put_all, put_all_is}
use Rattle.bf_proxy.specs.Joined.{joined, put, put_by}

-- each beside what it is mapped to
pub zip_mapped : {X Y : Type 0} (f : X → Y) (xs : List X) → zip xs (map f xs) ≡ map (λ x. (x, f x)) xs
zip_mapped f [] = refl
zip_mapped f (x ∷ xs) = ap (λ rest. (x, f x) ∷ rest) (zip_mapped f xs)

-- joined lists of functions that agree at the elements
pub flat_where : {X Y : Type 0} (f g : X → List Y) (xs : List X) → ((x : X) → Contains xs x → f x ≡ g x) → flat_map f xs ≡ flat_map g xs
flat_where f g [] same = refl
flat_where f g (x ∷ xs) same =
    ap (λ ys. ys ++ flat_map f xs) (same x (Contains-head x xs)) ∙ ap (λ ys. g x ++ ys) (flat_where f g xs (λ z has. same z (Contains-tail x xs z has)))

-- what joined lists are mapped to
pub map_flat : {X Y Z : Type 0} (f : Y → Z) (g : X → List Y) (xs : List X) → map f (flat_map g xs) ≡ flat_map (λ x. map f (g x)) xs
map_flat f g [] = refl
map_flat f g (x ∷ xs) = map-append f (g x) (flat_map g xs) ∙ ap (λ ys. map f (g x) ++ ys) (map_flat f g xs)

-- ---- links to leaves, by what owns these

-- the owner that links to some leaves name
pub owner_told : (f : BlockId → ℕ) (is : List BlockId) (j : BlockId) → owner_of (map (link_to f) is) j ≡ cond (is_among is j) (Some (f j)) None
owner_told f [] j = refl
owner_told f (i ∷ is) j = at (id_eq i j) (id_eq j i) refl refl (owner_told f is j)
  where
    at : (b c : Bool) → id_eq i j ≡ b → id_eq j i ≡ c → owner_of (map (link_to f) is) j ≡ cond (is_among is j) (Some (f j)) None
        → option_map (λ (link : Link). link.owner) (cond b (Some (link_to f i)) (find (λ (link : Link). id_eq link.id j) (map (link_to f) is))) ≡ cond (c || is_among is j) (Some (f j)) None
    at true true same back later = ap (λ k. Some (f k)) ((id_eq_is_equal i j).0 same)
    at false false other apart later = later
    at true false same apart later = let is_true : id_eq j i ≡ true = (id_eq_is_equal j i).1 (sym ((id_eq_is_equal i j).0 same)) in cc
    at false true other back later = let is_true : id_eq i j ≡ true = (id_eq_is_equal i j).1 (sym ((id_eq_is_equal j i).0 back)) in cc

-- ---- links that are put together

-- one list after the other
pub joined_append : (more later links : List Link) → joined (more ++ later) links ≡ joined later (joined more links)
unfolding joined
joined_append [] later links = refl
joined_append (x ∷ more) later links = joined_append more later (put x links)

put_mapped : (f : BlockId → ℕ) (i : BlockId) (is : List BlockId) → put (link_to f i) (map (link_to f) is) ≡ map (link_to f) (insert_key id_cmp is i)
unfolding put
put_mapped f i [] = refl
put_mapped f i (j ∷ is) = at (id_cmp i j) (put_mapped f i is)
  where
    at : (o : Ordering) → put (link_to f i) (map (link_to f) is) ≡ map (link_to f) (insert_key id_cmp is i)
        → put_by o (link_to f i) (link_to f j) (map (link_to f) is) (put (link_to f i) (map (link_to f) is))
        ≡ map (link_to f) (match_ordering o (i ∷ j ∷ is) (j ∷ is) (j ∷ insert_key id_cmp is i))
    at Less later = refl
    at Equal later = refl
    at Greater later = ap (λ rest. link_to f j ∷ rest) later

joined_mapped : (f : BlockId → ℕ) (is keys : List BlockId) → joined (map (link_to f) is) (map (link_to f) keys) ≡ map (link_to f) (put_all keys is)
unfolding joined
joined_mapped f [] keys = refl
joined_mapped f (i ∷ is) keys = ap (joined (map (link_to f) is)) (put_mapped f i keys) ∙ joined_mapped f is (insert_key id_cmp keys i)

-- links to leaves in any order, put together, are those to the rising leaves that are the same
pub joined_told : (f : BlockId → ℕ) (told rising : List BlockId) → AllPairs IsBefore rising → ((j : BlockId) → is_among told j ≡ is_among rising j)
    → joined (map (link_to f) told) [] ≡ map (link_to f) rising
joined_told f told rising rises same =
    joined_mapped f told [] ∙ ap (map (link_to f)) (put_all_is told [] rising (AllPairs-nil IsBefore) rises (λ j. or-false (is_among told j) ∙ same j))
