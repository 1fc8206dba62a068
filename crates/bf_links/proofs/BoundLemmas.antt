-- At most 56 leaves touch one: the slots are told apart, and the eight inner ones are left out.
use Rattle.std.proofs.Common.{◌≡◌, ◌≢◌, ℕ, suc, ◌+◌, ◌-◌, ◌*◌, ◌^◌, ◌<◌, ◌≤◌, List, [], ◌∷◌, map, length, get_or, eqb, Bool, ◌||◌, ◌⊎◌, true, false, inl, inr, refl, sym, ap, subst, ◌∙◌, arith}
use Rattle.std.specs.Prelude.{Contains, All, AllPairs, filter}
use Rattle.std.specs.List.{AllByRecursion, IsDistinct, list_any}
use Rattle.std.proofs.lemmas.Bool.Decides.{nat_tests}
use Rattle.std.proofs.lemmas.List.{get_or-map, length-map}
use Rattle.std.proofs.lemmas.List.Kept.{AllPairs-filter}
use Rattle.std.proofs.lemmas.List.Elements.{All-contains, All-filter, All-map, filter_passes}
use Rattle.std.proofs.lemmas.Map.Steps.{length-le_from_distinct_below}
use Rattle.std.proofs.lemmas.Nat.{pow_pos, pow-add}
use Rattle.bf_id.specs.declared.shape.Shape.{Shape}
use Rattle.bf_id.specs.Cube.{Cube, Voxel, Holds}
use Rattle.bf_id.specs.Meeting.{Meet}
use Rattle.bf_id.specs.Id.{BlockId, IsId, Touch, box_of, level_of, touches}
use Rattle.bf_id.specs.Walk.{IsBefore}
use Rattle.bf_id.proofs.Boxes.{Touch_sym}
use Rattle.bf_case.specs.Balanced.{AreBalancedLeaves}
use Rattle.bf_case.specs.Sample.{scale_of}
use Rattle.bf_case.proofs.TestLemmas.{touches_decides}
use Rattle.bf_links.specs.Links.{ComesBefore, touching}
use Rattle.bf_links.specs.declared.link.Link.{Link}
use Rattle.bf_case.proofs.AcrossLemmas.{leaf_edge}
use Rattle.bf_case.proofs.AlignLemmas.{IsMultiple, IsAligned, aligned}
use Rattle.bf_case.proofs.SampleLemmas.{not_before_itself}
use Rattle.bf_links.specs.Touching.{AreTouching}
use Rattle.bf_links.proofs.SlotLemmas.{slot, unit_at, slot_below, unit_held, unit_told, unit_inner}

-- the slot of a cube that another one covers, x fastest, and a unit there
slot_of : Cube → Cube → ℕ
slot_of c d = slot c.x c.edge d.x + 4 * (slot c.y c.edge d.y + 4 * slot c.z c.edge d.z)

abbrev unit_of : Cube → Cube → Voxel
unit_of c d = record { x = unit_at c.x c.edge d.x; y = unit_at c.y c.edge d.y; z = unit_at c.z c.edge d.z }

-- a cube that meets another, and lies on the grid of its halves
record LiesBeside (shape : Shape) (c d : Cube) : Type 0 where
  pub some : 0 < c.edge
  pub wide : 0 < d.edge
  pub meet : Meet shape c d
  pub own : IsAligned c
  pub along_x : IsMultiple (2 * d.x) c.edge
  pub along_y : IsMultiple (2 * d.y) c.edge
  pub along_z : IsMultiple (2 * d.z) c.edge

held : (shape : Shape) (c d : Cube) → LiesBeside shape c d → Holds d (unit_of c d)
held shape c d near = record {
  along_x = unit_held c.x c.edge d.x d.edge near.some near.wide near.meet.along_x;
  along_y = unit_held c.y c.edge d.y d.edge near.some near.wide near.meet.along_y;
  along_z = unit_held c.z c.edge d.z d.edge near.some near.wide near.meet.along_z;
}

-- each slot is one of four along each axis
record AreFour (c d : Cube) : Type 0 where
  pub x : slot c.x c.edge d.x < 4
  pub y : slot c.y c.edge d.y < 4
  pub z : slot c.z c.edge d.z < 4

four : (shape : Shape) (c d : Cube) → LiesBeside shape c d → AreFour c d
four shape c d near = record {
  x = slot_below c.x c.edge d.x d.edge near.some near.meet.along_x;
  y = slot_below c.y c.edge d.y d.edge near.some near.meet.along_y;
  z = slot_below c.z c.edge d.z d.edge near.some near.meet.along_z;
}

digits : (x y z p q r : ℕ) → x < 4 → y < 4 → p < 4 → q < 4 → x + 4 * (y + 4 * z) ≡ p + 4 * (q + 4 * r) → (x ≡ p) × (y ≡ q) × (z ≡ r)
digits x y z p q r hx hy hp hq same =
    let low : x ≡ p = omega arith in
    let next : y ≡ q = omega arith in
    (low, next, omega arith)

-- cubes in one slot share a unit
told : (shape : Shape) (c d e : Cube) → LiesBeside shape c d → LiesBeside shape c e → slot_of c d ≡ slot_of c e → unit_of c d ≡ unit_of c e
unfolding slot_of
told shape c d e near near_too same =
    let few = four shape c d near in
    let few_too = four shape c e near_too in
    let each = digits _ _ _ _ _ _ few.x few.y few_too.x few_too.y same in
    let x = unit_told c.x c.edge d.x e.x near.some near.own.along_x near.along_x near_too.along_x each.0 in
    let y = unit_told c.y c.edge d.y e.y near.some near.own.along_y near.along_y near_too.along_y each.1 in
    let z = unit_told c.z c.edge d.z e.z near.some near.own.along_z near.along_z near_too.along_z each.2 in
    ap (λ n. record { x = n; y = unit_at c.y c.edge d.y; z = unit_at c.z c.edge d.z }) x
    ∙ ap (λ n. record { x = unit_at c.x c.edge e.x; y = n; z = unit_at c.z c.edge d.z }) y
    ∙ ap (λ n. record { x = unit_at c.x c.edge e.x; y = unit_at c.y c.edge e.y; z = n }) z

-- the number of one of the eight inner slots
abbrev Inner : ℕ → ℕ → ℕ → Type 0
Inner x y z = (0 < x) × (x < 3) × ((0 < y) × (y < 3)) × ((0 < z) × (z < 3))

inner_held : (shape : Shape) (c d : Cube) → LiesBeside shape c d → Inner (slot c.x c.edge d.x) (slot c.y c.edge d.y) (slot c.z c.edge d.z) → Holds c (unit_of c d)
inner_held shape c d near inner = record {
  along_x = unit_inner c.x c.edge d.x near.some near.own.along_x near.along_x inner.0 inner.1;
  along_y = unit_inner c.y c.edge d.y near.some near.own.along_y near.along_y inner.2.0 inner.2.1;
  along_z = unit_inner c.z c.edge d.z near.some near.own.along_z near.along_z inner.3.0 inner.3.1;
}

record IsOuter (n : ℕ) : Type 0 where
  pub below : n < 64
  pub a : n ≢ 21
  pub b : n ≢ 22
  pub c : n ≢ 25
  pub d : n ≢ 26
  pub e : n ≢ 37
  pub f : n ≢ 38
  pub g : n ≢ 41
  pub h : n ≢ 42

outer : (x y z : ℕ) → x < 4 → y < 4 → z < 4 → (Inner x y z → ⊥) → IsOuter (x + 4 * (y + 4 * z))
outer x y z hx hy hz apart = record {
  below = omega arith;
  a = λ is. apart (omega arith);
  b = λ is. apart (omega arith);
  c = λ is. apart (omega arith);
  d = λ is. apart (omega arith);
  e = λ is. apart (omega arith);
  f = λ is. apart (omega arith);
  g = λ is. apart (omega arith);
  h = λ is. apart (omega arith);
}

outer_of : (shape : Shape) (c d : Cube) → LiesBeside shape c d → (Holds c (unit_of c d) → ⊥) → IsOuter (slot_of c d)
unfolding slot_of
outer_of shape c d near apart = let few = four shape c d near in outer _ _ _ few.x few.y few.z (λ inner. apart (inner_held shape c d near inner))

-- ---- counting

apart_from : {X : Type 0} (f : X → ℕ) (n : ℕ) (xs : List X) → ((k : ℕ) (d : X) → k < length xs → n ≢ f (get_or xs k d)) → AllByRecursion (λ y. eqb n y ≡ false) (map f xs)
apart_from f n [] apart = tt
apart_from f n (x ∷ xs) apart =
    (no n (f x) (apart 0 x (omega arith)), apart_from f n xs (λ k d within. apart (suc k) d (omega arith)))
  where
    no : (m n : ℕ) → m ≢ n → eqb m n ≡ false
    no m n ne = grind (arith, nat_tests)

distinct_map : {X : Type 0} (f : X → ℕ) (xs : List X) → ((j k : ℕ) (d : X) → j < k → k < length xs → f (get_or xs j d) ≢ f (get_or xs k d)) → IsDistinct eqb (map f xs)
unfolding IsDistinct
distinct_map f [] apart = tt
distinct_map f (x ∷ xs) apart =
    (apart_from f (f x) xs (λ k d within. apart 0 (suc k) d (omega arith) (omega arith)), distinct_map f xs (λ j k d before within. apart (suc j) (suc k) d (omega arith) (omega arith)))

abbrev inner_first : List ℕ → List ℕ
inner_first ns = 21 ∷ 22 ∷ 25 ∷ 26 ∷ 37 ∷ 38 ∷ 41 ∷ 42 ∷ ns

abbrev Lacks : List ℕ → ℕ → Type 0
Lacks ns n = AllByRecursion (λ y. eqb n y ≡ false) ns

distinct_inner : (ns : List ℕ) → Lacks ns 21 → Lacks ns 22 → Lacks ns 25 → Lacks ns 26 → Lacks ns 37 → Lacks ns 38 → Lacks ns 41 → Lacks ns 42
    → IsDistinct eqb ns → IsDistinct eqb (inner_first ns)
unfolding IsDistinct
distinct_inner ns a b c d e f g h rest = (
  (refl, (refl, (refl, (refl, (refl, (refl, (refl, a))))))),
  (
    (refl, (refl, (refl, (refl, (refl, (refl, b)))))),
    (
      (refl, (refl, (refl, (refl, (refl, c))))),
      ((refl, (refl, (refl, (refl, d)))), ((refl, (refl, (refl, e))), ((refl, (refl, f)), ((refl, g), (h, rest))))),
    ),
  ),
)

any_below : (q : ℕ) (ns : List ℕ) → AllByRecursion (λ n. n < 64) ns → list_any (eqb q) ns ≡ true → q < 64
any_below q [] small found = absurd cc
any_below q (n ∷ ns) small found = elim (either (eqb q n) (list_any (eqb q) ns) found) [
  | inl here ↦ equal q n here small.0
  | inr later ↦ any_below q ns small.1 later
]
  where
    either : (a b : Bool) → (a || b) ≡ true → (a ≡ true) ⊎ (b ≡ true)
    either true b holds = inl refl
    either false b holds = inr holds

    equal : (x y : ℕ) → eqb x y ≡ true → y < 64 → x < 64
    equal x y same below = grind (arith, nat_tests)

few_from_slots : {X : Type 0} (f : X → ℕ) (xs : List X) → ((k : ℕ) (d : X) → k < length xs → IsOuter (f (get_or xs k d)))
    → ((j k : ℕ) (d : X) → j < k → k < length xs → f (get_or xs j d) ≢ f (get_or xs k d)) → length xs ≤ 56
few_from_slots f xs outside apart =
    let all = length-le_from_distinct_below (inner_first (map f xs)) 64 distinct (λ q found. any_below q (inner_first (map f xs)) small found) in
    let mapped = length-map xs f in
    omega arith
  where
    small_map : (ys : List _) → ((k : ℕ) (d : _) → k < length ys → IsOuter (f (get_or ys k d))) → AllByRecursion (λ n. n < 64) (map f ys)
    small_map [] out = tt
    small_map (y ∷ ys) out = ((out 0 y (omega arith)).below, small_map ys (λ k d within. out (suc k) d (omega arith)))

    small : AllByRecursion (λ n. n < 64) (inner_first (map f xs))
    small = (omega arith, (omega arith, (omega arith, (omega arith, (omega arith, (omega arith, (omega arith, (omega arith, small_map xs outside))))))))

    distinct : IsDistinct eqb (inner_first (map f xs))
    distinct = distinct_inner (map f xs)
        (apart_from f 21 xs (λ k d within is. (outside k d within).a (sym is))) (apart_from f 22 xs (λ k d within is. (outside k d within).b (sym is)))
        (apart_from f 25 xs (λ k d within is. (outside k d within).c (sym is))) (apart_from f 26 xs (λ k d within is. (outside k d within).d (sym is)))
        (apart_from f 37 xs (λ k d within is. (outside k d within).e (sym is))) (apart_from f 38 xs (λ k d within is. (outside k d within).f (sym is)))
        (apart_from f 41 xs (λ k d within is. (outside k d within).g (sym is))) (apart_from f 42 xs (λ k d within is. (outside k d within).h (sym is)))
        (distinct_map f xs apart)

-- ---- leaves

halves_grid : (fine coarse : ℕ) → fine ≤ 4 → coarse ≤ fine + 1 → coarse ≤ 4 → 2 * scale_of coarse ≡ 2 ^ (fine + 1 - coarse) * scale_of fine
halves_grid fine coarse shallow near shallow_too =
    let up : 4 - coarse + 1 ≡ fine + 1 - coarse + (4 - fine) = omega arith in
    let double : 2 ^ (4 - coarse + 1) ≡ 2 ^ (4 - coarse) * 2 = pow-add 2 (4 - coarse) 1 in
    let first : 2 * scale_of coarse ≡ 2 ^ (4 - coarse + 1) = omega arith in
    first ∙ ap (λ (n : ℕ). 2 ^ n) up ∙ pow-add 2 (fine + 1 - coarse) (4 - fine)

on_halves : (low fine coarse : ℕ) → fine ≤ 4 → coarse ≤ fine + 1 → coarse ≤ 4 → IsMultiple low (scale_of coarse) → IsMultiple (2 * low) (scale_of fine)
on_halves low fine coarse shallow near shallow_too (k, is) =
    let grid = halves_grid fine coarse shallow near shallow_too in
    (k * 2 ^ (fine + 1 - coarse), twice low k (scale_of coarse) (2 ^ (fine + 1 - coarse)) (scale_of fine) is grid)
  where
    twice : (l k s t u : ℕ) → l ≡ k * s → 2 * s ≡ t * u → 2 * l ≡ k * t * u
    twice l k s t u is grid = let times : k * (2 * s) ≡ k * (t * u) = ap (λ n. k * n) grid in omega arith

touching_is_near : (shape : Shape) (i j : BlockId) → IsId i → IsId j → level_of j ≤ level_of i + 1 → Touch shape i j → LiesBeside shape (box_of shape i) (box_of shape j)
touching_is_near shape i j id id_too near touch =
    let e = leaf_edge shape i id.shallow in
    let t = leaf_edge shape j id_too.shallow in
    let pos = pow_pos (4 - level_of i) in
    let pos_too = pow_pos (4 - level_of j) in
    let own = aligned shape i id.shallow in
    let other = aligned shape j id_too.shallow in
    let on : (low : ℕ) → IsMultiple low (box_of shape j).edge → IsMultiple (2 * low) (box_of shape i).edge = λ low at.
    subst (IsMultiple (2 * low)) (sym e) (on_halves low (level_of i) (level_of j) id.shallow near id_too.shallow (subst (IsMultiple low) t at)) in
    record {
      some = omega arith;
      wide = omega arith;
      meet = touch.1;
      own = own;
      along_x = on (box_of shape j).x other.along_x;
      along_y = on (box_of shape j).y other.along_y;
      along_z = on (box_of shape j).z other.along_z;
    }

pub few_touch : (shape : Shape) (ids : List BlockId) (i : BlockId) (near : List BlockId) → AreTouching shape ids i near → length near ≤ 56
few_touch shape ids i near are =
    few_from_slots (λ j. slot_of (box_of shape i) (box_of shape j)) near
    (λ k d within. outer_of shape (box_of shape i) (box_of shape (get_or near k d)) (one k d within) (λ inside.
    (are.touch k d within).0 (are.tiling.apart (unit_of (box_of shape i) (box_of shape (get_or near k d))) i (get_or near k d) are.own (are.leaves k d within) inside
    (held shape (box_of shape i) (box_of shape (get_or near k d)) (one k d within)))))
    (λ j k d before within same.
    let own = box_of shape i in
    let first = get_or near j d in
    let second = get_or near k d in
    let in_j : j < length near = omega arith in
    let unit = unit_of own (box_of shape first) in
    let both : unit_of own (box_of shape first) ≡ unit_of own (box_of shape second) = told shape own (box_of shape first) (box_of shape second) (one j d in_j) (one k d within) same in
    let leaf : first ≡ second = are.tiling.apart unit first second (are.leaves j d in_j) (are.leaves k d within) (held shape own (box_of shape first) (one j d in_j))
    (subst (Holds (box_of shape second)) (sym both) (held shape own (box_of shape second) (one k d within))) in
    not_before_itself first (subst (IsBefore first) (sym leaf) (are.rising j k d before within)))
  where
    one : (k : ℕ) (d : BlockId) → k < length near → LiesBeside shape (box_of shape i) (box_of shape (get_or near k d))
    one k d within =
        let j = get_or near k d in
        let has = are.leaves k d within in
        let touch = are.touch k d within in
        touching_is_near shape i j (All-contains IsId ids i are.named are.own) (All-contains IsId ids j are.named has)
        (are.balanced j i has are.own (Touch_sym shape i j touch)) touch

-- so few of some leaves' links touch one
pub few_links : (shape : Shape) (levels : ℕ) (ids : List BlockId) (i : BlockId) (leaves : List Link) → AreBalancedLeaves shape levels ids → Contains ids i
    → All (λ (l : Link). Contains ids l.id) leaves → AllPairs ComesBefore leaves → length (touching shape i leaves) ≤ 56
few_links shape levels ids i leaves balanced own known rising =
    let name : Link → BlockId = λ l. l.id in
    let test : Link → Bool = λ l. touches shape i l.id in
    let some = filter test leaves in
    let up = AllPairs-filter ComesBefore test leaves rising in
    let near : AreTouching shape ids i (map name some) = record {
      tiling = balanced.tiling;
      named = balanced.named;
      balanced = balanced.balanced;
      own = own;
      leaves = All-map (Contains ids) name some (All-filter test (λ (l : Link). Contains ids l.id) leaves known);
      touch = All-map (Touch shape i) name some (λ k d within. (touches_decides shape i (get_or some k d).id).0 (filter_passes test leaves k d within));
      rising = λ j k d before within. lift some up j k d before within;
    } in
    subst (λ n. n ≤ 56) (length-map some name) (few_touch shape ids i (map name some) near)
  where
    lift : (ls : List Link) → AllPairs ComesBefore ls → (j k : ℕ) (d : BlockId) → j < k → k < length (map (λ (l : Link). l.id) ls)
        → IsBefore (get_or (map (λ (l : Link). l.id) ls) j d) (get_or (map (λ (l : Link). l.id) ls) k d)
    lift ls up j k d before within =
        let name : Link → BlockId = λ l. l.id in
        let e : Link = record { id = d; owner = 0 } in
        let in_k : k < length ls = let long = length-map ls name in omega arith in
        subst (λ b. IsBefore (get_or (map name ls) j d) b) (sym (get_or-map name ls k e d in_k))
        (subst (λ a. IsBefore a (get_or ls k e).id) (sym (get_or-map name ls j e d (omega arith))) (up j k e before in_k))
