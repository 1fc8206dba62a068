-- The links of a root, found root by root in rising order: one root more, and roots that are passed over since they don't touch.
use Rattle.std.proofs.Common.{◌≡◌, ℕ, zero, suc, ◌+◌, ◌-◌, ◌*◌, ◌/◌, ◌%◌, ◌<◌, ◌≤◌, inl, inr, min, Bool, true, false, cond, List, [], ◌∷◌, ◌++◌, map, filter, slice_index, refl, sym, ap, subst, ◌∙◌, arith}
use Rattle.std.specs.List.{range_with_len}
use Rattle.std.proofs.Math.Nat.{mul-le-mul_left, mul-le-mul}
use Rattle.std.proofs.lemmas.Bool.{cases_lt, false_from_ne_true}
use Rattle.std.proofs.lemmas.Nat.{div_below, mod-mul-add, mul-add-lt}
use Rattle.std.proofs.lemmas.List.{append-nil, map-append}
use Rattle.std.proofs.lemmas.List.FromFn.{filter_of_map_range_with_len_more}
use Rattle.bf_id.specs.declared.shape.Shape.{Shape}
use Rattle.bf_id.specs.Shape.{IsShape, root_count}
use Rattle.bf_id.specs.Id.{BlockId, Touch, root_id, root_ids, touches}
use Rattle.bf_id.proofs.Tilings.{Contains-from_fn}
use Rattle.bf_case.specs.Around.{x_of, y_of, z_of}
use Rattle.bf_case.proofs.MapLemmas.{balanced_roots}
use Rattle.bf_case.proofs.TestLemmas.{touches_decides}
use Rattle.bf_links.specs.Links.{AreLinks, link_to, links_of}
use Rattle.bf_links.specs.Roots.{links_below, root_owner}
use Rattle.bf_links.specs.declared.link.Link.{Link}
use Rattle.bf_links.proofs.LinkLemmas.{links_are_links}

-- ---- one root more

mapped_choice : {X Y : Type 0} (f : X → Y) (b : Bool) (x : X) → map f (cond b (x ∷ []) []) ≡ cond b (f x ∷ []) []
mapped_choice f true x = refl
mapped_choice f false x = refl

links_below-more : (shape : Shape) (owners : List ℕ) (root n : ℕ)
    → links_below shape owners root (n + 1) ≡ links_below shape owners root n ++ cond (touches shape (root_id root) (root_id n)) (link_to (root_owner owners) (root_id n) ∷ []) []
unfolding links_below
links_below-more shape owners root n =
    let test : BlockId → Bool = touches shape (root_id root) in
    let link : BlockId → Link = link_to (root_owner owners) in
    let before : List BlockId = filter test (map root_id (range_with_len 0 n)) in
    let last : List BlockId = cond (test (root_id n)) (root_id n ∷ []) [] in
    ap (map link) (filter_of_map_range_with_len_more test root_id 0 n n (omega arith))
    ∙ map-append link before last
    ∙ ap (λ (links : List Link). map link before ++ links) (mapped_choice link (test (root_id n)) (root_id n))

-- the next root touches, and its link was added
pub root_touches : (shape : Shape) (owners : List ℕ) (root n owner : ℕ) (i j : BlockId) (items new : List Link) → i ≡ root_id root → j ≡ root_id n → owner ≡ slice_index owners n
    → Touch shape i j → new ≡ items ++ record { id = j; owner = owner } ∷ [] → items ≡ links_below shape owners root n → new ≡ links_below shape owners root (n + 1)
root_touches shape owners root n owner i j items new own next owned touch pushed so_far =
    let link : Link = link_to (root_owner owners) (root_id n) in
    let at : Touch shape (root_id root) (root_id n) = subst (λ (a : BlockId). Touch shape a (root_id n)) own (subst (Touch shape i) next touch) in
    let passes : touches shape (root_id root) (root_id n) ≡ true = (touches_decides shape (root_id root) (root_id n)).1 at in
    pushed ∙ (λ k. items ++ record { id = next k; owner = owned k } ∷ []) ∙ ap (λ links. links ++ link ∷ []) so_far
    ∙ ap (λ b. links_below shape owners root n ++ cond b (link ∷ []) []) (sym passes) ∙ sym (links_below-more shape owners root n)

-- it doesn't touch
root_apart : (shape : Shape) (owners : List ℕ) (root n : ℕ) → (Touch shape (root_id root) (root_id n) → ⊥)
    → links_below shape owners root n ≡ links_below shape owners root (n + 1)
root_apart shape owners root n apart =
    let link : Link = link_to (root_owner owners) (root_id n) in
    let fails : touches shape (root_id root) (root_id n) ≡ false =
    false_from_ne_true (touches shape (root_id root) (root_id n)) (λ t. apart ((touches_decides shape (root_id root) (root_id n)).0 t)) in
    sym (append-nil (links_below shape owners root n))
    ∙ ap (λ b. links_below shape owners root n ++ cond b (link ∷ []) []) (sym fails) ∙ sym (links_below-more shape owners root n)

pub root_left_out : (shape : Shape) (owners : List ℕ) (root n : ℕ) (i j : BlockId) (items : List Link) → i ≡ root_id root → j ≡ root_id n → (Touch shape i j → ⊥)
    → items ≡ links_below shape owners root n → items ≡ links_below shape owners root (n + 1)
root_left_out shape owners root n i j items own next apart so_far =
    so_far ∙ root_apart shape owners root n (λ touch. apart (subst (Touch shape i) (sym next) (subst (λ (a : BlockId). Touch shape a (root_id n)) (sym own) touch)))

-- ---- roots that are passed over

passed_over : (shape : Shape) (owners : List ℕ) (root n count : ℕ) → ((k : ℕ) → n ≤ k → k < n + count → Touch shape (root_id root) (root_id k) → ⊥)
    → links_below shape owners root n ≡ links_below shape owners root (n + count)
passed_over shape owners root n zero apart = ap (links_below shape owners root) (omega arith)
passed_over shape owners root n (suc count) apart =
    passed_over shape owners root n count (λ k least most. apart k least (omega arith))
    ∙ root_apart shape owners root (n + count) (apart (n + count) (omega arith) (omega arith))
    ∙ ap (links_below shape owners root) (omega arith)

passed_between : (shape : Shape) (owners : List ℕ) (root m n : ℕ) → m ≤ n → ((k : ℕ) → m ≤ k → k < n → Touch shape (root_id root) (root_id k) → ⊥)
    → links_below shape owners root m ≡ links_below shape owners root n
passed_between shape owners root m n up apart =
    passed_over shape owners root m (n - m) (λ k least most. apart k least (omega arith)) ∙ ap (links_below shape owners root) (omega arith)

-- roots that touch stand beside each other along each axis
record StandBeside (shape : Shape) (i k : ℕ) : Type 0 where
  x_back : x_of shape i ≤ x_of shape k + 1
  x_on : x_of shape k ≤ x_of shape i + 1
  y_back : y_of shape i ≤ y_of shape k + 1
  y_on : y_of shape k ≤ y_of shape i + 1
  z_back : z_of shape i ≤ z_of shape k + 1
  z_on : z_of shape k ≤ z_of shape i + 1

stand_beside : (shape : Shape) (i k : ℕ) → Touch shape (root_id i) (root_id k) → StandBeside shape i k
stand_beside shape i k touch =
    let x = touch.1.along_x in
    let y = touch.1.along_y in
    let z = touch.1.along_z in
    record {
      x_back = omega (arith, x);
      x_on = omega (arith, x);
      y_back = omega (arith, y);
      y_on = omega (arith, y);
      z_back = omega (arith, z);
      z_on = omega (arith, z);
    }

-- a number by its quotient, between multiples
quotient_between : (n a b k : ℕ) → 0 < n → n * a ≤ k → k < n * b → (a ≤ k / n) × (k / n < b)
quotient_between n a b k some least most =
    let below : k / n < b = div_below k n b some (omega arith) in
    elim (cases_lt (k / n) a) [
      | inl less ↦ absurd (let room : n * (k / n + 1) ≤ n * a = mul-le-mul_left n (let up : k / n + 1 ≤ a = omega arith in up) in omega arith)
      | inr least' ↦ (least', below)
    ]

-- ---- along a row

row_x : (shape : Shape) (row k : ℕ) → shape.nx * row ≤ k → k < shape.nx * row + shape.nx → shape.nx * row + x_of shape k ≡ k
row_x shape row k least most =
    let x = k - shape.nx * row in
    let is : k ≡ row * shape.nx + x = omega arith in
    let rest : x_of shape k ≡ x = ap (λ n. n % shape.nx) is ∙ mod-mul-add row shape.nx x (omega arith) in
    omega (arith, rest)

pub row_begins : (shape : Shape) (owners : List ℕ) (root row : ℕ) → IsShape shape
    → links_below shape owners root (shape.nx * row) ≡ links_below shape owners root (shape.nx * row + (x_of shape root - 1))
row_begins shape owners root row is =
    passed_between shape owners root (shape.nx * row) (shape.nx * row + (x_of shape root - 1)) (omega arith) (λ k least most touch.
    let beside = stand_beside shape root k touch in
    let own : x_of shape root < shape.nx = mod_inside shape root is in
    let at = row_x shape row k least (omega arith) in
    omega (arith, at, beside.x_back))
  where
    mod_inside : (shape : Shape) (root : ℕ) → IsShape shape → root % shape.nx < shape.nx
    mod_inside shape root is = let some = is.some_x in omega arith

pub row_ends : (shape : Shape) (owners : List ℕ) (root row end : ℕ) → min (x_of shape root + 2) shape.nx ≤ end → end ≤ shape.nx
    → links_below shape owners root (shape.nx * row + end) ≡ links_below shape owners root (shape.nx * (row + 1))
row_ends shape owners root row end past within =
    passed_between shape owners root (shape.nx * row + end) (shape.nx * (row + 1)) (omega arith) (λ k least most touch.
    let beside = stand_beside shape root k touch in
    let at = row_x shape row k (omega arith) (omega arith) in
    omega (arith, at, beside.x_on))

-- ---- along a plane

plane_y : (shape : Shape) (plane k : ℕ) → shape.ny * plane ≤ k / shape.nx → k / shape.nx < shape.ny * plane + shape.ny → shape.ny * plane + y_of shape k ≡ k / shape.nx
plane_y shape plane k least most =
    let y = k / shape.nx - shape.ny * plane in
    let is : k / shape.nx ≡ plane * shape.ny + y = omega arith in
    let rest : y_of shape k ≡ y = ap (λ n. n % shape.ny) is ∙ mod-mul-add plane shape.ny y (omega arith) in
    omega (arith, rest)

pub plane_begins : (shape : Shape) (owners : List ℕ) (root plane : ℕ) → IsShape shape → y_of shape root < shape.ny
    → links_below shape owners root (shape.nx * (shape.ny * plane)) ≡ links_below shape owners root (shape.nx * (shape.ny * plane + (y_of shape root - 1)))
plane_begins shape owners root plane is own =
    passed_between shape owners root (shape.nx * (shape.ny * plane)) (shape.nx * (shape.ny * plane + (y_of shape root - 1)))
    (mul-le-mul_left shape.nx (let up : shape.ny * plane ≤ shape.ny * plane + (y_of shape root - 1) = omega arith in up)) (λ k least most touch.
    let beside = stand_beside shape root k touch in
    let row = quotient_between shape.nx (shape.ny * plane) (shape.ny * plane + (y_of shape root - 1)) k is.some_x least most in
    let at = plane_y shape plane k row.0 (omega (arith, row.1)) in
    omega (arith, at, row.1, beside.y_back))

pub plane_ends : (shape : Shape) (owners : List ℕ) (root plane end : ℕ) → IsShape shape → min (y_of shape root + 2) shape.ny ≤ end → end ≤ shape.ny
    → links_below shape owners root (shape.nx * (shape.ny * plane + end)) ≡ links_below shape owners root (shape.nx * (shape.ny * (plane + 1)))
plane_ends shape owners root plane end is past within =
    passed_between shape owners root (shape.nx * (shape.ny * plane + end)) (shape.nx * (shape.ny * (plane + 1)))
    (mul-le-mul_left shape.nx (let up : shape.ny * plane + end ≤ shape.ny * (plane + 1) = omega arith in up)) (λ k least most touch.
    let beside = stand_beside shape root k touch in
    let row = quotient_between shape.nx (shape.ny * plane + end) (shape.ny * (plane + 1)) k is.some_x least most in
    let at = plane_y shape plane k (omega (arith, row.0)) (omega (arith, row.1)) in
    omega (arith, at, row.0, beside.y_on))

-- ---- along the domain

pub domain_begins : (shape : Shape) (owners : List ℕ) (root : ℕ) → IsShape shape
    → links_below shape owners root 0 ≡ links_below shape owners root (shape.nx * (shape.ny * (z_of shape root - 1)))
domain_begins shape owners root is =
    passed_between shape owners root 0 (shape.nx * (shape.ny * (z_of shape root - 1))) (omega arith) (λ k least most touch.
    let beside = stand_beside shape root k touch in
    let row = quotient_between shape.nx 0 (shape.ny * (z_of shape root - 1)) k is.some_x (omega arith) most in
    let plane = quotient_between shape.ny 0 (z_of shape root - 1) (k / shape.nx) is.some_y (omega arith) row.1 in
    omega (arith, plane.1, beside.z_back))

pub domain_ends : (shape : Shape) (owners : List ℕ) (root end : ℕ) → IsShape shape → min (z_of shape root + 2) shape.nz ≤ end → end ≤ shape.nz
    → links_below shape owners root (shape.nx * (shape.ny * end)) ≡ links_below shape owners root (root_count shape)
domain_ends shape owners root end is past within =
    passed_between shape owners root (shape.nx * (shape.ny * end)) (root_count shape)
    (mul-le-mul_left shape.nx (let up : shape.ny * end ≤ shape.ny * shape.nz = mul-le-mul_left shape.ny within in up)) (λ k least most touch.
    let beside = stand_beside shape root k touch in
    let row = quotient_between shape.nx (shape.ny * end) (shape.ny * shape.nz) k is.some_x least most in
    let plane = quotient_between shape.ny end shape.nz (k / shape.nx) is.some_y row.0 row.1 in
    omega (arith, plane.0, plane.1, beside.z_on))

-- ---- the beginning and the end

pub links_below-none : (shape : Shape) (owners : List ℕ) (root : ℕ) → links_below shape owners root 0 ≡ []
unfolding links_below
links_below-none shape owners root = refl

pub links_below-all : (shape : Shape) (owners : List ℕ) (root : ℕ)
    → links_below shape owners root (root_count shape) ≡ links_of shape (root_ids shape) (root_owner owners) (root_id root)
unfolding links_below
links_below-all shape owners root = refl

pub root_links_are_links : (shape : Shape) (owner : BlockId → ℕ) (root : ℕ) → IsShape shape → root < root_count shape
    → AreLinks (links_of shape (root_ids shape) owner (root_id root))
root_links_are_links shape owner root is below =
    links_are_links shape 0 (root_ids shape) owner (root_id root) (balanced_roots shape 0 is) (Contains-from_fn root_id (root_count shape) root below)

-- ---- numbers that fit

pub root_in_row : (shape : Shape) (row x : ℕ) → IsShape shape → row < shape.ny * shape.nz → x < shape.nx → (shape.nx * row + x < root_count shape) × (root_count shape ≤ 4096)
root_in_row shape row x is row_in x_in =
    let inner : shape.ny * shape.nz ≤ 16 * 16 = mul-le-mul is.few_y is.few_z in
    let all : shape.nx * (shape.ny * shape.nz) ≤ 16 * 256 = mul-le-mul is.few_x inner in
    let at : row * shape.nx + x < shape.nx * (shape.ny * shape.nz) = mul-add-lt row shape.nx x (shape.ny * shape.nz) row_in x_in in
    (omega arith, omega arith)

pub row_in_plane : (shape : Shape) (plane y : ℕ) → IsShape shape → plane < shape.nz → y < shape.ny → (shape.ny * plane + y < shape.ny * shape.nz) × (shape.ny * shape.nz ≤ 256)
row_in_plane shape plane y is plane_in y_in =
    let inner : shape.ny * shape.nz ≤ 16 * 16 = mul-le-mul is.few_y is.few_z in
    let at : plane * shape.ny + y < shape.ny * shape.nz = mul-add-lt plane shape.ny y shape.nz plane_in y_in in
    (omega arith, omega arith)
