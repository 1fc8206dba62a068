-- Of a regrid by wishes: where proxies are made, of which leaves they come, and that they can be made.
use Rattle.std.proofs.Common.{◌≡◌, ◌≢◌, ℕ, ◌<◌, ◌≤◌, ◌↔◌, ◌==◌, List, [], ◌∷◌, ◌++◌, length, map, filter, flat_map, All, Contains, refl, sym, ap, ◌∙◌, subst, arith}
use Rattle.std.specs.Prelude.{AllPairs}
use Rattle.std.proofs.lemmas.List.Elements.{All-contains, All-map}
use Rattle.std.proofs.lemmas.List.Kept.{AllPairs-filter}
use Rattle.bf_lemmas.proofs.Lists.{All-from_Contains, map_twice}
use Rattle.bf_id.specs.declared.shape.Shape.{Shape}
use Rattle.bf_id.specs.Cube.{Holds, Voxel}
use Rattle.bf_id.specs.Id.{BlockId, IsId, InShape, level_of, box_of, child_of, children_of, parent_of, touches}
use Rattle.bf_id.specs.Walk.{IsBefore}
use Rattle.bf_id.proofs.Boxes.{child_holding, corner_of, holds_corner, level-child, parent_holds}
use Rattle.bf_id.proofs.Tilings.{Contains-child, Contains-child_cases, Contains-one, Contains-one_cases}
use Rattle.bf_case.specs.declared.target.Target.{Target}
use Rattle.bf_case.specs.declared.target.Target.TheVariants.{Keep, Refine, Merge}
use Rattle.bf_case.specs.Regrid.{heirs_by, heirs_of, regridded_ids, target_of}
use Rattle.bf_case.specs.Wishes.{Wishes}
use Rattle.bf_case.proofs.ChoiceLemmas.{regridded_are_balanced, target_of_is_sound}
use Rattle.bf_case.proofs.HeirLemmas.{heirs_in, heirs_in_shape, IsInOctet, IsRegridded, Follows}
use Rattle.bf_case.proofs.OctetLemmas.{level-parent, parent_of-child}
use Rattle.bf_links.specs.Links.{link_to, links_of, touching, AreLinks, ComesBefore}
use Rattle.bf_links.specs.declared.link.Link.{Link}
use Rattle.bf_proxy.specs.declared.proxy.Proxy.{Proxy}
use Rattle.bf_proxy.specs.Joined.{joined, AgreeOnOwners}
use Rattle.bf_proxy.specs.Proxies.{known_links, proxy_at, sources_by, AreSources}
use Rattle.bf_proxy.specs.Homes.{gathered_from, home_of, made_at, near_links, outer_links, AreOthers, CanRegrid, ShareUnit}
use Rattle.bf_proxy.proofs.MakeLemmas.{heirs_follow}
use Rattle.bf_proxy.proofs.HomeLemmas.{
  follows_goes,
  gathering_agrees,
  gathering_few,
  known_few,
  links_gathered,
  links_made,
  made_are,
  near_new,
  near_rises,
  outer_few,
}

pub is_regridded : (shape : Shape) (levels : ℕ) (ids : List BlockId) (w : Wishes) → CanRegrid shape levels ids w → IsRegridded shape levels ids (target_of shape ids w)
is_regridded shape levels ids w can = record { few = can.few; before = can.leaves; sound = target_of_is_sound shape levels ids w can.few can.room can.leaves }

same_map : (qs : List BlockId) → map (λ q. q) qs ≡ qs
same_map [] = refl
same_map (q ∷ qs) = ap (λ rest. q ∷ rest) (same_map qs)

flat_alike : {X Y : Type 0} (f g : X → List Y) (xs : List X) → ((x : X) → f x ≡ g x) → flat_map f xs ≡ flat_map g xs
flat_alike f g [] same = refl
flat_alike f g (x ∷ xs) same = ap (λ ys. ys ++ flat_map f xs) (same x) ∙ ap (λ ys. g x ++ ys) (flat_alike f g xs same)

-- the ids of the proxies that come of a leaf
pub made_ids : (shape : Shape) (ids : List BlockId) (target : BlockId → Target) (owner : BlockId → ℕ) (i : BlockId)
    → map (λ (proxy : Proxy). proxy.id) (made_at shape ids target owner i) ≡ heirs_by (target i) i
made_ids shape ids target owner i =
    let sources = map (link_to owner) (sources_by (target i) i) in
    let near = near_links shape ids target owner i in
    map_twice (λ (proxy : Proxy). proxy.id) (proxy_at shape (target i) sources (known_links (target i) i sources near)) (λ q. q) (λ q. refl) (heirs_by (target i) i)
    ∙ same_map (heirs_by (target i) i)

pub all_made_ids : (shape : Shape) (ids : List BlockId) (w : Wishes) (owner : BlockId → ℕ)
    → flat_map (λ i. map (λ (proxy : Proxy). proxy.id) (made_at shape ids (target_of shape ids w) owner i)) ids ≡ regridded_ids shape ids w
unfolding regridded_ids
all_made_ids shape ids w owner =
    flat_alike (λ i. map (λ (proxy : Proxy). proxy.id) (made_at shape ids (target_of shape ids w) owner i)) (heirs_of shape ids w) ids
    (made_ids shape ids (target_of shape ids w) owner)

pub rank_makes : (shape : Shape) (levels : ℕ) (ids : List BlockId) (w : Wishes) (owner : BlockId → ℕ) (rank : ℕ) → CanRegrid shape levels ids w
    → flat_map (λ i. map (λ (proxy : Proxy). proxy.id) (made_at shape ids (target_of shape ids w) owner i)) (filter (λ i. owner i == rank) ids)
    ≡ filter (λ q. home_of ids owner q == rank) (regridded_ids shape ids w)
unfolding regridded_ids
rank_makes shape levels ids w owner rank can =
    flat_alike (λ i. map (λ (proxy : Proxy). proxy.id) (made_at shape ids (target_of shape ids w) owner i)) (heirs_of shape ids w) (filter (λ i. owner i == rank) ids)
    (made_ids shape ids (target_of shape ids w) owner)
    ∙ made_are shape levels ids (target_of shape ids w) (is_regridded shape levels ids w can) owner rank

pub new_rise : (shape : Shape) (levels : ℕ) (ids : List BlockId) (w : Wishes) → CanRegrid shape levels ids w → AllPairs IsBefore (regridded_ids shape ids w)
new_rise shape levels ids w can = let new = regridded_are_balanced shape levels ids w can.few can.room can.leaves in new.rising

-- ---- sources

pub sources_named : (owner : BlockId → ℕ) (t : Target) (i : BlockId) → AreSources t i (map (link_to owner) (sources_by t i))
sources_named owner t i =
    map_twice (λ (source : Link). source.id) (link_to owner) (λ q. q) (λ q. refl) (sources_by t i) ∙ same_map (sources_by t i)

module _ (shape : Shape) (levels : ℕ) (ids : List BlockId) (target : BlockId → Target) (is : IsRegridded shape levels ids target) where
  shallow : (i : BlockId) → Contains ids i → level_of i ≤ 4
  shallow i has = let named : IsId i = All-contains IsId ids i is.before.named has in named.shallow

  alone : (i j q : BlockId) → Contains ids i → Contains ids j → ((v : Voxel) → Holds (box_of shape q) v → Holds (box_of shape i) v) → ShareUnit shape j q → i ≡ j
  alone i j q has has' within (v, in_j, in_q) = is.before.tiling.apart v i j has has' (within v in_q) in_j

  inner : (j q : BlockId) → level_of j ≤ 4 → ((v : Voxel) → Holds (box_of shape j) v → Holds (box_of shape q) v) → ShareUnit shape j q
  inner j q low within = (corner_of (box_of shape j), holds_corner shape j low, within (corner_of (box_of shape j)) (holds_corner shape j low))

  outer : (j q : BlockId) → level_of q ≤ 4 → ((v : Voxel) → Holds (box_of shape q) v → Holds (box_of shape j) v) → ShareUnit shape j q
  outer j q low within = (corner_of (box_of shape q), within (corner_of (box_of shape q)) (holds_corner shape q low), holds_corner shape q low)

  pub share_unit : (i j q : BlockId) → Contains ids i → Contains (heirs_by (target i) i) q → Contains (sources_by (target i) i) j ↔ (Contains ids j × ShareUnit shape j q)
  share_unit i j q has heir = by (target i) refl (heirs_follow (target i) i q heir)
    where
      by : (t : Target) → target i ≡ t → Follows t i q → Contains (sources_by t i) j ↔ (Contains ids j × ShareUnit shape j q)
      by Keep e same = (
        λ one.
            let is_i : j ≡ i = Contains-one_cases i j one in
            (subst (Contains ids) (sym is_i) has, inner j q (subst (λ k. level_of k ≤ 4) (sym is_i) (shallow i has)) (λ v in_j. subst (λ k. Holds (box_of shape k) v) (is_i ∙ sym same) in_j)),
        λ both. subst (Contains (i ∷ [])) (alone i j q has both.0 (λ v in_q. subst (λ k. Holds (box_of shape k) v) same in_q) both.1) (Contains-one i),
      )
      by Refine e (octant, small, child) =
          let room : level_of i < levels = is.sound.room i has e in
          let low : level_of q ≤ 4 = subst (λ k. level_of k ≤ 4) (sym child) (omega (arith, is.few, level-child i octant)) in
          let within : (v : Voxel) → Holds (box_of shape q) v → Holds (box_of shape i) v =
          λ v in_q. parent_holds shape i octant v small (subst (λ k. Holds (box_of shape k) v) child in_q) in (
            λ one.
                let is_i : j ≡ i = Contains-one_cases i j one in
                (subst (Contains ids) (sym is_i) has, outer j q low (λ v in_q. subst (λ k. Holds (box_of shape k) v) (sym is_i) (within v in_q))),
            λ both. subst (Contains (i ∷ [])) (alone i j q has both.0 within both.1) (Contains-one i),
          )
      by Merge e parent =
          let octet : IsInOctet ids target i = is.sound.octets i has e in
          let p : BlockId = parent_of i in
          let low : level_of p < 4 = omega (arith, shallow i has, level-parent i octet.child) in (
            λ one.
                let child = Contains-child_cases p j one in
                let leaf : Contains ids j = subst (Contains ids) (sym child.2) (octet.leaves child.0 child.1) in (
                  leaf,
                  inner j q (shallow j leaf) (λ v in_j.
                      subst (λ k. Holds (box_of shape k) v) (sym parent) (parent_holds shape p child.0 v child.1 (subst (λ k. Holds (box_of shape k) v) child.2 in_j))),
                ),
            λ both. back p octet.leaves low both.0 both.1 parent,
          )
        where
          back : (p : BlockId) → ((octant : ℕ) → octant < 8 → Contains ids (child_of p octant)) → level_of p < 4 → Contains ids j → ShareUnit shape j q → q ≡ p → Contains (children_of p) j
          back p leaves low leaf (v, in_j, in_q) same =
              let one = child_holding shape p v low (subst (λ k. Holds (box_of shape k) v) same in_q) in
              let child : child_of p one.0 ≡ j = is.before.tiling.apart v (child_of p one.0) j (leaves one.0 one.1) leaf one.2 in_j in
              subst (Contains (children_of p)) child (Contains-child p one.0 one.1)

-- ---- links

module _ (shape : Shape) (levels : ℕ) (ids : List BlockId) (w : Wishes) (owner : BlockId → ℕ) (can : CanRegrid shape levels ids w) where
  abbrev target : BlockId → Target
  target = target_of shape ids w

  is : IsRegridded shape levels ids target
  is = is_regridded shape levels ids w can

  pub linked : (i : BlockId) → Contains ids i → target i ≢ Merge
      → All (λ (proxy : Proxy). proxy.links ≡ links_of shape (regridded_ids shape ids w) (home_of ids owner) proxy.id) (made_at shape ids target owner i)
  unfolding regridded_ids
  linked i has other =
      All-map (λ (proxy : Proxy). proxy.links ≡ links_of shape (heirs_in target ids) (home_of ids owner) proxy.id)
      (proxy_at shape (target i) (map (link_to owner) (sources_by (target i) i)) (known_links (target i) i (map (link_to owner) (sources_by (target i) i)) (near_links shape ids target owner i)))
      (heirs_by (target i) i)
      (All-from_Contains (λ p. touching shape p (known_links (target i) i (map (link_to owner) (sources_by (target i) i)) (near_links shape ids target owner i)) ≡ links_of shape (heirs_in target ids) (home_of ids owner) p)
      (heirs_by (target i) i) (λ p heir. links_made shape levels ids target is owner i p has other heir))

  -- what holds of the proxy of a merging octet holds of all that its first leaf makes
  of_merged : (P : Proxy → Type 0) (parent : BlockId) → target (child_of parent 0) ≡ Merge
      → P (proxy_at shape (target (child_of parent 0)) (map (link_to owner) (sources_by (target (child_of parent 0)) (child_of parent 0)))
      (known_links (target (child_of parent 0)) (child_of parent 0) (map (link_to owner) (sources_by (target (child_of parent 0)) (child_of parent 0))) (near_links shape ids target owner (child_of parent 0))) parent)
      → All P (made_at shape ids target owner (child_of parent 0))
  of_merged P parent merge holds =
      let i : BlockId = child_of parent 0 in
      let proxy : BlockId → Proxy =
      proxy_at shape (target i) (map (link_to owner) (sources_by (target i) i)) (known_links (target i) i (map (link_to owner) (sources_by (target i) i)) (near_links shape ids target owner i)) in
      All-map P proxy (heirs_by (target i) i)
      (All-from_Contains (λ p. P (proxy p)) (heirs_by (target i) i) (λ p heir.
      let follows : Follows Merge i p = subst (λ t. Follows t i p) merge (heirs_follow (target i) i p heir) in
      subst (λ q. P (proxy q)) (sym (follows ∙ parent_of-child parent 0)) holds))

  pub completed : (parent : BlockId) (siblings : List BlockId) → Contains ids (child_of parent 0) → target (child_of parent 0) ≡ Merge → AreOthers parent siblings
      → All (λ (proxy : Proxy). (gathered_from shape ids target owner siblings proxy).links ≡ links_of shape (regridded_ids shape ids w) (home_of ids owner) parent)
      (made_at shape ids target owner (child_of parent 0))
  unfolding regridded_ids
  completed parent siblings has merge are =
      of_merged (λ (proxy : Proxy). (gathered_from shape ids target owner siblings proxy).links ≡ links_of shape (heirs_in target ids) (home_of ids owner) parent) parent merge
      (links_gathered shape levels ids target is owner parent siblings has merge are)

  up_from : (parent i : BlockId) → Contains (children_of parent) i → parent_of i ≡ parent
  up_from parent i has = let child = Contains-child_cases parent i has in ap parent_of child.2 ∙ parent_of-child parent child.0

  all_up : (parent : BlockId) (siblings : List BlockId) → All (Contains (children_of parent)) siblings → (j : BlockId) → Contains siblings j → parent_of j ≡ parent
  all_up parent siblings all j has = up_from parent j (All-contains (Contains (children_of parent)) siblings j all has)

  pub outer_valid : (parent i : BlockId) → Contains ids (child_of parent 0) → target (child_of parent 0) ≡ Merge → Contains (children_of parent) i → AreLinks (outer_links shape ids target owner i)
  outer_valid parent i has merge child = record {
    rising = AllPairs-filter ComesBefore (λ (l : Link). touches shape (parent_of i) l.id) (near_links shape ids target owner i) (near_rises shape levels ids target is owner i);
    few = outer_few shape levels ids target is owner parent has merge i (up_from parent i child);
  }

  pub gather_few : (parent i : BlockId) (siblings : List BlockId) → Contains ids (child_of parent 0) → target (child_of parent 0) ≡ Merge
      → Contains (children_of parent) i → All (Contains (children_of parent)) siblings
      → All (λ (proxy : Proxy). length (joined (outer_links shape ids target owner i) (gathered_from shape ids target owner siblings proxy).links) ≤ 56) (made_at shape ids target owner (child_of parent 0))
  gather_few parent i siblings has merge child all =
      of_merged (λ (proxy : Proxy). length (joined (outer_links shape ids target owner i) (gathered_from shape ids target owner siblings proxy).links) ≤ 56) parent merge
      (gathering_few shape levels ids target is owner parent has merge i siblings (up_from parent i child) (all_up parent siblings all))

  pub gather_agrees : (parent i : BlockId) (siblings : List BlockId) → Contains ids (child_of parent 0) → target (child_of parent 0) ≡ Merge
      → Contains (children_of parent) i → All (Contains (children_of parent)) siblings
      → All (λ (proxy : Proxy). AgreeOnOwners (outer_links shape ids target owner i) (gathered_from shape ids target owner siblings proxy).links) (made_at shape ids target owner (child_of parent 0))
  gather_agrees parent i siblings has merge child all =
      of_merged (λ (proxy : Proxy). AgreeOnOwners (outer_links shape ids target owner i) (gathered_from shape ids target owner siblings proxy).links) parent merge
      (gathering_agrees shape levels ids target is owner parent has merge i siblings (all_up parent siblings all))

  pub few : (i : BlockId) → Contains ids i
      → All (λ q. length (touching shape q (known_links (target i) i (map (link_to owner) (sources_by (target i) i)) (near_links shape ids target owner i))) ≤ 56) (heirs_by (target i) i)
  few i has = All-from_Contains _ (heirs_by (target i) i) (λ q heir. known_few shape levels ids target is owner i q has heir)

  pub inside : (i : BlockId) → All (λ (link : Link). InShape shape link.id) (near_links shape ids target owner i)
  inside i = All-from_Contains (λ (link : Link). InShape shape link.id) (near_links shape ids target owner i) (λ link has.
      All-contains (InShape shape) (heirs_in target ids) link.id (heirs_in_shape shape levels ids target is) (near_new shape levels ids target is owner i link has).0.leaf)

  pub others : (i : BlockId) → All (λ (link : Link). Contains (heirs_by (target i) i) link.id → ⊥) (near_links shape ids target owner i)
  others i = All-from_Contains (λ (link : Link). Contains (heirs_by (target i) i) link.id → ⊥) (near_links shape ids target owner i) (λ link has heir.
      (near_new shape levels ids target is owner i link has).1 (follows_goes shape levels ids target is (target i) i link.id (heirs_follow (target i) i link.id heir)))

  pub rises : (i : BlockId) → AllPairs ComesBefore (near_links shape ids target owner i)
  rises i = near_rises shape levels ids target is owner i
