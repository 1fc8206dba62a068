-- The blocks and locals of the opening, as they are made.
use Rattle.std.proofs.Common.{◌≡◌, ◌≢◌, ℕ, zero, suc, ◌+◌, ◌<◌, List, [], ◌∷◌, ◌++◌, length, map, filter, replicate, get_or, refl, sym, ap, ◌∙◌, arith, ◌⊎◌, inl, inr}
use Rattle.std.specs.Prelude.{IsTrue, ◌==◌}
use Rattle.std.specs.List.{range_with_len, zip}
use Rattle.std.proofs.Math.ListN.{set}
use Rattle.std.proofs.lemmas.Bool.{cases_eq, eq-eqb, eqb-true, false_from_ne_true}
use Rattle.std.proofs.lemmas.List.{ext_get_or, get_or-set_other, get_or-set_same, length-set}
use Rattle.std.proofs.lemmas.List.FromFn.{length-map-range_with_len, get_or-map-range_with_len}
use Rattle.bf_lemmas.proofs.Lists.{map_alike, passed_more, same_pairs, taken_more}
use Rattle.bf_buddy.specs.Members.{is_member}
use Rattle.bf_buddy.proofs.MemberLemmas.{range_has, range_within}
use Rattle.bf_id.specs.declared.shape.Shape.{Shape}
use Rattle.bf_id.specs.Shape.{root_count}
use Rattle.bf_id.specs.Id.{root_id, root_ids}
use Rattle.bf_case.specs.declared.case.Case.{Case}
use Rattle.bf_case.specs.Case.{first_rank_of, IsValid}
use Rattle.bf_block.specs.Block.{BlockValue, initial_block}
use Rattle.bf_links.specs.declared.link.Link.{Link}
use Rattle.bf_links.specs.Links.{links_of}
use Rattle.bf_links.specs.Roots.{root_owner}
use Rattle.bf_parts.specs.Leaves.{part_of}
use Rattle.bf_msg.specs.declared.linked_block.LinkedBlock.{LinkedBlock}
use Rattle.bf_forest.specs.declared.local.ForestLocal.{ForestLocal}
use Rattle.bf_forest.specs.BlockLaws.{first_linked, first_part}
use Rattle.bf_forest.specs.Meanings.{opened}
use Rattle.bf_forest.specs.ModelBlocks.{linked_at, blocks_at, first_home}
use Rattle.bf_forest.specs.Opening.{first_owners, first_parts, unfilled}

pub rank_below : (ranks rank : ℕ) → IsTrue (is_member (range_with_len 0 ranks) rank) → rank < ranks
rank_below ranks rank is_in = let below : rank < 0 + ranks = range_within 0 ranks rank is_in in omega arith

-- ranks of a run are members at the opening
pub ruleset opening_steps = (range_has, rank_below)

-- each root has an owner
pub owners_many : (c : Case) (owners : List ℕ) → owners ≡ first_owners c → length owners ≡ root_count c.roots
unfolding first_owners
owners_many c owners are = ap length are ∙ length-map-range_with_len (first_rank_of c) 0 (root_count c.roots)

-- a root as it is made is the model's, linked
pub block_made : (c : Case) (shape : Shape) (owners : List ℕ) (root : ℕ) (b : BlockValue) (links : List Link) → shape ≡ c.roots → owners ≡ first_owners c → IsValid c → root < root_count c.roots
    → b ≡ initial_block c root → links ≡ links_of shape (root_ids shape) (root_owner owners) (root_id root)
    → ◌≡◌ {A = LinkedBlock} (record { block = b; links = links }) (linked_at c 0 (first_home c) (root_id root))
block_made c shape owners root b links same are valid below made linked =
    first_linked c root b links valid below made
    (linked
    ∙ ap (λ (s : Shape). links_of s (root_ids s) (root_owner owners) (root_id root)) same
    ∙ ap (λ (os : List ℕ). links_of c.roots (root_ids c.roots) (root_owner os) (root_id root)) are)

-- each of some numbers in a list of its own place, behind those before it
abbrev pub dealt : {X : Type 0} → (f : ℕ → X) → (place : ℕ → ℕ) → (places numbers : ℕ) → List (List X)
dealt f place places numbers = map (λ p. map f (filter (λ k. place k == p) (range_with_len 0 numbers))) (range_with_len 0 places)

pub none_dealt : {X : Type 0} (f : ℕ → X) (place : ℕ → ℕ) (places : ℕ) → replicate places [] ≡ dealt f place places 0
none_dealt {X = X} f place places = from places 0
  where
    from : (n first : ℕ) → ◌≡◌ {A = List (List X)} (replicate n []) (map (λ p. []) (range_with_len first n))
    from zero first = refl
    from (suc n) first = ap (λ (rest : List (List X)). [] ∷ rest) (from n (first + 1))

-- and one more
pub one_dealt : {X : Type 0} (f : ℕ → X) (place : ℕ → ℕ) (places k : ℕ) (lists : List (List X)) (old new : List X) → place k < places → lists ≡ dealt f place places k
    → old ≡ get_or lists (place k) old → new ≡ old ++ f k ∷ [] → set lists (place k) new ≡ dealt f place places (k + 1)
one_dealt {X = X} f place places k lists old new below are at pushed =
    ext_get_or [] (set lists (place k) new) (dealt f place places (k + 1)) (length-set lists (place k) new ∙ many ∙ sym (length-map-range_with_len (part (k + 1)) 0 places)) (λ p within.
    by p (omega (arith, within, length-set lists (place k) new, many)) (cases_eq p (place k)))
  where
    part : ℕ → ℕ → List X
    part n p = map f (filter (λ i. place i == p) (range_with_len 0 n))

    many : length lists ≡ places
    many = ap length are ∙ length-map-range_with_len (part k) 0 places

    before : (p : ℕ) (d : List X) → p < places → get_or lists p d ≡ part k p
    before p d within = ap (λ (ls : List (List X)). get_or ls p d) are ∙ get_or-map-range_with_len (part k) 0 places p p d within (omega arith)

    after : (p : ℕ) → p < places → get_or (dealt f place places (k + 1)) p [] ≡ part (k + 1) p
    after p within = get_or-map-range_with_len (part (k + 1)) 0 places p p [] within (omega arith)

    by : (p : ℕ) → p < places → (p ≡ place k) ⊎ (p ≢ place k) → get_or (set lists (place k) new) p [] ≡ get_or (dealt f place places (k + 1)) p []
    by p within (inl same) =
        ap (λ n. get_or (set lists (place k) new) n []) same ∙ get_or-set_same lists (place k) new [] (omega (arith, many, below))
        ∙ taken_more f (λ i. place i == p) k (f k) old new (at ∙ before (place k) old below ∙ ap (part k) (sym same)) (eq-eqb (place k) p (sym same)) refl pushed
        ∙ sym (after p within)
    by p within (inr other) =
        get_or-set_other lists (place k) p new [] other ∙ before p [] within
        ∙ passed_more f (λ i. place i == p) k (part k p) (part k p) refl (false_from_ne_true (place k == p) (λ t. other (sym (eqb-true (place k) p t)))) refl
        ∙ sym (after p within)

-- the first so many roots, each at the rank where it begins
abbrev pub parts_below : Case → (roots : ℕ) → List (List LinkedBlock)
parts_below c roots = dealt (λ root. linked_at c 0 (first_home c) (root_id root)) (first_rank_of c) c.ranks roots

pub parts_whole : (c : Case) → parts_below c (root_count c.roots) ≡ first_parts c
unfolding first_parts
parts_whole c =
    map_alike (λ rank. map (λ root. linked_at c 0 (first_home c) (root_id root)) (filter (λ root. first_rank_of c root == rank) (range_with_len 0 (root_count c.roots))))
    (part_of (blocks_at c 0) (first_home c)) (range_with_len 0 c.ranks) (first_part c)

-- the part that a rank's place has
pub part_at : (c : Case) (parts : List (List LinkedBlock)) (rank : ℕ) (d : List LinkedBlock) → parts ≡ first_parts c → rank < c.ranks
    → (rank < length parts) × (get_or parts rank d ≡ part_of (blocks_at c 0) (first_home c) rank)
unfolding first_parts
part_at c parts rank d are below = (
  omega (arith, ap length are, length-map-range_with_len (part_of (blocks_at c 0) (first_home c)) 0 c.ranks, below),
  ap (λ (l : List (List LinkedBlock)). get_or l rank d) are ∙ get_or-map-range_with_len (part_of (blocks_at c 0) (first_home c)) 0 c.ranks rank rank d below (omega arith),
)

-- a local with the blocks beside it
abbrev pub with_blocks : ForestLocal × List LinkedBlock → ForestLocal
with_blocks p = record p.0 { blocks = p.1 }

-- the locals without blocks, each with its blocks, are the locals of the opening
filled_by : (c : Case) (ranks : List ℕ) → map with_blocks (zip (map (unfilled c) ranks) (map (part_of (blocks_at c 0) (first_home c)) ranks)) ≡ map (opened c) ranks
unfolding opened
filled_by c [] = refl
filled_by c (rank ∷ ranks) = ap (λ l. opened c rank ∷ l) (filled_by c ranks)

pub all_filled : (c : Case) (bare_locals : List ForestLocal) (parts : List (List LinkedBlock)) (pairs : List (ForestLocal × List LinkedBlock))
    → bare_locals ≡ map (unfilled c) (range_with_len 0 c.ranks) → parts ≡ first_parts c
    → map (λ p. (p.0, p.1)) pairs ≡ zip bare_locals parts → map with_blocks pairs ≡ map (opened c) (range_with_len 0 c.ranks)
unfolding first_parts
all_filled c bare_locals parts pairs are begin walked =
    ap (map with_blocks) (sym (same_pairs pairs) ∙ walked ∙ ap (λ l. zip l parts) are ∙ ap (zip (map (unfilled c) (range_with_len 0 c.ranks))) begin)
    ∙ filled_by c (range_with_len 0 c.ranks)
