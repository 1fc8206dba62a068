-- Lots at the front of cargo, and the blocks that they make.
use Rattle.std.proofs.Common.{◌≡◌, ℕ, suc, ◌+◌, ◌<◌, ◌∙◌, List, [], ◌∷◌, ◌++◌, map, take, drop, length, get_or, refl, sym, ap, subst, arith}
use Rattle.std.proofs.Math.Seq.{drop-cons}
use Rattle.std.proofs.lemmas.List.{length-map, take_more}
use Rattle.std.proofs.lemmas.List.FromFn.{length-map-range_with_len}
use Rattle.bf_id.specs.Id.{BlockId, child_of}
use Rattle.bf_case.specs.declared.case.Case.{Case}
use Rattle.bf_block.specs.declared.cargo.Cargo.{Cargo}
use Rattle.bf_block.specs.declared.cargo.Cargo.TheVariants.{Whole, Piece}
use Rattle.bf_block.specs.Block.{BlockValue}
use Rattle.bf_block.specs.Eighth.{EighthValue, AreOctet, merged_block}
use Rattle.bf_proxy.specs.declared.proxy.Proxy.{Proxy}
use Rattle.bf_migrate.specs.Lots.{Lot, Ready, Octet, cargo_in, IsBlockAt, IsLotOf, AreLots, AreBlocksOf}

-- the next of some eighths at the front
pub eighth_next : (more : List EighthValue) (k : ℕ) (d : EighthValue) (rest cargo : List Cargo) → k < length more → cargo ≡ map Piece (drop k more) ++ rest
    → cargo ≡ Piece (get_or more k d) ∷ (map Piece (drop (k + 1) more) ++ rest)
eighth_next more k d rest cargo below is =
    let next : suc k ≡ k + 1 = omega arith in
    is ∙ ap (λ es. map Piece es ++ rest) (drop-cons more k d below ∙ ap (λ n. get_or more k d ∷ drop n more) next)

-- one more of them taken
pub eighth_taken : (first : EighthValue) (more parts new : List EighthValue) (k : ℕ) (e : EighthValue) → k < length more → parts ≡ first ∷ take k more
    → e ≡ get_or more k first → new ≡ parts ++ e ∷ [] → new ≡ first ∷ take (k + 1) more
eighth_taken first more parts new k e below so_far is pushed =
    pushed ∙ ap (λ x. parts ++ x ∷ []) is ∙ ap (λ es. es ++ get_or more k first ∷ []) so_far ∙ ap (λ es. first ∷ es) (sym (take_more more k first below))

eight_parts : (c : Case) (time : ℕ) (q : BlockId) (parts : List EighthValue) → AreOctet c time q parts → length parts ≡ 8
eight_parts c time q parts octet = sym (length-map parts (λ (e : EighthValue). e.id)) ∙ ap length octet.ids ∙ length-map-range_with_len (child_of q) 0 8

-- a whole block at the front is the lot
pub whole_front : (c : Case) (time : ℕ) (q : BlockId) (lot : Lot) (rest new cargo : List Cargo) (b : BlockValue) → IsLotOf c time q lot → cargo ≡ cargo_in lot ++ rest
    → cargo ≡ Whole b ∷ new → IsBlockAt c time q b × (new ≡ rest)
whole_front c time q (Ready x) rest new cargo b is front found =
    let both : Whole x ∷ rest ≡ Whole b ∷ new = sym front ∙ found in
    let same : x ≡ b = cc in
    (subst (IsBlockAt c time q) same is, cc)
whole_front c time q (Octet []) rest new cargo b is front found = absurd (let long = eight_parts c time q [] is in omega arith)
whole_front c time q (Octet (e ∷ more)) rest new cargo b is front found =
    let both : Piece e ∷ (map Piece more ++ rest) ≡ Whole b ∷ new = sym front ∙ found in
    absurd cc

-- the eighths of a lot whose first is at the front
pub record IsOctetFront (c : Case) (time : ℕ) (q : BlockId) (e : EighthValue) (rest new : List Cargo) : Type 0 where
  pub more : List EighthValue
  pub seven : length more ≡ 7
  pub left : new ≡ map Piece more ++ rest
  pub octet : AreOctet c time q (e ∷ more)

pub piece_front : (c : Case) (time : ℕ) (q : BlockId) (lot : Lot) (rest new cargo : List Cargo) (e : EighthValue) → IsLotOf c time q lot → cargo ≡ cargo_in lot ++ rest
    → cargo ≡ Piece e ∷ new → IsOctetFront c time q e rest new
piece_front c time q (Ready x) rest new cargo e is front found =
    let both : Whole x ∷ rest ≡ Piece e ∷ new = sym front ∙ found in
    absurd cc
piece_front c time q (Octet []) rest new cargo e is front found = absurd (let long = eight_parts c time q [] is in omega arith)
piece_front c time q (Octet (x ∷ more)) rest new cargo e is front found =
    let both : Piece x ∷ (map Piece more ++ rest) ≡ Piece e ∷ new = sym front ∙ found in
    let same : x ≡ e = cc in
    let left : map Piece more ++ rest ≡ new = cc in
    let long : length (x ∷ more) ≡ 8 = eight_parts c time q (x ∷ more) is in
    record { more = more; seven = omega arith; left = sym left; octet = subst (λ y. AreOctet c time q (y ∷ more)) same is }

pub merged_at : (c : Case) (time : ℕ) (q : BlockId) (parts : List EighthValue) (b : BlockValue) → b ≡ merged_block c time q parts → IsBlockAt c time q b
merged_at c time q parts b is = record { case = ap (λ (x : BlockValue). x.case) is; point = ap (λ (x : BlockValue). x.point) is; id = ap (λ (x : BlockValue). x.id) is }

-- ---- lot by lot

pub lots_next : (c : Case) (time : ℕ) (proxies : List Proxy) (k : ℕ) (d : Proxy) (cargo : List Cargo) → k < length proxies → AreLots c time (drop k proxies) cargo
    → (lot : Lot) × ((rest : List Cargo) × ((cargo ≡ cargo_in lot ++ rest) × (IsLotOf c time (get_or proxies k d).id lot × AreLots c time (drop (k + 1) proxies) rest)))
lots_next c time proxies k d cargo below lots =
    let next : suc k ≡ k + 1 = omega arith in
    subst (λ (ps : List Proxy). AreLots c time ps cargo) (drop-cons proxies k d below ∙ ap (λ n. get_or proxies k d ∷ drop n proxies) next) lots

one_more : (c : Case) (time : ℕ) (ps : List Proxy) (p : Proxy) (blocks : List BlockValue) (b : BlockValue) → AreBlocksOf c time ps blocks → IsBlockAt c time p.id b
    → AreBlocksOf c time (ps ++ p ∷ []) (blocks ++ b ∷ [])
one_more c time [] p blocks b none is = (b, ([], (ap (λ bs. bs ++ b ∷ []) none, (is, refl))))
one_more c time (q ∷ ps) p blocks b (x, (rest, (e, (first, later)))) is =
    (x, (rest ++ b ∷ [], (ap (λ bs. bs ++ b ∷ []) e, (first, one_more c time ps p rest b later is))))

pub blocks_next : (c : Case) (time : ℕ) (proxies : List Proxy) (k : ℕ) (d : Proxy) (blocks new : List BlockValue) (b : BlockValue) → k < length proxies
    → AreBlocksOf c time (take k proxies) blocks → IsBlockAt c time (get_or proxies k d).id b → new ≡ blocks ++ b ∷ [] → AreBlocksOf c time (take (k + 1) proxies) new
blocks_next c time proxies k d blocks new b below so_far is pushed =
    subst (λ (ps : List Proxy). AreBlocksOf c time ps new) (sym (take_more proxies k d below))
    (subst (AreBlocksOf c time (take k proxies ++ get_or proxies k d ∷ [])) (sym pushed) (one_more c time (take k proxies) (get_or proxies k d) blocks b so_far is))
