-- The proxies of one leaf, made one after another.
use Rattle.std.proofs.Common.{◌≡◌, ℕ, ◌+◌, ◌<◌, List, [], ◌∷◌, ◌++◌, ◌⊎◌, inl, inr, All, Contains, get_or, length, map, take, refl, sym, ap, ◌∙◌, subst}
use Rattle.std.proofs.Math.Seq.{take-length}
use Rattle.std.proofs.lemmas.List.{append-nil, map-append, take_more}
use Rattle.bf_lemmas.proofs.Lists.{All-from_Contains, map_twice}
use Rattle.std.proofs.lemmas.List.Elements.{All-contains, All-map}
use Rattle.bf_id.specs.declared.shape.Shape.{Shape}
use Rattle.bf_id.specs.Shape.{root_count}
use Rattle.bf_id.specs.Id.{BlockId, InShape, Touch, touches}
use Rattle.bf_id.proofs.Tilings.{Contains-one_cases}
use Rattle.bf_case.proofs.HeirLemmas.{Follows, comes_of}
use Rattle.bf_case.proofs.ListLemmas.{Contains-map_cases}
use Rattle.bf_case.specs.declared.target.Target.{Target}
use Rattle.bf_case.specs.declared.target.Target.TheVariants.{Keep, Refine, Merge}
use Rattle.bf_case.specs.Regrid.{heirs_by}
use Rattle.bf_case.proofs.TestLemmas.{Contains-filter, Contains-filter_cases, touches_decides}
use Rattle.bf_links.specs.Links.{link_to, touching}
use Rattle.bf_links.specs.declared.link.Link.{Link}
use Rattle.bf_proxy.specs.declared.proxy.Proxy.{Proxy}
use Rattle.bf_proxy.specs.Joined.{joined, AgreeOnOwners}
use Rattle.bf_proxy.specs.Proxies.{first_rank, known_links, made_links, proxies_of, proxy_at, IsLinked}
use Rattle.bf_proxy.proofs.JoinLemmas.{joined_both, joined_cases}

-- ---- which proxies are made

pub heirs_follow : (t : Target) (i q : BlockId) → Contains (heirs_by t i) q → Follows t i q
heirs_follow t i q has =
    let from = comes_of (i ∷ []) (λ _. t) q (subst (λ qs. Contains qs q) (sym (append-nil (heirs_by t i))) has) in
    subst (λ j. Follows t j q) (Contains-one_cases i from.0 from.1.0) from.1.1

follows_root : (t : Target) (i q : BlockId) → Follows t i q → q.root ≡ i.root
follows_root Keep i q same = ap (λ (j : BlockId). j.root) same
follows_root Refine i q (octant, small, child) = ap (λ (j : BlockId). j.root) child
follows_root Merge i q parent = ap (λ (j : BlockId). j.root) parent

-- what comes of a leaf lies in its root
pub heirs_inside : (shape : Shape) (t : Target) (i q : BlockId) → InShape shape i → Contains (heirs_by t i) q → InShape shape q
heirs_inside shape t i q inside has = subst (λ r. r < root_count shape) (sym (follows_root t i q (heirs_follow t i q has))) inside

pub made_link : (rank : ℕ) (t : Target) (i : BlockId) (link : Link) → Contains (made_links rank t i) link → Contains (heirs_by t i) link.id × (link.owner ≡ rank)
made_link rank t i link has =
    let of = Contains-map_cases (link_to (λ _. rank)) (heirs_by t i) link has in
    (subst (Contains (heirs_by t i)) (sym (ap (λ (l : Link). l.id) of.2)) of.1, ap (λ (l : Link). l.owner) of.2)

pub known_inside : (shape : Shape) (rank : ℕ) (t : Target) (i : BlockId) (near : List Link) → InShape shape i → All (λ (link : Link). InShape shape link.id) near
    → All (λ (link : Link). InShape shape link.id) (joined (made_links rank t i) near)
known_inside shape rank t i near inside all =
    All-from_Contains (λ (link : Link). InShape shape link.id) (joined (made_links rank t i) near) (λ link has. by link (joined_cases (made_links rank t i) near link has))
  where
    by : (link : Link) → Contains (made_links rank t i) link ⊎ Contains near link → InShape shape link.id
    by link (inl made) = heirs_inside shape t i link.id inside (made_link rank t i link made).0
    by link (inr other) = All-contains (λ (l : Link). InShape shape l.id) near link all other

-- ---- one after another

pub one_made : (f : Link → Proxy) (made : List Link) (k : ℕ) (link : Link) (old new : List Proxy) (proxy : Proxy) → k < length made → link ≡ get_or made k link
    → new ≡ old ++ proxy ∷ [] → proxy ≡ f link → old ≡ map f (take k made) → new ≡ map f (take (k + 1) made)
one_made f made k link old new proxy below is pushed value so_far =
    pushed ∙ ap (λ ps. ps ++ proxy ∷ []) so_far ∙ ap (λ p. map f (take k made) ++ p ∷ []) (value ∙ ap f is)
    ∙ sym (map-append f (take k made) (get_or made k link ∷ []))
    ∙ ap (map f) (sym (take_more made k link below))

pub all_made : (shape : Shape) (t : Target) (sources known made : List Link) (rank k : ℕ) (i : BlockId) → k ≡ length made → made ≡ made_links rank t i
    → map (λ (link : Link). proxy_at shape t sources known link.id) (take k made) ≡ map (proxy_at shape t sources known) (heirs_by t i)
all_made shape t sources known made rank k i all is =
    ap (map (λ (link : Link). proxy_at shape t sources known link.id)) (ap (λ n. take n made) all ∙ take-length made ∙ is)
    ∙ map_twice (λ (link : Link). proxy_at shape t sources known link.id) (link_to (λ _. rank)) (proxy_at shape t sources known) (λ q. refl) (heirs_by t i)

-- ---- their links

pub proxies_linked : (shape : Shape) (i : BlockId) (t : Target) (sources near : List Link) → All (λ (link : Link). Contains (heirs_by t i) link.id → ⊥) near
    → All (IsLinked shape near (made_links (first_rank sources) t i)) (proxies_of shape i t sources near)
proxies_linked shape i t sources near others =
    All-map (IsLinked shape near made) (proxy_at shape t sources known) (heirs_by t i)
    (All-from_Contains (λ q. IsLinked shape near made (proxy_at shape t sources known q)) (heirs_by t i) (λ q has link. (there q link, back q link)))
  where
    made : List Link
    made = made_links (first_rank sources) t i

    known : List Link
    known = known_links t i sources near

    alike : AgreeOnOwners made made
    alike x y has_x has_y same = (made_link (first_rank sources) t i x has_x).1 ∙ sym (made_link (first_rank sources) t i y has_y).1

    agree : AgreeOnOwners made near
    agree x y has_x has_y same =
        absurd (All-contains (λ (link : Link). Contains (heirs_by t i) link.id → ⊥) near y others has_y (subst (Contains (heirs_by t i)) same (made_link (first_rank sources) t i x has_x).0))

    there : (q : BlockId) (link : Link) → Contains (touching shape q known) link → Touch shape q link.id × (Contains near link ⊎ Contains made link)
    there q link has =
        let kept = Contains-filter_cases (λ (l : Link). touches shape q l.id) known link has in
        ((touches_decides shape q link.id).0 kept.1, (joined_both made near alike agree link).0 kept.0)

    back : (q : BlockId) (link : Link) → Touch shape q link.id × (Contains near link ⊎ Contains made link) → Contains (touching shape q known) link
    back q link (touch, either) =
        Contains-filter (λ (l : Link). touches shape q l.id) known link ((joined_both made near alike agree link).1 either) ((touches_decides shape q link.id).1 touch)
