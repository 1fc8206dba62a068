-- The proxies that come of one leaf.
use Rattle.std.specs.Prelude.{◌≡◌, ◌↔◌, ◌⊎◌, ℕ, List, [], ◌∷◌, Contains, map}
use Rattle.bf_id.specs.declared.shape.Shape.{Shape}
use Rattle.bf_id.specs.Id.{BlockId, Touch, parent_of, children_of}
use Rattle.bf_case.specs.declared.target.Target.{Target}
use Rattle.bf_case.specs.declared.target.Target.TheVariants.{Keep, Refine, Merge}
use Rattle.bf_case.specs.Regrid.{heirs_by}
use Rattle.bf_links.specs.Links.{link_to, touching}
use Rattle.bf_links.specs.declared.link.Link.{Link}
use Rattle.bf_proxy.specs.declared.proxy.Proxy.{Proxy}
use Rattle.bf_proxy.specs.Joined.{joined}

-- the leaves that go where a leaf goes: it alone, or its octet, by octant, where that merges
abbrev pub sources_by : Target → BlockId → List BlockId
sources_by Keep i = i ∷ []
sources_by Refine i = i ∷ []
sources_by Merge i = children_of (parent_of i)

-- they are those, each with a rank
abbrev pub AreSources : Target → BlockId → List Link → Type 0
AreSources target i sources = map (λ (source : Link). source.id) sources ≡ sources_by target i

-- the rank of the first source, where the proxies are made
abbrev pub first_rank : List Link → ℕ
first_rank [] = 0
first_rank (source ∷ sources) = source.owner

-- links to the proxies that come of a leaf, as they are at the rank that makes them
abbrev pub made_links : ℕ → Target → BlockId → List Link
made_links rank target i = map (link_to (λ _. rank)) (heirs_by target i)

-- all links among which those of the proxies made are: to the proxies made, and to those near them
abbrev pub known_links : Target → BlockId → (sources near : List Link) → List Link
known_links target i sources near = joined (made_links (first_rank sources) target i) near

-- a proxy, linked with those of the known ones that touch it
abbrev pub proxy_at : Shape → Target → (sources known : List Link) → BlockId → Proxy
proxy_at shape target sources known q = record { id = q; origin = target; sources = sources; links = touching shape q known }

-- the proxies that come of a leaf, by rising id
abbrev pub proxies_of : Shape → BlockId → Target → (sources near : List Link) → List Proxy
proxies_of shape i target sources near = map (proxy_at shape target sources (known_links target i sources near)) (heirs_by target i)

-- a proxy is linked with exactly those of some near ones and of those made beside it that touch it
abbrev pub IsLinked : Shape → (near made : List Link) → Proxy → Type 0
IsLinked shape near made proxy = (link : Link) → Contains proxy.links link ↔ (Touch shape proxy.id link.id × (Contains near link ⊎ Contains made link))

-- a proxy of which the octet's further links are known too
abbrev pub gathered : List Link → Proxy → Proxy
gathered more proxy = record proxy { links = joined more proxy.links }
