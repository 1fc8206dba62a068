-- Looking for a proxy among targets by rising id.
use Rattle.std.proofs.Common.{◌≡◌, ℕ, ◌<◌, List, ◌∙◌, Contains, length, get_or, sym, ap, subst}
use Rattle.std.proofs.lemmas.List.Elements.{Contains-get_or}
use Rattle.bf_id.specs.Id.{BlockId}
use Rattle.bf_case.proofs.ListLemmas.{Contains-map, Contains-map_cases}
use Rattle.bf_migrate.specs.Targets.{ids_in, AreRanked}

abbrev pub Target : Type 0
Target = BlockId × ℕ

-- the target of a proxy stands here
abbrev pub StandsAt : List Target → BlockId → ℕ → Type 0
StandsAt targets q k = (k < length targets) × ((d : Target) → (get_or targets k d).0 ≡ q)

pub found_in : (targets : List Target) (q : BlockId) (k : ℕ) (d : Target) → StandsAt targets q k → Contains (ids_in targets) q
found_in targets q k d at = subst (Contains (ids_in targets)) (at.1 d) (Contains-map (λ (t : Target). t.0) targets (get_or targets k d) (Contains-get_or targets k d at.0))

pub rank_at : (targets : List Target) (q : BlockId) (k : ℕ) (d : Target) (rank : BlockId → ℕ) → StandsAt targets q k → AreRanked rank targets → (get_or targets k d).1 ≡ rank q
rank_at targets q k d rank at ranked = ranked k d at.0 ∙ ap rank (at.1 d)

pub not_in : (targets : List Target) (q : BlockId) → ((k : ℕ) (d : Target) → k < length targets → (get_or targets k d).0 ≡ q → ⊥) → Contains (ids_in targets) q → ⊥
not_in targets q none has =
    let from = Contains-map_cases (λ (t : Target). t.0) targets q has in
    let place = from.1 in
    none place.0 from.0 place.1 (ap (λ (t : Target). t.0) place.2 ∙ sym from.2)
