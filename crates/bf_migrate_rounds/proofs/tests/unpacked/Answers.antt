use Rattle.std.proofs.Common.{rules, ◌≡◌, ℕ, List, [], ◌∷◌, ◌++◌, ◌∙◌, refl, sym, ap, subst}
use Rattle.bf_id.specs.Id.{root_id}
use Rattle.bf_case.specs.declared.target.Target.TheVariants.{Keep}
use Rattle.bf_block.specs.Block.{kept_block}
use Rattle.bf_block.specs.declared.cargo.Cargo.{Cargo}
use Rattle.bf_block.specs.declared.cargo.Cargo.TheVariants.{Whole}
use Rattle.bf_proxy.specs.declared.proxy.Proxy.{Proxy}
use Rattle.bf_migrate_rounds.specs.Calls.{CanUnpack}
use Rattle.bf_migrate_rounds.specs.Holdings.{loads}
use Rattle.bf_migrate_rounds.specs.Plays.{cargo_for, cargo_without}
use Rattle.bf_migrate_rounds.proofs.TestLemmas.{can_unpack_kept}
use Rattle.bf_migrate_rounds.proofs.tests.unpacked.Goals as goal

pub unpack-requires : goal.unpack-requires
unpack-requires g c =
    let b = c.args.block in
    let proxy : Proxy = record {
      id = root_id 0;
      origin = Keep;
      sources = record { id = root_id 0; owner = 0 } ∷ [];
      links = record { id = root_id 0; owner = 3 } ∷ [];
    } in
    let sent : List (ℕ × Cargo) = (1, Whole (kept_block b)) ∷ [] in
    let packed : c.in_ok-cargo.cargo ≡ sent = search rules in
    let first : c.take_for.new.cargo ≡ cargo_without 0 c.in_ok-cargo.cargo = search rules in
    let left : c.take_for-2.new.cargo ≡ cargo_without 1 c.take_for.new.cargo = search rules in
    let taken : c.in_ok-arrived-2.arrived ≡ cargo_for 1 c.take_for.new.cargo = search rules in
    let proxies : c.in_ok-proxies.field-0 ≡ proxy ∷ [] = search rules in
    let on_hand : loads c.take_for-2.new.cargo ++ c.in_ok-arrived-2.arrived ≡ Whole (kept_block b) ∷ [] =
    ap (λ (xs : List (ℕ × Cargo)). loads xs ++ c.in_ok-arrived-2.arrived) left
    ∙ ap (λ xs. loads (cargo_without 1 c.take_for.new.cargo) ++ xs) taken
    ∙ ap (λ (xs : List (ℕ × Cargo)). loads (cargo_without 1 xs) ++ cargo_for 1 xs) (first ∙ ap (cargo_without 0) packed) in
    subst (λ (ps : List Proxy). CanUnpack ps (loads c.take_for-2.new.cargo ++ c.in_ok-arrived-2.arrived)) (sym proxies)
    (subst (λ (xs : List Cargo). CanUnpack (proxy ∷ []) xs) (sym on_hand)
    (can_unpack_kept b c.requires.point c.requires.kept proxy (sym c.requires.id) refl))
