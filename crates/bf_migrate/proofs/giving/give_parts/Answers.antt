use Rattle.std.proofs.Common.{rules, ◌≡◌, ◌<◌, ◌∙◌, [], ◌∷◌, ◌++◌, Contains, ap, subst}
use Rattle.bf_id.specs.Id.{BlockId, level_of, parent_of}
use Rattle.bf_block.specs.declared.cargo.Cargo.TheVariants.{Piece}
use Rattle.bf_case.specs.declared.target.Target.TheVariants.{Merge}
use Rattle.bf_migrate.specs.Giving.{target_of_block}
use Rattle.bf_migrate.specs.Targets.{ids_in}
use Rattle.bf_migrate.proofs.GivingLemmas.{eighth_given, must_refine}
use Rattle.bf_migrate.proofs.giving.give_parts.Goals as goal

pub give_refined-requires-clause-refined : goal.give_refined-requires-clause-refined
give_refined-requires-clause-refined c =
    let targets = c.args.targets.now in
    must_refine c.args.block targets c.requires.told c.requires.leaves
    (subst (λ (i : BlockId). 0 < level_of i → Contains (ids_in targets) (parent_of i) → ⊥) c.id.ensures c.in-None.ensures.none)

pub returns-in_ok-push-in-Some : goal.returns-in_ok-push-in-Some
returns-in_ok-push-in-Some c = λ rank ranked.
    let targets = c.args.targets.now in
    let pushed : c.push.new.self.items ≡ c.args.cargo.now.items ++ (c.in-Some.rank, Piece c.in_ok-eighth-in-Some.field-0) ∷ [] = search rules in
    let merges : target_of_block c.args.block ≡ Merge = c.requires.told.merges (subst (λ (i : BlockId). 0 < level_of i) c.id.ensures c.in-Some.ensures.above)
    (subst (λ (i : BlockId). Contains (ids_in targets) (parent_of i)) c.id.ensures c.in-Some.ensures.some) in
    pushed ∙ ap (λ xs. c.args.cargo.now.items ++ xs)
    (eighth_given rank c.args.block c.in_ok-eighth-in-Some.field-0 c.id.result c.in-Some.rank c.id.ensures (c.in-Some.ensures.rank rank ranked) c.in_ok-eighth-in-Some.ensures merges)
