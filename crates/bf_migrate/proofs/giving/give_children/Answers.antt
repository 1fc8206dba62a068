use Rattle.std.proofs.Common.{rules, ◌≡◌, ◌∙◌, [], ◌∷◌, ◌++◌, Contains, ap, sym, subst}
use Rattle.std.proofs.lemmas.Iterator.Adapters.{YieldsList-from_vec}
use Rattle.std.proofs.lemmas.Iterator.Consumers.{YieldsList-turn}
use Rattle.bf_block.specs.declared.cargo.Cargo.TheVariants.{Whole}
use Rattle.bf_block.specs.Block.{BlockValue}
use Rattle.bf_migrate.specs.Targets.{ids_in}
use Rattle.bf_migrate.proofs.GivingLemmas.{one_more_child}
use Rattle.bf_migrate.proofs.giving.give_children.Goals as goal

pub loop-child-preserved : goal.loop-child-preserved
loop-child-preserved c = λ rank ranked.
    let pushed : c.push.new.self.items ≡ c.loop-child.cargo.items ++ (c.in-Some-rank_of.rank, Whole c.in-Some.child) ∷ [] = search rules in
    one_more_child rank c.args.cargo.now.items c.loop-child.cargo.items c.push.new.self.items c.loop-child.yielded c.in-Some.child c.id.result c.in-Some-rank_of.rank
    (c.loop-child.invariant rank ranked) pushed (c.in-Some-rank_of.ensures.rank rank ranked) c.id.ensures

pub unreachable-requires : goal.unreachable-requires
unreachable-requires c =
    let gives = c.into_iter-child-iterator.ensures.into_iter_gives in
    let road = YieldsList-from_vec c.args.children.items gives.0 (gives.1 ∙ c.args.children.ok.0) in
    let turn = YieldsList-turn road c.loop-child.yielded c.loop-child.child-iterator c.loop-child.yielded_by c.next.result c.next.new.self c.in-Some.child c.in-Some.is c.next.ensures.steps in
    c.in-None-rank_of.ensures.none (subst (Contains (ids_in c.args.targets.now)) (sym (c.id.ensures ∙ ap (λ (b : BlockValue). b.id) turn.1)) (c.requires.all _ _ turn.0))
