use Rattle.std.proofs.Common.{◌∙◌, ◌++◌, ap}
use Rattle.std.proofs.lemmas.Result.{on_ok_weaker}
use Rattle.bf_migrate.proofs.GivingLemmas.{children_given, children_told}
use Rattle.bf_migrate.proofs.giving.give_refined.Goals as goal

pub give_children-requires-clause-all : goal.give_children-requires-clause-all
give_children-requires-clause-all c =
    children_told c.args.block c.args.targets.now c.in-Ok.children.items c.requires.told c.in-Ok.ensures.blocks c.requires.refined

pub returns-in-Ok : goal.returns-in-Ok
returns-in-Ok c = λ rank ranked.
    on_ok_weaker c.give_children.result (λ given. given ∙ ap (λ xs. c.args.cargo.now.items ++ xs) (children_given rank c.args.block c.in-Ok.children.items c.in-Ok.ensures.blocks c.requires.refined))
    (c.give_children.ensures rank ranked)
