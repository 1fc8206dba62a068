use Rattle.std.proofs.Common.{◌∙◌, All, List, length, sym, subst}
use Rattle.std.proofs.lemmas.Iterator.Adapters.{YieldsList-from_vec}
use Rattle.std.proofs.lemmas.Iterator.Consumers.{YieldsList-turn}
use Rattle.bf_block.specs.Block.{BlockValue, IsModels}
use Rattle.bf_migrate.proofs.GivingLemmas.{one_more_block}
use Rattle.bf_migrate.proofs.TargetLemmas.{told}
use Rattle.bf_migrate.proofs.giving.outgoing.Goals as goal

pub give-requires : goal.give-requires
give-requires c =
    let blocks = c.args.blocks.items in
    let gives = c.into_iter-block-iterator.ensures.into_iter_gives in
    let road = YieldsList-from_vec blocks gives.0 (gives.1 ∙ c.args.blocks.ok.0) in
    let turn = YieldsList-turn road c.loop-block.yielded c.loop-block.block-iterator c.loop-block.yielded_by c.next.result c.next.new.self c.in-Some.block c.in-Some.is c.next.ensures.steps in
    let models : All IsModels blocks = subst (λ (bs : List BlockValue). All IsModels bs) c.as_slice.ensures.value c.all_known.ensures in
    told c.requires.before.0 c.requires.before.1.0 c.requires.targets.0 blocks c.args.targets.now c.requires.before.1.1 models c.requires.targets.1 c.in-Some.block
    (length c.loop-block.yielded, turn.0, sym turn.1)

pub loop-block-preserved : goal.loop-block-preserved
loop-block-preserved c = λ rank ranked.
    one_more_block rank c.loop-block.cargo.items c.give.new.cargo.items c.loop-block.yielded c.in-Some.block (c.loop-block.invariant rank ranked) (c.in_ok-give.ensures rank ranked)
