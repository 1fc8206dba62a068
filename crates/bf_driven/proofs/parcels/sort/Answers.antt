use Rattle.std.proofs.Common.{rules, Bor}
use Rattle.std.proofs.lemmas.List.Sorted.{answers_always, IsPermutation-map}
use Rattle.bf_block.specs.Block.{BlockValue}
use Rattle.bf_driven.proofs.LeafLemmas.{sorted_map}
use Rattle.bf_driven.proofs.parcels.sort.Goals as goal

pub returns-clause-same : goal.returns-clause-same
returns-clause-same c =
    IsPermutation-map (λ block. block.now) c.args.blocks.now c.sort_unstable_by_key.new.self c.sort_unstable_by_key.ensures.permutation

pub returns-clause-rising : goal.returns-clause-rising
returns-clause-rising c =
    sorted_map (λ (block : Bor BlockValue). block.now) c.sort_unstable_by_key.new.self
    (c.sort_unstable_by_key.ensures.sorted (λ (block : Bor BlockValue). block.now.id) (answers_always _ _ _ (λ f a r g called. search rules)))
