use Rattle.std.proofs.Common.{rules}
use Rattle.std.proofs.lemmas.List.Sorted.{answers_always}
use Rattle.bf_links.proofs.SearchLemmas.{searched}
use Rattle.bf_msg.specs.declared.linked_block.LinkedBlock.{LinkedBlock}
use Rattle.bf_forest.proofs.strips.place_of.Goals as goal

pub returns : goal.returns
returns c =
    let facts = c.binary_search_by_key.ensures in
    let by_key = facts.position (λ (b : LinkedBlock). b.block.id) (answers_always _ _ _ (λ f a r g called. search rules)) in
    searched (λ (b : LinkedBlock). b.block.id) c.args.blocks.now c.args.id c.binary_search_by_key.result c.requires facts.bound by_key
