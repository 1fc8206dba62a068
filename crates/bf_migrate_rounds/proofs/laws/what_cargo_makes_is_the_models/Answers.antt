use Rattle.std.proofs.Common.{sym, ◌∙◌}
use Rattle.std.proofs.lemmas.Simd.{map-map}
use Rattle.bf_msg.specs.declared.linked_block.LinkedBlock.{LinkedBlock}
use Rattle.bf_migrate_rounds.specs.Shares.{block_after, own_new}
use Rattle.bf_migrate_rounds.proofs.BlockLemmas.{leaves_after}
use Rattle.bf_migrate_rounds.proofs.LotLemmas.{blocks_made}
use Rattle.bf_migrate_rounds.proofs.laws.what_cargo_makes_is_the_models.Goals as goal

pub returns : goal.returns
returns s = record {
  leaves = λ c time does. leaves_after c time does;
  blocks = λ c time owner later rank blocks runs does are models.
      blocks_made c time runs does owner later (own_new c time owner later rank) blocks are models
      ∙ sym (map-map (λ (o : LinkedBlock). o.block) (block_after c time owner later) (own_new c time owner later rank));
}
