use Rattle.std.proofs.Common.{rules, ◌≡◌, List, [], ◌∷◌, ℕ, sym, subst}
use Rattle.bf_id.specs.Id.{BlockId}
use Rattle.bf_msg.specs.declared.linked_block.LinkedBlock.{LinkedBlock}
use Rattle.bf_migrate_rounds.specs.Calls.{CanPack}
use Rattle.bf_migrate_rounds.proofs.TestLemmas.{can_pack_kept}
use Rattle.bf_migrate_rounds.proofs.tests.packed.Goals as goal

pub pack-requires : goal.pack-requires
pack-requires g c =
    let b = c.args.block in
    let linked : LinkedBlock = record { block = b; links = c.in_ok-links.links } in
    let targets : c.as_slice-2.result.now ≡ (b.id, 1) ∷ [] = search rules in
    let blocks : c.of-blocks.result ≡ linked ∷ [] = search rules in
    subst (λ (ts : List (BlockId × ℕ)). CanPack ts c.of-blocks.result) (sym targets)
    (subst (λ (os : List LinkedBlock). CanPack ((b.id, 1) ∷ []) os) (sym blocks) (can_pack_kept b c.requires.point c.requires.kept c.in_ok-links.links 1))
