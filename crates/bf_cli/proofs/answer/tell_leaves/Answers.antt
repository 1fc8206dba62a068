use Rattle.std.proofs.Common.{inl, refl, subst, map, sym}
use Rattle.std.specs.Prelude.{IsPermutation}
use Rattle.std.specs.Borrow.{Bor}
use Rattle.bf_block.specs.Block.{BlockValue, leaf_of}
use Rattle.bf_case.specs.MapText.{map_text}
use Rattle.bf_driven.specs.Parcels.{blocks_of, RiseById}
use Rattle.bf_cli.specs.declared.status.Status.TheVariants as status
use Rattle.bf_cli.proofs.DrivenLemmas.{finished_text}
use Rattle.bf_cli.proofs.answer.tell_leaves.Goals as goal

pub returns-in-Ok : goal.returns-in-Ok
returns-in-Ok g c =
    let world = c.args.world.now in
    let leaves = c.as_slice.result.now in
    let block_of : Bor BlockValue → BlockValue = λ block. block.now in
    let same = subst (λ l. IsPermutation (blocks_of world.parcels) (map block_of l)) (sym c.as_slice.ensures.value)
    (subst (λ l. IsPermutation (blocks_of l) (map block_of c.in-Ok.found.items)) c.parcels.ensures c.in-Ok.ensures.same) in
    let rising = subst (λ l. RiseById (map block_of l)) (sym c.as_slice.ensures.value) c.in-Ok.ensures.rising in
    let text = finished_text block_of world leaves c.a_finished_run_has_the_leaves.ensures c.leaves_in_order_are_the_map.ensures c.known.ensures c.requires.finished same rising in (
      status.Ok,
      (map_text (map (λ (block : Bor BlockValue). leaf_of block.now) leaves), (inl (refl, text), c.tell_map.ensures)),
    )
