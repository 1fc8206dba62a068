use Rattle.std.proofs.Common.{◌≡◌, ◌∙◌, Some, ap, sym, subst}
use Rattle.bf_case.specs.declared.case.Case.{Case}
use Rattle.bf_block.specs.Block.{leaf_of, map_at}
use Rattle.bf_ghost.specs.Filling.{IsStripFor}
use Rattle.bf_ghost.specs.Telling.{strip_between}
use Rattle.bf_ghost.proofs.tests.blocks.told.Goals as goal

pub fill-requires-clause-strip : goal.fill-requires-clause-strip
fill-requires-clause-strip c =
    let t = c.args.target.now in
    let s = c.args.source.now in
    let strip = c.in-Some.strip in
    let given : strip_between s.case.roots (leaf_of s) c.id.result ≡ Some strip = sym c.in_ok-strip.ensures ∙ c.in-Some.is in
    let told : strip_between s.case.roots (leaf_of s) t.id ≡ Some strip = subst (λ i. strip_between s.case.roots (leaf_of s) i ≡ Some strip) c.id.ensures given in
    let fits = c.what_a_block_tells_is_a_strip_for_it.ensures s t.id strip c.cells-its.ensures.model told in
    subst (λ (k : Case). IsStripFor k.roots (map_at k t.point) t.id strip) (c.requires.same ∙ sym c.requires.case)
    (subst (λ p. IsStripFor s.case.roots (map_at s.case p) t.id strip) c.requires.points fits)
