use Rattle.std.proofs.Common.{◌∙◌, ap, sym, subst}
use Rattle.bf_id.specs.Id.{parent_of}
use Rattle.bf_case.specs.declared.case.Case.{Case}
use Rattle.bf_block.specs.declared.point.Point.{Point}
use Rattle.bf_block.specs.Setup.{case_of}
use Rattle.bf_block.specs.Block.{IsModels, after_regrid}
use Rattle.bf_block.specs.Eighth.{means_in, octants_joined}
use Rattle.bf_block.proofs.MergedLemmas.{eight_parts, made_is, merged_is_models, first_below, sides_at}
use Rattle.bf_block.proofs.merging.merge.Goals as goal

pub above-requires : goal.above-requires
above-requires c =
    first_below c.requires.0 c.requires.1.0 c.requires.1.1.0 c.args.parts.now c.requires.1.1.1 c.all_known.ensures c.index-parts-0.result c.index-parts-0.is c.id.result c.id.ensures.value

pub joined-requires-clause-eight : goal.joined-requires-clause-eight
joined-requires-clause-eight c =
    eight_parts c.requires.0 c.requires.1.0 c.requires.1.1.0 c.args.parts.now c.requires.1.1.1 c.all_known.ensures c.index-parts-0.result c.index-parts-0.is

pub joined-requires-clause-sides : goal.joined-requires-clause-sides
joined-requires-clause-sides c =
    sides_at c.requires.0 c.requires.1.0 c.requires.1.1.0 c.args.parts.now c.requires.1.1.1 c.all_known.ensures c.index-parts-0.result c.index-parts-0.is
    c.side.result (c.side.ensures.value ∙ ap (λ (x : Case). x.side) c.setup.ensures)

pub of_model-requires : goal.of_model-requires
of_model-requires c =
    subst IsModels
    (sym (made_is c.requires.0 c.requires.1.0 c.requires.1.1.0 c.args.parts.now c.requires.1.1.1 c.all_known.ensures c.index-parts-0.result c.index-parts-0.is
    (case_of c.in_ok-share.field-0) c.after_regrid.result c.above.result c.in_ok-cells.cells (ap case_of c.in_ok-share.ensures ∙ c.setup-2.ensures)
    (c.after_regrid.ensures ∙ ap (λ (p : Point). after_regrid p.time) c.point.ensures) (c.above.ensures ∙ ap parent_of c.id.ensures.value)
    (c.in_ok-cells.ensures ∙ ap (λ s. octants_joined s (means_in c.args.parts.now)) (c.side.ensures.value ∙ ap (λ (x : Case). x.side) c.setup.ensures))))
    (merged_is_models c.requires.0 c.requires.1.0 c.requires.1.1.0 c.args.parts.now c.requires.1.1.1 c.all_known.ensures c.index-parts-0.result c.index-parts-0.is)

pub returns : goal.returns
returns c = λ case time parent octet.
    c.of_model.ensures
    ∙ made_is case time parent c.args.parts.now octet c.all_known.ensures c.index-parts-0.result c.index-parts-0.is
    (case_of c.in_ok-share.field-0) c.after_regrid.result c.above.result c.in_ok-cells.cells (ap case_of c.in_ok-share.ensures ∙ c.setup-2.ensures)
    (c.after_regrid.ensures ∙ ap (λ (p : Point). after_regrid p.time) c.point.ensures) (c.above.ensures ∙ ap parent_of c.id.ensures.value)
    (c.in_ok-cells.ensures ∙ ap (λ s. octants_joined s (means_in c.args.parts.now)) (c.side.ensures.value ∙ ap (λ (x : Case). x.side) c.setup.ensures))
