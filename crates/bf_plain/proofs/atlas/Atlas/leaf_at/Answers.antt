use Rattle.std.proofs.Common.{◌<◌, length, sym, subst, ◌∙◌, arith}
use Rattle.std.proofs.lemmas.Grind.{get_or_default_zero}
use Rattle.bf_id.specs.Shape.{InDomain}
use Rattle.bf_plain.specs.Atlas.{Chart}
use Rattle.bf_plain.proofs.AtlasLemmas.{chart_place-below, number_is}
use Rattle.bf_plain.proofs.atlas.Atlas.leaf_at.Goals as goal

pub index-requires : goal.index-requires
index-requires c =
    let inside = subst (λ (k : Chart). InDomain k.shape c.args.unit) (sym c.self.view_is) c.requires in
    let below = chart_place-below c.self.inside.shape c.self.inside.level c.args.unit c.self.invariant.level inside in
    omega (arith, below, c.self.invariant.full, c.chart_place.ensures)

pub returns : goal.returns
returns c =
    let inside = subst (λ (k : Chart). InDomain k.shape c.args.unit) (sym c.self.view_is) c.requires in
    let within = chart_place-below c.self.inside.shape c.self.inside.level c.args.unit c.self.invariant.level inside in
    let below : c.chart_place.result < length c.self.inside.numbers.items = omega (arith, within, c.self.invariant.full, c.chart_place.ensures) in
    number_is c.args.self.now _ c.args.unit c.chart_place.result c.index.result.now c.self.view_is c.chart_place.ensures
    (c.index.ensures ∙ get_or_default_zero c.self.inside.numbers.items c.chart_place.result c.index.result.now below)
