use Rattle.std.proofs.Common.{◌≡◌, ◌∙◌, ◌*◌, ap, sym, subst, length}
use Rattle.bf_ghost.specs.Strips.{StripValue, strip_side, with_strip}
use Rattle.bf_ghost.proofs.StripLemmas.{same_parts}
use Rattle.bf_ghost.proofs.strip.lay.Goals as goal

pub lay_values-requires : goal.lay_values-requires
lay_values-requires c =
    let strip = c.args.strip.now in
    let same = same_parts strip c.source.result c.target.result c.face.result c.values.result.now c.source.ensures c.target.ensures c.face.ensures c.values.ensures in
    let side = c.args.shell.now.side in
    let Fits : StripValue → Type 0 = λ s. length s.values ≡ strip_side side s.source s.target * strip_side side s.source s.target in
    subst Fits (sym same) c.requires

pub returns-clause-walls : goal.returns-clause-walls
returns-clause-walls c =
    let same = same_parts c.args.strip.now c.source.result c.target.result c.face.result c.values.result.now c.source.ensures c.target.ensures c.face.ensures c.values.ensures in
    c.lay_values.ensures.walls ∙ ap (with_strip c.args.shell.now) same
