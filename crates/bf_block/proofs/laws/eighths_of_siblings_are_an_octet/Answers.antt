use Rattle.std.proofs.Common.{◌≡◌, ◌∙◌}
use Rattle.std.proofs.lemmas.Simd.{map-map}
use Rattle.std.proofs.lemmas.List.Elements.{All-map}
use Rattle.bf_block.specs.Block.{before_regrid}
use Rattle.bf_block.specs.Eighth.{EighthValue, eighth_of}
use Rattle.bf_block.proofs.laws.eighths_of_siblings_are_an_octet.Goals as goal

pub returns : goal.returns
returns c = λ case time parent blocks are. record {
  ids = map-map (λ (e : EighthValue). e.id) eighth_of blocks ∙ are.ids;
  cases = All-map (λ (e : EighthValue). e.case ≡ case) eighth_of blocks are.cases;
  points = All-map (λ (e : EighthValue). e.point ≡ before_regrid time) eighth_of blocks are.points;
}
