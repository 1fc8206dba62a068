use Rattle.std.proofs.Common.{arith}
use Rattle.bf_plain.proofs.AtlasLemmas.{sides_few}
use Rattle.bf_plain.proofs.atlas.boxes_along.Goals as goal

pub returns-clause-few : goal.returns-clause-few
returns-clause-few c = omega (arith, sides_few c.args.roots c.args.level c.requires.few c.requires.shallow)
