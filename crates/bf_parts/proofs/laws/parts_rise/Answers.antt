use Rattle.bf_parts.specs.MergeLaws.{part_rises}
use Rattle.bf_parts.proofs.laws.parts_rise.Goals as goal

pub returns : goal.returns
returns g c = λ kind leaves owner rank are. part_rises kind leaves owner rank are
