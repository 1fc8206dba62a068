use Rattle.bf_beads.specs.BeadsLaws.{lawful_beads}
use Rattle.bf_beads.proofs.laws.the_opening_is_good.Goals as goal

pub returns : goal.returns
returns c = λ setup. (lawful_beads setup).goods.opening
