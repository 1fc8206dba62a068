use Rattle.bf_forest.specs.ForestLaws.{lawful_forest}
use Rattle.bf_forest.proofs.laws.the_forest_keeps_all_laws.Goals as goal

pub returns : goal.returns
returns c = lawful_forest
