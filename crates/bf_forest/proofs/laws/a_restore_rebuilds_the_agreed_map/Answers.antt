use Rattle.bf_forest.specs.LeafLaws.{restored_leaves}
use Rattle.bf_forest.proofs.laws.a_restore_rebuilds_the_agreed_map.Goals as goal

pub returns : goal.returns
returns c = λ setup epoch round locals lives good whole. restored_leaves setup epoch round locals lives good whole
