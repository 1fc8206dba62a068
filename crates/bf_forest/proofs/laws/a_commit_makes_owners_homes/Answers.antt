use Rattle.bf_forest.specs.LeafLaws.{all_kept}
use Rattle.bf_forest.proofs.laws.a_commit_makes_owners_homes.Goals as goal

pub returns : goal.returns
returns c = all_kept
