use Rattle.bf_case.proofs.ModelLemmas.{balanced-model_at}
use Rattle.bf_case.proofs.laws.every_map_is_balanced.Goals as goal

pub returns-clause-map : goal.returns-clause-map
returns-clause-map c = balanced-model_at

pub returns-clause-tiles : goal.returns-clause-tiles
returns-clause-tiles c case time after valid = (balanced-model_at case time after valid).map.tiling

pub returns-clause-balanced : goal.returns-clause-balanced
returns-clause-balanced c case time after valid = (balanced-model_at case time after valid).balanced

pub returns-clause-rises : goal.returns-clause-rises
returns-clause-rises c case time after valid = (balanced-model_at case time after valid).map.rising
