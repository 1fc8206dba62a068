use Rattle.std.proofs.Common.{inr}
use Rattle.bf_case.specs.Model.{model}
use Rattle.bf_case.proofs.MapLemmas.{IsRootMap-model, regridded_same}
use Rattle.bf_case.proofs.laws.one_level_keeps_the_roots.Goals as goal

pub returns-clause-ids : goal.returns-clause-ids
returns-clause-ids c case time is flat = (IsRootMap-model case time is (inr flat)).roots

pub returns-clause-map : goal.returns-clause-map
returns-clause-map c case time is flat = (IsRootMap-model case time is (inr flat)).map

pub returns-clause-regridded : goal.returns-clause-regridded
returns-clause-regridded c case time is flat = regridded_same case time (model case time) (inr flat) (IsRootMap-model case time is (inr flat))
