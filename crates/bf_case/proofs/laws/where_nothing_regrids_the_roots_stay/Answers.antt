use Rattle.std.proofs.Common.{inl}
use Rattle.bf_case.specs.Model.{model}
use Rattle.bf_case.proofs.MapLemmas.{IsRootMap-model, regridded_same}
use Rattle.bf_case.proofs.laws.where_nothing_regrids_the_roots_stay.Goals as goal

pub returns-clause-ids : goal.returns-clause-ids
returns-clause-ids c case time is none = (IsRootMap-model case time is (inl none)).roots

pub returns-clause-map : goal.returns-clause-map
returns-clause-map c case time is none = (IsRootMap-model case time is (inl none)).map

pub returns-clause-regridded : goal.returns-clause-regridded
returns-clause-regridded c case time is none =
    regridded_same case time (model case time) (inl none) (IsRootMap-model case time is (inl none))
