-- The cases that can be set up.
use Rattle.bf_case.specs.declared.case.Case.{Case}
use Rattle.bf_case.specs.Case.{IsValid}

-- a valid case
pub record CanRun (c : Case) : Type 0 where
  pub valid : IsValid c
