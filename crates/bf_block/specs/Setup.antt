-- The case of a setup.
use Rattle.bf_case.specs.declared.case.Case.{Case}
use Rattle.bf_block.specs.declared.setup.Setup.{Setup}
use Rattle.bf_block.specs.Runs.{CanRun}

-- the case that a setup has
abbrev pub case_of : Setup → Case
case_of setup = setup.case

-- the case of every setup can run
pub every_setup_runs : (setup : Setup) → CanRun (case_of setup)
every_setup_runs setup = setup.runs
