-- The case of a setup.
use Rattle.std.specs.Prelude.{◌≡◌}
use Rattle.bf_case.specs.declared.case.Case.{Case}
use Rattle.bf_case.specs.Case.{IsValid}
use Rattle.bf_block.specs.Setup.{case_of as case_in, every_setup_runs}
use Rattle.bf_forest.specs.declared.setup.Setup.{Setup}

-- the case that a setup has
abbrev pub case_of : Setup → Case
case_of setup = case_in setup.setup

-- the case of every setup is valid, and has no regrids
pub every_setup_is_valid : (setup : Setup) → IsValid (case_of setup)
every_setup_is_valid setup = (every_setup_runs setup.setup).valid

pub every_setup_rests : (setup : Setup) → (case_of setup).regrid ≡ 0
every_setup_rests setup = setup.rests
