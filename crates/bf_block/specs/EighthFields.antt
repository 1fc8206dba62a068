-- How an eighth is stored.
use Rattle.std.specs.Prelude.{◌/◌}
use Rattle.bf_cells.specs.Grid.{grid_with}
use Rattle.bf_block.specs.declared.eighth.Eighth.TheInside.{Inside}
use Rattle.bf_block.specs.Eighth.{EighthValue}
use Rattle.bf_block.specs.Setup.{case_of}

-- the eighth that its fields hold
abbrev pub eighth_in : Inside → EighthValue
eighth_in e = record { case = case_of e.setup; point = e.point; id = e.id; means = grid_with ((case_of e.setup).side / 2) e.means.items }
