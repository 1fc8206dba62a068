use Rattle.bf_cells.specs.declared.shell.Shell.TheInside.{Inside}
use Rattle.bf_cells.specs.Shell.{Walls}
use Rattle.bf_cells.specs.Squares.{walls_with}

-- the walls that a shell's fields hold
abbrev pub walls_in : Inside → Walls
walls_in s = walls_with s.side s.squares
