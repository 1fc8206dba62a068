use Rattle.std.proofs.Common.{◌≡◌, take}
use Rattle.bf_drive.specs.Drives.{AreAt, Leads, Turns}
use Rattle.bf_drive.specs.Lighter.{IsLighter}
use Rattle.bf_drive.proofs.driver.turns.Given as goal

abbrev pub invariant-loop-rank : goal.invariant-loop-rank
invariant-loop-rank g l =
    (l.world.setup ≡ l.fn.world.setup)
    × (AreAt g.P.RankProgram.meanings g.P.RankProgram.good l.setup l.world.journal l.ranks
    × (Leads (Turns g.P.RankProgram.meanings g.P.RankProgram.good l.setup (take l.rank-index l.order)) l.fn.world.journal l.world.journal l.fn.ranks l.ranks
    × IsLighter g.P.RankProgram.meanings l.setup l.fn.world.journal l.world.journal))
