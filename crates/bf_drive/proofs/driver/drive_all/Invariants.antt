use Rattle.std.proofs.Common.{◌≡◌, ℕ, List}
use Rattle.bf_world.specs.Runs.{run_after}
use Rattle.bf_world.specs.Weights.{weight}
use Rattle.bf_drive.specs.Drives.{AreAt, AreFailed, IsDrivenTo}
use Rattle.bf_drive.proofs.driver.drive_all.Given as goal

abbrev pub invariant-loop-alloc : goal.invariant-loop-alloc
invariant-loop-alloc g l =
    (l.world.setup ≡ l.setup)
    × (AreAt g.P.RankProgram.meanings g.P.RankProgram.good l.setup l.world.journal l.ranks
    × ((failed : List ℕ) × (AreFailed failed l.ranks
    × IsDrivenTo g.P.RankProgram.meanings g.P.RankProgram.good l.setup l.order (record { journal = l.world.journal; failed = failed }))))

abbrev pub decreases-loop-alloc : goal.decreases-loop-alloc
decreases-loop-alloc g l = weight g.P.RankProgram.meanings l.setup (run_after g.P.RankProgram.meanings l.setup l.world.journal)
