use Rattle.std.proofs.Common.{◌≡◌, ◌+◌, ◌≤◌, All, arith, refl, sym, subst}
use Rattle.std.specs.Prelude.{IsTrue}
use Rattle.bf_id.specs.Id.{level_of, root_id}
use Rattle.bf_cells.specs.Grid.{spread_of}
use Rattle.bf_case.specs.Model.{regrids}
use Rattle.bf_block.specs.Block.{BlockValue}
use Rattle.bf_block.specs.Eighth.{AreOctet, AreSiblings}
use Rattle.bf_block.specs.Setup.{case_of}
use Rattle.bf_ghost.proofs.tests.levels.merged.Goals as goal

pub eighths-requires : goal.eighths-requires
eighths-requires g c =
    let k = case_of c.args.setup.now in
    let blocks = c.args.blocks.now in
    let siblings : AreSiblings k 1 (root_id 0) blocks =
    record { ids = c.expect_children_of_first.ensures; cases = c.requires.cases; points = c.requires.points } in
    let each : k.regrid ≡ 1 = grind (arith, c.regrid.ensures) in
    let does : IsTrue (regrids k 1) = rw each refl in
    let finest : level_of (root_id 0) + 1 ≡ k.levels = grind (arith, c.levels.ensures) in
    c.siblings_of_the_finest_level_that_spread_little_merge.ensures k 1 (root_id 0) blocks siblings c.all_known.ensures does finest
    (subst (λ limit. All (λ (b : BlockValue). spread_of b.cells ≤ limit) blocks) c.coarsen.ensures.value c.expect_spreads.ensures)

pub merged-requires : goal.merged-requires
merged-requires g c =
    let k = case_of c.args.setup.now in
    let siblings : AreSiblings k 1 (root_id 0) c.args.blocks.now =
    record { ids = c.expect_children_of_first.ensures; cases = c.requires.cases; points = c.requires.points } in (
      k,
      (
        1,
        (
          root_id 0,
          subst (AreOctet k 1 (root_id 0)) (sym c.in_ok-parts.ensures)
              (c.eighths_of_siblings_are_an_octet.ensures k 1 (root_id 0) c.args.blocks.now siblings),
        ),
      ),
    )
