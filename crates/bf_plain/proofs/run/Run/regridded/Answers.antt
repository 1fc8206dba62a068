use Rattle.std.proofs.Common.{◌∙◌, ap}
use Rattle.bf_case.specs.Regrid.{regrid}
use Rattle.bf_plain.proofs.RunLemmas.{regridded_map}
use Rattle.bf_plain.proofs.run.Run.regridded.Goals as goal

pub of-requires-clause-forest : goal.of-requires-clause-forest
of-requires-clause-forest c =
    regridded_map c.args.case.now c.args.self.leaves.items c.in_ok-leaves.leaves.items c.requires.ready.charted.valid c.requires.ready.charted.map
    (c.in_ok-leaves.ensures ∙ ap (regrid c.args.case.now) c.into_leaves.ensures)
