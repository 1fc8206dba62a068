use Rattle.std.proofs.Common.{arith}
use Rattle.bf_plain.proofs.AtlasLemmas.{Painted-more, Kept-more, place_of-below, some_steps, step_of-below, step_bound, all_steps}
use Rattle.bf_plain.specs.Atlas.{box_at}
use Rattle.bf_plain.proofs.atlas.paint.Goals as goal

pub bounds-numbers-place_in : goal.bounds-numbers-place_in
bounds-numbers-place_in c =
    let e = c.args.extent in
    let step = step_bound c.edge-edge.result e.edge c.loop-step.step c.edge-edge.ensures (omega arith) in
    omega (
      arith,
      place_of-below c.args.rows.wide c.args.rows.deep c.place_in.result e c.loop-step.step c.place_in.ensures.exact
          (some_steps e.edge c.loop-step.step step) step c.requires.along_x c.requires.along_y,
    )

pub loop-step-preserved : goal.loop-step-preserved
loop-step-preserved c =
    let e = c.args.extent in
    let step = step_bound c.edge-edge.result e.edge c.loop-step.step c.edge-edge.ensures (omega arith) in
    let some = some_steps e.edge c.loop-step.step step in
    let below = place_of-below c.args.rows.wide c.args.rows.deep c.place_in.result e c.loop-step.step c.place_in.ensures.exact
    some step c.requires.along_x c.requires.along_y in
    record {
      painted = Painted-more c.args.rows.wide c.args.rows.deep e c.args.number c.loop-step.step c.place_in.result c.loop-step.numbers
          c.loop-step.invariant.painted c.place_in.ensures.exact (omega arith);
      kept = Kept-more c.args.rows.wide c.args.rows.deep e c.args.number c.loop-step.step c.place_in.result c.args.numbers.now c.loop-step.numbers
          c.loop-step.invariant.kept c.place_in.ensures.exact some step c.requires.along_x c.requires.along_y;
    }

pub returns-clause-painted : goal.returns-clause-painted
returns-clause-painted c =
    let e = c.args.extent in
    λ place h.
    let below = step_of-below e (box_at c.args.rows.wide c.args.rows.deep place) h in
    let done = all_steps c.edge-edge.result e.edge c.loop-step.step c.edge-edge.ensures (omega arith) in
    c.loop-step.invariant.painted place h (omega (arith, below, done))
