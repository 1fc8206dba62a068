use Rattle.bf_plain.proofs.AtlasLemmas.{Painted, Kept}
use Rattle.bf_plain.proofs.atlas.paint.Given as goal

abbrev pub invariant-loop-step : goal.invariant-loop-step
invariant-loop-step l = record {
  painted : Painted l.rows.wide l.rows.deep l.extent l.number l.step l.numbers;
  kept : Kept l.rows.wide l.rows.deep l.extent l.fn.numbers l.numbers;
}
