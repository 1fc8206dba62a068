use Rattle.std.proofs.Common.{take, true}
use Rattle.bf_turn.specs.Diaries.{WritesAll}
use Rattle.bf_turn.proofs.diary.write_all.Given as goal

abbrev pub invariant-loop-text : goal.invariant-loop-text
invariant-loop-text g l = WritesAll l.writer (take l.text-index l.texts) l.fn.seat l.seat true
