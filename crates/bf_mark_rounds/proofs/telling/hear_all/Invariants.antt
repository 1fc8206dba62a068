use Rattle.std.proofs.Common.{◌≡◌, take}
use Rattle.bf_mark_rounds.specs.Plays.{hear_all}
use Rattle.bf_mark_rounds.proofs.telling.hear_all.Given as goal

abbrev pub invariant-loop-id : goal.invariant-loop-id
invariant-loop-id l = l.marks ≡ hear_all l.flag (take l.id-index l.ids) l.initial.marks
