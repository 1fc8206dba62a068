use Rattle.std.proofs.Common.{◌≡◌, ◌+◌, ◌++◌, length}
use Rattle.bf_drive.proofs.OpeningLemmas.{opened_from}
use Rattle.bf_drive.proofs.opening.opened_ranks.Given as goal

abbrev pub invariant-loop-local : goal.invariant-loop-local
invariant-loop-local g l = record {
  made : l.ranks.items ++ opened_from l.fn.epoch (length l.ranks.items) l.local-iterator.rest.items ≡ opened_from l.fn.epoch 0 l.fn.locals.items;
  count : length l.ranks.items + length l.local-iterator.rest.items ≡ length l.fn.locals.items;
}
