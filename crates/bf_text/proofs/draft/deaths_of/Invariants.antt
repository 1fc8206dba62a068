use Rattle.std.proofs.Common.{◌≡◌, None, get_or}
use Rattle.std.specs.List.{flat_map, range_with_len}
use Rattle.bf_text.specs.Entries.{listed}
use Rattle.bf_text.proofs.draft.deaths_of.Given as goal

abbrev pub invariant-loop-rank : goal.invariant-loop-rank
invariant-loop-rank l = l.list.items ≡ flat_map (λ rank. listed rank (get_or l.deaths rank None)) (range_with_len 0 l.rank)
