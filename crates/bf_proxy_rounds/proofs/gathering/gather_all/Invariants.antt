use Rattle.std.proofs.Common.{◌≡◌, map, take}
use Rattle.bf_proxy_rounds.specs.Plays.{all_gathered}
use Rattle.bf_proxy_rounds.proofs.gathering.gather_all.Given as goal

abbrev pub invariant-loop-outer : goal.invariant-loop-outer
invariant-loop-outer l = l.proxies ≡ map (all_gathered (take l.outer-index l.outers)) l.fn.proxies
