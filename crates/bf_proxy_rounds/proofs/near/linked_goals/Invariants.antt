use Rattle.std.proofs.Common.{◌≡◌, ◌++◌, take}
use Rattle.bf_proxy_rounds.specs.Calls.{linked_goals}
use Rattle.bf_proxy_rounds.proofs.near.linked_goals.Given as goal

abbrev pub invariant-loop-link : goal.invariant-loop-link
invariant-loop-link l = l.goals.items ≡ linked_goals l.marks (l.own ++ l.heard) (take l.link-index l.links)
