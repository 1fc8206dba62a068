use Rattle.std.proofs.Common.{◌≡◌, drop}
use Rattle.std.specs.Prelude.{AllPairs}
use Rattle.bf_links.specs.Links.{ComesBefore}
use Rattle.bf_proxy.specs.Joined.{joined}
use Rattle.bf_proxy.proofs.joining.join.Given as goal

-- what is put together so far and what is left give all
abbrev pub invariant-loop-link : goal.invariant-loop-link
invariant-loop-link l = record {
  joined : joined (drop l.link-index l.more) l.all.items ≡ joined l.more l.links;
  rising : AllPairs ComesBefore l.all.items;
}
