use Rattle.std.proofs.Common.{ℕ, ◌<◌, get_or}
use Rattle.bf_links.specs.Links.{ComesBefore}
use Rattle.bf_links.specs.declared.link.Link.{Link}
use Rattle.bf_links.proofs.tests.are_rising.Given as goal

abbrev pub invariant-loop-place : goal.invariant-loop-place
invariant-loop-place l = (i j : ℕ) (d : Link) → i < j → j < l.place → ComesBefore (get_or l.leaves i d) (get_or l.leaves j d)
