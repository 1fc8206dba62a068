use Rattle.std.proofs.Common.{◌≡◌, ◌≤◌, ◌<◌, ℕ, length, get_or}
use Rattle.bf_program.specs.Restores.{heir_of}
use Rattle.bf_links.specs.Links.{remapped}
use Rattle.bf_links.specs.declared.link.Link.{Link}
use Rattle.bf_links.proofs.links.remap_all.Given as goal

abbrev pub invariant-loop-link : goal.invariant-loop-link
invariant-loop-link l = record {
  long : length l.link-items ≡ length l.fn.links;
  done : (k : ℕ) (d : Link) → k < l.link-index → k < length l.fn.links → get_or l.link-items k d ≡ remapped (heir_of l.homes l.live l.shift) (get_or l.fn.links k d);
  rest : (k : ℕ) (d : Link) → l.link-index ≤ k → get_or l.link-items k d ≡ get_or l.fn.links k d;
}
