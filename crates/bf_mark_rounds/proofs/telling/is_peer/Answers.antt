use Rattle.std.proofs.Common.{◌≡◌, ◌==◌, ◌&&◌, ◌∙◌, not, false, ap, map, sym, arith}
use Rattle.std.specs.List.{list_any}
use Rattle.std.proofs.lemmas.Bool.Decides.{nat_tests}
use Rattle.bf_links.specs.Links.{is_owner}
use Rattle.bf_mark_rounds.proofs.TellingLemmas.{any_of_made}
use Rattle.bf_mark_rounds.proofs.telling.is_peer.Goals as goal

pub returns-then-other-rank : goal.returns-then-other-rank
returns-then-other-rank g c =
    let links = map g.L.HasLinks.linked c.args.links.now in
    let apart : (c.args.other == c.args.rank) ≡ false = grind (arith, nat_tests) in
    c.are_linked_with.ensures ∙ any_of_made g.L.HasLinks.linked (λ beside. is_owner beside c.args.other) c.args.links.now
    ∙ ap (λ b. not b && list_any (λ beside. is_owner beside c.args.other) links) (sym apart)
