use Rattle.std.proofs.Common.{◌∙◌, ◌+◌, ◌++◌, List, sym, take}
use Rattle.bf_links.specs.declared.link.Link.{Link}
use Rattle.bf_marks.specs.Marks.{target_by}
use Rattle.bf_proxy_rounds.specs.Calls.{goals_of, home_by}
use Rattle.bf_proxy_rounds.proofs.CallLemmas.{flat_next, list_next}
use Rattle.bf_proxy_rounds.proofs.near.linked_goals.Goals as goal

pub loop-link-preserved : goal.loop-link-preserved
loop-link-preserved c =
    let homes : List Link = c.args.own.now ++ c.args.heard.now in
    let link : Link = c.link-item.result in
    c.in_ok-add_goals.ensures
    ∙ (λ k. c.loop-link.invariant k ++ goals_of (c.target-target.ensures k) link.id (c.linked_home-home.ensures k))
    ∙ sym (flat_next (λ (link : Link). goals_of (target_by c.args.marks.now link.id) link.id (home_by homes link)) (take c.loop-link.link-index c.args.links.now)
    (take (c.loop-link.link-index + 1) c.args.links.now) link (list_next c.args.links.now c.loop-link.link-index link c.loop-link-test.true c.link-item.is))
