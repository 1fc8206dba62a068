use Rattle.std.proofs.Common.{◌≡◌, ◌∙◌, ◌++◌, [], filter, not, rules}
use Rattle.std.proofs.lemmas.Fn.{filter_same}
use Rattle.std.proofs.lemmas.Result.{IfOk-weaker}
use Rattle.bf_case.specs.Refinement.{is_among}
use Rattle.bf_links.specs.declared.link.Link.{Link}
use Rattle.bf_marks.specs.Marks.{target_by}
use Rattle.bf_proxy.specs.Homes.{goes_into}
use Rattle.bf_proxy.specs.Joined.{joined}
use Rattle.bf_proxy_rounds.specs.Calls.{linked_goals}
use Rattle.bf_proxy_rounds.proofs.near.near_known.Goals as goal

pub returns-clause-near : goal.returns-clause-near
returns-clause-near c =
    let kept : c.retain.new.self.items ≡ filter (λ (link : Link). not (is_among (goes_into c.target-target.result c.args.id) link.id)) c.in_ok-goals.goals.items =
    filter_same _ (λ (link : Link). not (is_among (goes_into c.target-target.result c.args.id) link.id)) _ (λ x b f k. search rules) _ _ c.retain.ensures.filtered in
    let others : c.as_slice.result.now
    ≡ filter (λ (link : Link). not (is_among (goes_into (target_by c.args.marks.now c.args.id) c.args.id) link.id)) (linked_goals c.args.marks.now (c.args.own.now ++ c.args.heard.now) c.args.links.now) =
    c.as_slice.ensures.value ∙ kept ∙ (λ k. filter (λ (link : Link). not (is_among (goes_into (c.target-target.ensures k) c.args.id) link.id)) (c.in_ok-goals.ensures k)) in
    let none : c.as_slice-2.result.now ≡ [] = c.as_slice-2.ensures.value ∙ c.new-none.ensures.items in
    IfOk-weaker c.join.result _ _ (λ near is. is ∙ (λ k. joined (others k) (none k))) c.join.ensures.joined
