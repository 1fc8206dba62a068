use Rattle.std.proofs.Common.{rules}
use Rattle.std.proofs.lemmas.List.Sorted.{answers_always}
use Rattle.bf_links.specs.declared.link.Link.{Link}
use Rattle.bf_proxy_rounds.proofs.CallLemmas.{owner_found, owner_missed}
use Rattle.bf_proxy_rounds.proofs.homes.owner_in.Goals as goal

pub returns-in-Ok : goal.returns-in-Ok
returns-in-Ok c =
    let by_key = c.in-Ok.ensures.position (λ (link : Link). link.id) (answers_always _ _ _ (λ f a r g called. search rules)) in
    owner_found c.args.links.now c.args.id c.in-Ok.place c.index-links-place.result c.requires c.in-Ok.ensures.bound by_key

pub returns-in-Err : goal.returns-in-Err
returns-in-Err c =
    let by_key = c.in-Err.ensures.position (λ (link : Link). link.id) (answers_always _ _ _ (λ f a r g called. search rules)) in
    owner_missed c.args.links.now c.args.id c.in-Err.field-0 c.requires c.in-Err.ensures.bound by_key
