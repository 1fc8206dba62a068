use Rattle.std.proofs.Common.{◌∙◌, rules}
use Rattle.std.proofs.lemmas.List.Sorted.{answers_always}
use Rattle.bf_links.specs.declared.link.Link.{Link}
use Rattle.bf_proxy.proofs.JoinLemmas.{put_found, put_missed}
use Rattle.bf_proxy.proofs.joining.put.Goals as goal

pub returns-in-Ok : goal.returns-in-Ok
returns-in-Ok c =
    let facts = c.binary_search_by_key.ensures in
    let by_key = c.in-Ok.ensures.position (λ (link : Link). link.id) (answers_always _ _ _ (λ f a r g called. search rules)) in
    put_found c.args.link c.args.links.now.items c.in-Ok.field-0 c.requires (rw c.as_slice.ensures.value at c.in-Ok.ensures.bound) (rw c.as_slice.ensures.value at by_key)

pub returns-in_ok-insert-in-Err : goal.returns-in_ok-insert-in-Err
returns-in_ok-insert-in-Err c =
    let by_key = c.in-Err.ensures.position (λ (link : Link). link.id) (answers_always _ _ _ (λ f a r g called. search rules)) in
    c.in_ok-insert-in-Err.ensures.items
    ∙ put_missed c.args.link c.args.links.now.items c.in-Err.place c.requires (rw c.as_slice.ensures.value at c.in-Err.ensures.bound) (rw c.as_slice.ensures.value at by_key)
