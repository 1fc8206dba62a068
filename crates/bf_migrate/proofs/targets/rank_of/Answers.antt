use Rattle.std.proofs.Common.{ℕ, rules}
use Rattle.std.specs.Prelude.{Ok, Err}
use Rattle.std.proofs.lemmas.List.Sorted.{answers_always}
use Rattle.bf_id.specs.Id.{BlockId}
use Rattle.bf_links.proofs.SearchLemmas.{searched}
use Rattle.bf_migrate.proofs.SearchLemmas.{found_in, rank_at, not_in}
use Rattle.bf_migrate.proofs.targets.rank_of.Goals as goal

pub returns-in-Ok-clause-some : goal.returns-in-Ok-clause-some
returns-in-Ok-clause-some c =
    let by_key = c.in-Ok.ensures.position (λ (t : BlockId × ℕ). t.0) (answers_always _ _ _ (λ f a r g called. search rules)) in
    found_in c.args.targets.now c.args.id c.in-Ok.place (c.args.id, 0)
    (searched (λ (t : BlockId × ℕ). t.0) c.args.targets.now c.args.id (Ok c.in-Ok.place) c.requires c.in-Ok.ensures.bound by_key)

pub returns-in-Ok-clause-rank : goal.returns-in-Ok-clause-rank
returns-in-Ok-clause-rank c = λ rank ranked.
    let by_key = c.in-Ok.ensures.position (λ (t : BlockId × ℕ). t.0) (answers_always _ _ _ (λ f a r g called. search rules)) in
    rank_at c.args.targets.now c.args.id c.in-Ok.place c.index-targets-place.result rank
    (searched (λ (t : BlockId × ℕ). t.0) c.args.targets.now c.args.id (Ok c.in-Ok.place) c.requires c.in-Ok.ensures.bound by_key) ranked

pub returns-in-Err-clause-none : goal.returns-in-Err-clause-none
returns-in-Err-clause-none c =
    let by_key = c.in-Err.ensures.position (λ (t : BlockId × ℕ). t.0) (answers_always _ _ _ (λ f a r g called. search rules)) in
    not_in c.args.targets.now c.args.id
    (searched (λ (t : BlockId × ℕ). t.0) c.args.targets.now c.args.id (Err c.in-Err.field-0) c.requires c.in-Err.ensures.bound by_key)
