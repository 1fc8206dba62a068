use Rattle.std.proofs.Common.{rules}
use Rattle.std.proofs.lemmas.List.Sorted.{answers_always}
use Rattle.bf_migrate.specs.Lots.{cargo_id}
use Rattle.bf_migrate.proofs.assembling.sort.Goals as goal

pub returns-clause-rising : goal.returns-clause-rising
returns-clause-rising c = c.sort_unstable_by_key.ensures.sorted cargo_id (answers_always _ _ _ (λ f a r g called. search rules))
