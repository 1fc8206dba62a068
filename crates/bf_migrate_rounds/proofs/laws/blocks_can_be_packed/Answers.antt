use Rattle.bf_migrate_rounds.proofs.TellLemmas.{are_targets, packed_cargo, stand_before}
use Rattle.bf_migrate_rounds.proofs.laws.blocks_can_be_packed.Goals as goal

pub returns : goal.returns
returns s = record {
  before = λ c time owner later rank runs does. stand_before c time runs does owner later rank;
  targets = λ c time owner later rank runs does. are_targets c time runs does owner later rank;
  cargo = λ c time owner later rank runs does. packed_cargo c time runs does owner later rank;
}
