use Rattle.bf_case.proofs.MapLemmas.{ids_of-initial, IsMap-initial}
use Rattle.bf_case.proofs.laws.the_first_map_has_the_roots.Goals as goal

pub returns-clause-ids : goal.returns-clause-ids
returns-clause-ids c = ids_of-initial

pub returns-clause-map : goal.returns-clause-map
returns-clause-map c = IsMap-initial
