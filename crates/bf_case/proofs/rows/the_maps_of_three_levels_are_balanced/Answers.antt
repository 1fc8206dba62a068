use Rattle.bf_case.proofs.RowMaps.{two_roots_valid, three_levels_balanced, spotted_balanced}
use Rattle.bf_case.proofs.rows.the_maps_of_three_levels_are_balanced.Goals as goal

pub returns-clause-valid : goal.returns-clause-valid
returns-clause-valid c = two_roots_valid

pub returns-clause-blank : goal.returns-clause-blank
returns-clause-blank c = three_levels_balanced

pub returns-clause-spotted : goal.returns-clause-spotted
returns-clause-spotted c = spotted_balanced
