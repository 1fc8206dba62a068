use Rattle.bf_case.specs.Model.{model}
use Rattle.bf_case.proofs.ModelLemmas.{balanced-model}
use Rattle.bf_driven.proofs.LeafLemmas.{sorted_leaves}
use Rattle.bf_driven.proofs.laws.leaves_in_order_are_the_map.Goals as goal

pub returns : goal.returns
returns c = λ case time blocks sorted valid are same rising. sorted_leaves (model case time) (balanced-model case time valid).map.rising blocks sorted are same rising
