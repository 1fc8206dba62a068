use Rattle.bf_case.proofs.MergingRule.{merging_rule}
use Rattle.bf_case.proofs.laws.an_octet_merges_by_its_rule.Goals as goal

pub returns : goal.returns
returns c = merging_rule
