use Rattle.bf_id.specs.Id.{parent_of}
use Rattle.bf_case.specs.Merging.{merges}
use Rattle.bf_case.specs.Refinement.{refined_ids}
use Rattle.bf_mark_rounds.specs.Shares.{may_merge_in}
use Rattle.bf_mark_rounds.proofs.TellLemmas.{flagged_told}
use Rattle.bf_mark_rounds.proofs.laws.a_level_tells_its_flags.Goals as goal

pub returns : goal.returns
returns c = record {
  may = λ shape ids w owner before from to i. flagged_told shape ids w owner (may_merge_in shape ids w (refined_ids shape ids w)) before from i;
  merges = λ shape ids w owner before from to i. flagged_told shape ids w owner (λ i. merges shape ids w (refined_ids shape ids w) (parent_of i)) before from i;
}
