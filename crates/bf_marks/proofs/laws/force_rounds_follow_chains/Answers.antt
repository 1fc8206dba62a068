use Rattle.std.proofs.Common.{ap, ◌∙◌}
use Rattle.bf_marks.specs.Marks.{MarksValue}
use Rattle.bf_marks.proofs.RefinedLemmas.{force_rounds, settled}
use Rattle.bf_marks.proofs.laws.force_rounds_follow_chains.Goals as goal

pub returns : goal.returns
returns c = record {
  rounds = λ shape ids owner w rounds. ap (λ (m : MarksValue). m.refined.own) (force_rounds shape ids owner w rounds);
  settled = λ shape levels ids owner w few stop. ap (λ (m : MarksValue). m.refined.own) (force_rounds shape ids owner w levels) ∙ settled shape ids w levels stop few;
}
