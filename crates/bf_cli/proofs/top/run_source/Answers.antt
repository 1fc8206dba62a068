use Rattle.std.proofs.Common.{subst}
use Rattle.bf_cli.specs.Answers.{IsAnswerOf}
use Rattle.bf_cli.specs.Ends.{source_ends, source_of}
use Rattle.bf_cli.specs.Told.{IsCaused}
use Rattle.bf_cli.proofs.AnswerLemmas.{caused_of_all}
use Rattle.bf_cli.proofs.top.run_source.Goals as goal

pub returns-in-Ok-run_bytes-clause-cause : goal.returns-in-Ok-run_bytes-clause-cause
returns-in-Ok-run_bytes-clause-cause g c =
    let answer = c.in-Ok-run_bytes.answer in
    caused_of_all c.args.command (source_ends g.R.Source.left g.R.Source.faults c.args.source.now c.read_up_to.new.source) c.in-Ok.bytes.items answer
    c.in-Ok.ensures.taken
    (record { left = c.in-Ok.ensures.rest; steady = c.in-Ok.ensures.steady })
    (subst (λ b. IsCaused (IsAnswerOf c.args.command (source_of b)) answer) c.as_slice.ensures.value c.in-Ok-run_bytes.ensures)
