use Rattle.std.proofs.Common.{refl}
use Rattle.bf_cli.specs.Ends.{source_ends}
use Rattle.bf_cli.proofs.AnswerLemmas.{usage_answers, command_answers}
use Rattle.bf_cli.proofs.top.answer_to.Goals as goal

pub returns-in-Some-clause-cause : goal.returns-in-Some-clause-cause
returns-in-Some-clause-cause g c =
    command_answers c.args.words.now (source_ends g.R.Source.left g.R.Source.faults c.args.source.now c.run_source.new.source) c.in-Some.command c.run_source.result
    c.in-Some.ensures c.run_source.ensures.cause

pub returns-in-None-clause-cause : goal.returns-in-None-clause-cause
returns-in-None-clause-cause g c =
    usage_answers c.args.words.now (source_ends g.R.Source.left g.R.Source.faults c.args.source.now c.args.source.now) c.in-None.ensures
    (record { left = refl; steady = refl })
