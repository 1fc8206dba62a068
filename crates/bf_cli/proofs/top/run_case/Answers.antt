use Rattle.bf_cli.proofs.AnswerLemmas.{no_regrid, ranks_answer}
use Rattle.bf_cli.proofs.DrivenLemmas.{has_run}
use Rattle.bf_cli.proofs.top.run_case.Goals as goal

pub run-requires-clause-runs : goal.run-requires-clause-runs
run-requires-clause-runs c = record { valid = c.requires.valid }

pub run-requires-clause-no_regrid : goal.run-requires-clause-no_regrid
run-requires-clause-no_regrid c = no_regrid c.args.command c.args.case c.in-Drive.is c.requires.served

pub returns-in_ok-world-in-Drive : goal.returns-in_ok-world-in-Drive
returns-in_ok-world-in-Drive c =
    let ran = c.in_ok-world-in-Drive.ensures in
    ranks_answer c.args.case _ c.args.command c.in-Drive.is (has_run c.args.case _ c.a_complete_run_ends.ensures c.a_run_is_lost_exactly_where_both_holders_of_a_block_died.ensures c.known.ensures ran.setup ran.complete ran.driven) ran.setup
