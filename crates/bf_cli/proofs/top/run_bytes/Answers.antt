use Rattle.std.proofs.Common.{sym, ◌∙◌}
use Rattle.std.proofs.lemmas.Result.{IfOk-weaker}
use Rattle.bf_cli.proofs.AnswerLemmas.{served, refusal_answers}
use Rattle.bf_cli.proofs.top.run_bytes.Goals as goal

pub run_case-requires-clause-valid : goal.run_case-requires-clause-valid
run_case-requires-clause-valid c =
    let accepted = sym c.in_ok-case.ensures ∙ c.in-Accepted.is in
    c.what_is_read_is_valid.ensures c.args.bytes.now c.in-Accepted.case (served c.args.command c.args.bytes.now c.in-Accepted.case accepted).spelled

pub run_case-requires-clause-served : goal.run_case-requires-clause-served
run_case-requires-clause-served c =
    let accepted = sym c.in_ok-case.ensures ∙ c.in-Accepted.is in
    (served c.args.command c.args.bytes.now c.in-Accepted.case accepted).served

pub returns-in-Accepted : goal.returns-in-Accepted
returns-in-Accepted c =
    let accepted = sym c.in_ok-case.ensures ∙ c.in-Accepted.is in
    IfOk-weaker c.run_case.result _ _ (λ answer caused. caused c.args.bytes.now accepted) c.run_case.ensures

pub returns-in-Refused : goal.returns-in-Refused
returns-in-Refused c = refusal_answers c.args.command c.args.bytes.now c.in-Refused.line c.in-Refused.code (sym c.in_ok-case.ensures ∙ c.in-Refused.is)
