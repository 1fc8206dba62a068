use Rattle.bf_cli.proofs.AnswerLemmas.{due_answers}
use Rattle.bf_cli.proofs.top.plain.Goals as goal

pub returns-clause-answers : goal.returns-clause-answers
returns-clause-answers g c =
    let told = c.tell.ensures in
    record { meant = told.0; text = told.1.0; cause = c.answer_to-answer.ensures.cause told.0 told.1.0 c.tell.result.world told.1.1.0; told = told.1.1.1 }

pub returns-clause-due : goal.returns-clause-due
returns-clause-due g c =
    let told = c.tell.ensures in
    due_answers _ _ _ told.0 c.tell.result.status told.1.0 c.tell.result.world c.a_case_without_deaths_ends.ensures
    (c.answer_to-answer.ensures.cause told.0 told.1.0 c.tell.result.world told.1.1.0) told.1.1.1
