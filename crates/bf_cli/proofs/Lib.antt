pub mod WordLemmas
pub mod DrivenLemmas
pub mod AnswerLemmas
