pub mod Places
pub mod PartyLemmas
pub mod LogLemmas
pub mod OrderLemmas
pub mod DiaryLemmas
