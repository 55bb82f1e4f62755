pub mod AnswerLaws
pub mod SetLaws
