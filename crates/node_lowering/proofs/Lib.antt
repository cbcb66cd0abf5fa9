pub mod AnswerLemmas
pub mod FilterLemmas
pub mod FurtherLemmas
pub mod JoinLemmas
pub mod NameLemmas
pub mod StepLemmas
