pub mod Numbers
pub mod FieldLemmas
pub mod FramingLemmas
pub mod RequestLemmas
pub mod PositionLemmas
pub mod AnswerLemmas
pub mod PairLemmas
