pub mod AnswersLemmas
pub mod AuditLemmas
pub mod OutputLemmas
pub mod StatementLemmas
pub mod TurnLemmas
