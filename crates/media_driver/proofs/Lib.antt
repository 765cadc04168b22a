pub mod AttachLemmas
pub mod AuditLemmas
pub mod MailLemmas
pub mod OfferLemmas
pub mod OpeningLemmas
pub mod PassLemmas
pub mod RememberLemmas
pub mod RunLemmas
