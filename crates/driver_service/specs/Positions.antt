-- How far logs have come, as records. Own rules.
use Rattle.std.specs.Prelude.{ℕ, ◌+◌, Bool, true, false, List, [], Option, Some, None}
use Rattle.driver_service.specs.declared.positions.ImagePositions.{ImagePositions}
use Rattle.driver_service.specs.declared.positions.PublicationPositions.{PublicationPositions}
use Rattle.service_records.specs.Answer.{answer_bytes}
use Rattle.service_records.specs.declared.answer.Answer.TheVariants as answers

-- whether somebody takes what is offered
abbrev pub connected_flag : Bool → ℕ
connected_flag true = 1
connected_flag false = 0

-- whether a receiver is heard, which has taken the stream up to some position
abbrev pub heard_flag : Option ℕ → ℕ
heard_flag None = 0
heard_flag (Some position) = 2

abbrev pub publication_flags : PublicationPositions → ℕ
publication_flags positions = connected_flag positions.connected + heard_flag positions.consumed

-- where none is heard, the field is 0
abbrev pub consumed_field : Option ℕ → ℕ
consumed_field None = 0
consumed_field (Some position) = position

-- how far a publication has come
abbrev pub publication_record : PublicationPositions → List ℕ
publication_record positions = answer_bytes (answers.PublicationPositions positions.position positions.limit positions.sent (consumed_field positions.consumed) (publication_flags positions)) []

-- how far a subscription has come with a log
abbrev pub image_record : ImagePositions → List ℕ
image_record positions = answer_bytes (answers.ImagePositions positions.joined positions.position positions.received) []
