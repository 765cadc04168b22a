-- What an operator is answered. Own rules.
use Rattle.std.specs.Prelude.{ℕ, ℤ, List, [], Option, Some, None, Result, Ok, Err}
use Rattle.service_doors.specs.declared.orders.Asked.{Asked}
use Rattle.service_doors.specs.declared.orders.Asked.TheVariants as asked
use Rattle.service_records.specs.Answer.{answer_bytes}
use Rattle.service_records.specs.Framing.{cut_of}
use Rattle.service_records.specs.Request.{request_of}
use Rattle.service_records.specs.declared.answer.Answer.TheVariants as answers
use Rattle.service_records.specs.declared.fault.RecordFault.{RecordFault}
use Rattle.service_records.specs.declared.request.Request.{Request}

-- the request of a record, whatever its tail
abbrev pub asked_in : Result (Request × List ℕ) RecordFault → Asked
asked_in (Ok x) = asked.For x.0
asked_in (Err fault) = asked.Nothing

abbrev pub asked_first : Result (Option (List ℕ × List ℕ)) RecordFault → Asked
asked_first (Ok None) = asked.NotYet
asked_first (Ok (Some cut)) = asked_in (request_of cut.0)
asked_first (Err fault) = asked.Nothing

-- what the first record of some bytes asks for, once all of it is there
abbrev pub asked_of_bytes : List ℕ → Asked
asked_of_bytes bytes = asked_first (cut_of bytes)

abbrev pub refusal_bytes : ℤ → List ℕ → List ℕ
refusal_bytes code text = answer_bytes (answers.Refused code) text
