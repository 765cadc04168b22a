-- The answers of the driver. (The layout is this project's own.)
use Rattle.std.specs.Prelude.{ℕ, ◌<◌, ◌^◌, ◌==◌, ◌≡◌, if◌then◌else◌, List, [], ◌++◌, Result, Ok, Err, FitsSigned}
use Rattle.std.specs.Int.{w32, w64}
use Rattle.service_records.specs.declared.fault.RecordFault.{RecordFault}
use Rattle.service_records.specs.declared.fault.RecordFault.TheVariants.{Unknown}
use Rattle.service_records.specs.declared.answer.Answer.{Answer}
use Rattle.service_records.specs.declared.answer.Answer.TheVariants as answers
use Rattle.service_records.specs.Gives.{◌>>=◌}
use Rattle.service_records.specs.Fields.{number_at, signed_at, ended, number_bytes, signed_bytes}
use Rattle.service_records.specs.Framing.{framed}

abbrev pub welcome_in : List ℕ → Result (Answer × List ℕ) RecordFault
welcome_in bytes = do
  version ← number_at 4 bytes
  principal ← number_at 4 version.1
  client ← number_at 8 principal.1
  liveness ← number_at 8 client.1
  ended (answers.Welcome version.0 principal.0 client.0 liveness.0, []) liveness.1

abbrev pub reply_in : List ℕ → Result (Answer × List ℕ) RecordFault
reply_in bytes = do
  lost ← number_at 8 bytes
  Ok (answers.Reply lost.0, lost.1)

abbrev pub taken_in : List ℕ → Result (Answer × List ℕ) RecordFault
taken_in bytes = do
  position ← number_at 8 bytes
  ended (answers.Taken position.0, []) position.1

abbrev pub refused_in : List ℕ → Result (Answer × List ℕ) RecordFault
refused_in bytes = do
  code ← signed_at w32 4 bytes
  Ok (answers.Refused code.0, code.1)

abbrev pub fragment_in : List ℕ → Result (Answer × List ℕ) RecordFault
fragment_in bytes = do
  position ← number_at 8 bytes
  flags ← number_at 4 position.1
  Ok (answers.Fragment position.0 flags.0, flags.1)

abbrev pub done_in : List ℕ → Result (Answer × List ℕ) RecordFault
done_in bytes = do
  count ← number_at 4 bytes
  ended (answers.Done count.0, []) count.1

abbrev pub row_in : List ℕ → Result (Answer × List ℕ) RecordFault
row_in bytes = do
  number ← number_at 8 bytes
  type_id ← signed_at w32 4 number.1
  value ← signed_at w64 8 type_id.1
  Ok (answers.Row number.0 type_id.0 value.0, value.1)

abbrev pub value_in : List ℕ → Result (Answer × List ℕ) RecordFault
value_in bytes = do
  value ← signed_at w64 8 bytes
  ended (answers.Value value.0, []) value.1

abbrev pub bye_in : List ℕ → Result (Answer × List ℕ) RecordFault
bye_in bytes = do
  code ← signed_at w32 4 bytes
  Ok (answers.Bye code.0, code.1)

abbrev pub line_in : List ℕ → Result (Answer × List ℕ) RecordFault
line_in bytes = Ok (answers.Line, bytes)

abbrev pub part_in : List ℕ → Result (Answer × List ℕ) RecordFault
part_in bytes = do
  place ← number_at 4 bytes
  ended (answers.Part place.0, []) place.1

abbrev pub part_refused_in : List ℕ → Result (Answer × List ℕ) RecordFault
part_refused_in bytes = do
  code ← signed_at w32 4 bytes
  Ok (answers.PartRefused code.0, code.1)

abbrev pub publication_positions_in : List ℕ → Result (Answer × List ℕ) RecordFault
publication_positions_in bytes = do
  position ← number_at 8 bytes
  limit ← number_at 8 position.1
  sent ← number_at 8 limit.1
  consumed ← number_at 8 sent.1
  flags ← number_at 4 consumed.1
  ended (answers.PublicationPositions position.0 limit.0 sent.0 consumed.0 flags.0, []) flags.1

abbrev pub image_positions_in : List ℕ → Result (Answer × List ℕ) RecordFault
image_positions_in bytes = do
  joined ← number_at 8 bytes
  position ← number_at 8 joined.1
  received ← number_at 8 position.1
  ended (answers.ImagePositions joined.0 position.0 received.0, []) received.1

-- what follows a kind
unfoldable pub answer_in : ℕ → List ℕ → Result (Answer × List ℕ) RecordFault
answer_in kind bytes =
    if kind == 257 then welcome_in bytes
    else (if kind == 258 then reply_in bytes
    else (if kind == 259 then taken_in bytes
    else (if kind == 260 then refused_in bytes
    else (if kind == 261 then fragment_in bytes
    else (if kind == 262 then done_in bytes
    else (if kind == 263 then row_in bytes
    else (if kind == 264 then value_in bytes
    else (if kind == 265 then bye_in bytes
    else (if kind == 266 then line_in bytes
    else (if kind == 267 then part_in bytes
    else (if kind == 268 then part_refused_in bytes
    else (if kind == 269 then publication_positions_in bytes
    else (if kind == 270 then image_positions_in bytes
    else Err Unknown)))))))))))))

-- a record, and its tail: whatever follows a kind that is not known, the record is unknown
unfoldable pub answer_of : List ℕ → Result (Answer × List ℕ) RecordFault
answer_of bytes = number_at 4 bytes >>= λ kind. answer_in kind.0 kind.1

unfoldable pub kind_number : Answer → ℕ
kind_number (answers.Welcome version principal client liveness) = 257
kind_number (answers.Reply lost) = 258
kind_number (answers.Taken position) = 259
kind_number (answers.Refused code) = 260
kind_number (answers.Fragment position flags) = 261
kind_number (answers.Done count) = 262
kind_number (answers.Row number type_id value) = 263
kind_number (answers.Value value) = 264
kind_number (answers.Bye code) = 265
kind_number answers.Line = 266
kind_number (answers.Part place) = 267
kind_number (answers.PartRefused code) = 268
kind_number (answers.PublicationPositions position limit sent consumed flags) = 269
kind_number (answers.ImagePositions joined position received) = 270

unfoldable pub fields_bytes : Answer → List ℕ
fields_bytes (answers.Welcome version principal client liveness) = number_bytes 4 version ++ number_bytes 4 principal ++ number_bytes 8 client ++ number_bytes 8 liveness
fields_bytes (answers.Reply lost) = number_bytes 8 lost
fields_bytes (answers.Taken position) = number_bytes 8 position
fields_bytes (answers.Refused code) = signed_bytes w32 4 code
fields_bytes (answers.Fragment position flags) = number_bytes 8 position ++ number_bytes 4 flags
fields_bytes (answers.Done count) = number_bytes 4 count
fields_bytes (answers.Row number type_id value) = number_bytes 8 number ++ signed_bytes w32 4 type_id ++ signed_bytes w64 8 value
fields_bytes (answers.Value value) = signed_bytes w64 8 value
fields_bytes (answers.Bye code) = signed_bytes w32 4 code
fields_bytes answers.Line = []
fields_bytes (answers.Part place) = number_bytes 4 place
fields_bytes (answers.PartRefused code) = signed_bytes w32 4 code
fields_bytes (answers.PublicationPositions position limit sent consumed flags) = number_bytes 8 position ++ number_bytes 8 limit ++ number_bytes 8 sent ++ number_bytes 8 consumed ++ number_bytes 4 flags
fields_bytes (answers.ImagePositions joined position received) = number_bytes 8 joined ++ number_bytes 8 position ++ number_bytes 8 received

-- a record without its length
unfoldable pub answer_body : Answer → List ℕ → List ℕ
answer_body answer tail = number_bytes 4 (kind_number answer) ++ (fields_bytes answer ++ tail)

-- and with it
unfoldable pub answer_bytes : Answer → List ℕ → List ℕ
answer_bytes answer tail = framed (answer_body answer tail)

-- what can be read again: numbers fit their fields
abbrev pub IsAnswer : Answer → Type 0
IsAnswer (answers.Welcome version principal client liveness) = (version < 2 ^ 32) × (principal < 2 ^ 32) × (client < 2 ^ 64) × (liveness < 2 ^ 64)
IsAnswer (answers.Reply lost) = (lost < 2 ^ 64)
IsAnswer (answers.Taken position) = (position < 2 ^ 64)
IsAnswer (answers.Refused code) = (FitsSigned w32 code)
IsAnswer (answers.Fragment position flags) = (position < 2 ^ 64) × (flags < 2 ^ 32)
IsAnswer (answers.Done count) = (count < 2 ^ 32)
IsAnswer (answers.Row number type_id value) = (number < 2 ^ 64) × (FitsSigned w32 type_id) × (FitsSigned w64 value)
IsAnswer (answers.Value value) = (FitsSigned w64 value)
IsAnswer (answers.Bye code) = (FitsSigned w32 code)
IsAnswer answers.Line = Unit {0}
IsAnswer (answers.Part place) = (place < 2 ^ 32)
IsAnswer (answers.PartRefused code) = (FitsSigned w32 code)
IsAnswer (answers.PublicationPositions position limit sent consumed flags) = (position < 2 ^ 64) × (limit < 2 ^ 64) × (sent < 2 ^ 64) × (consumed < 2 ^ 64) × (flags < 2 ^ 32)
IsAnswer (answers.ImagePositions joined position received) = (joined < 2 ^ 64) × (position < 2 ^ 64) × (received < 2 ^ 64)

-- and a tail stands only where the kind has one
abbrev pub IsTail : Answer → List ℕ → Type 0
IsTail (answers.Welcome version principal client liveness) tail = tail ≡ []
IsTail (answers.Reply lost) tail = Unit {0}
IsTail (answers.Taken position) tail = tail ≡ []
IsTail (answers.Refused code) tail = Unit {0}
IsTail (answers.Fragment position flags) tail = Unit {0}
IsTail (answers.Done count) tail = tail ≡ []
IsTail (answers.Row number type_id value) tail = Unit {0}
IsTail (answers.Value value) tail = tail ≡ []
IsTail (answers.Bye code) tail = Unit {0}
IsTail answers.Line tail = Unit {0}
IsTail (answers.Part place) tail = tail ≡ []
IsTail (answers.PartRefused code) tail = Unit {0}
IsTail (answers.PublicationPositions position limit sent consumed flags) tail = tail ≡ []
IsTail (answers.ImagePositions joined position received) tail = tail ≡ []
