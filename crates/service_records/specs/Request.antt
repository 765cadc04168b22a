-- The requests of a client. (The layout is this project's own.)
use Rattle.std.specs.Prelude.{ℕ, ◌<◌, ◌≤◌, ◌%◌, ◌^◌, ◌==◌, ◌≡◌, if◌then◌else◌, List, [], ◌++◌, length, Result, Ok, Err}
use Rattle.service_records.specs.declared.fault.RecordFault.{RecordFault}
use Rattle.service_records.specs.declared.fault.RecordFault.TheVariants.{Unknown}
use Rattle.service_records.specs.declared.request.Request.{Request}
use Rattle.service_records.specs.declared.request.Request.TheVariants as requests
use Rattle.service_records.specs.Gives.{◌>>=◌}
use Rattle.service_records.specs.Fields.{number_at, ended, paired, number_bytes}
use Rattle.service_records.specs.Framing.{framed}

abbrev pub command_in : List ℕ → Result (Request × List ℕ) RecordFault
command_in bytes = Ok (requests.Command, bytes)

abbrev pub offer_in : List ℕ → Result (Request × List ℕ) RecordFault
offer_in bytes = do
  seen ← number_at 4 bytes
  wait ← number_at 4 seen.1
  registration ← number_at 8 wait.1
  Ok (requests.Offer seen.0 wait.0 registration.0, registration.1)

abbrev pub poll_in : List ℕ → Result (Request × List ℕ) RecordFault
poll_in bytes = do
  limit ← number_at 4 bytes
  wait ← number_at 4 limit.1
  subscription ← number_at 8 wait.1
  source ← number_at 8 subscription.1
  ended (requests.Poll limit.0 wait.0 subscription.0 source.0, []) source.1

abbrev pub mail_in : List ℕ → Result (Request × List ℕ) RecordFault
mail_in bytes = do
  wait ← number_at 4 bytes
  ended (requests.Mail wait.0, []) wait.1

abbrev pub list_in : List ℕ → Result (Request × List ℕ) RecordFault
list_in bytes = ended (requests.List, []) bytes

abbrev pub value_in : List ℕ → Result (Request × List ℕ) RecordFault
value_in bytes = do
  number ← number_at 8 bytes
  ended (requests.Value number.0, []) number.1

abbrev pub stop_in : List ℕ → Result (Request × List ℕ) RecordFault
stop_in bytes = ended (requests.Stop, []) bytes

abbrev pub reload_in : List ℕ → Result (Request × List ℕ) RecordFault
reload_in bytes = ended (requests.Reload, []) bytes

abbrev pub status_in : List ℕ → Result (Request × List ℕ) RecordFault
status_in bytes = ended (requests.Status, []) bytes

abbrev pub poll_all_in : List ℕ → Result (Request × List ℕ) RecordFault
poll_all_in bytes = do
  limit ← number_at 4 bytes
  wait ← number_at 4 limit.1
  paired (requests.PollAll limit.0 wait.0, wait.1) wait.1

abbrev pub publication_positions_in : List ℕ → Result (Request × List ℕ) RecordFault
publication_positions_in bytes = do
  registration ← number_at 8 bytes
  ended (requests.PublicationPositions registration.0, []) registration.1

abbrev pub image_positions_in : List ℕ → Result (Request × List ℕ) RecordFault
image_positions_in bytes = do
  subscription ← number_at 8 bytes
  source ← number_at 8 subscription.1
  ended (requests.ImagePositions subscription.0 source.0, []) source.1

abbrev pub decisions_in : List ℕ → Result (Request × List ℕ) RecordFault
decisions_in bytes = do
  from ← number_at 8 bytes
  choice ← number_at 4 from.1
  ended (requests.Decisions from.0 choice.0, []) choice.1

-- what follows a kind
unfoldable pub request_in : ℕ → List ℕ → Result (Request × List ℕ) RecordFault
request_in kind bytes =
    if kind == 1 then command_in bytes
    else (if kind == 2 then offer_in bytes
    else (if kind == 3 then poll_in bytes
    else (if kind == 4 then mail_in bytes
    else (if kind == 5 then list_in bytes
    else (if kind == 6 then value_in bytes
    else (if kind == 7 then stop_in bytes
    else (if kind == 8 then reload_in bytes
    else (if kind == 9 then status_in bytes
    else (if kind == 10 then poll_all_in bytes
    else (if kind == 11 then publication_positions_in bytes
    else (if kind == 12 then image_positions_in bytes
    else (if kind == 13 then decisions_in bytes
    else Err Unknown))))))))))))

-- a record, and its tail: whatever follows a kind that is not known, the record is unknown
unfoldable pub request_of : List ℕ → Result (Request × List ℕ) RecordFault
request_of bytes = number_at 4 bytes >>= λ kind. request_in kind.0 kind.1

unfoldable pub kind_number : Request → ℕ
kind_number requests.Command = 1
kind_number (requests.Offer seen wait registration) = 2
kind_number (requests.Poll limit wait subscription source) = 3
kind_number (requests.Mail wait) = 4
kind_number requests.List = 5
kind_number (requests.Value number) = 6
kind_number requests.Stop = 7
kind_number requests.Reload = 8
kind_number requests.Status = 9
kind_number (requests.PollAll limit wait) = 10
kind_number (requests.PublicationPositions registration) = 11
kind_number (requests.ImagePositions subscription source) = 12
kind_number (requests.Decisions from choice) = 13

unfoldable pub fields_bytes : Request → List ℕ
fields_bytes requests.Command = []
fields_bytes (requests.Offer seen wait registration) = number_bytes 4 seen ++ number_bytes 4 wait ++ number_bytes 8 registration
fields_bytes (requests.Poll limit wait subscription source) = number_bytes 4 limit ++ number_bytes 4 wait ++ number_bytes 8 subscription ++ number_bytes 8 source
fields_bytes (requests.Mail wait) = number_bytes 4 wait
fields_bytes requests.List = []
fields_bytes (requests.Value number) = number_bytes 8 number
fields_bytes requests.Stop = []
fields_bytes requests.Reload = []
fields_bytes requests.Status = []
fields_bytes (requests.PollAll limit wait) = number_bytes 4 limit ++ number_bytes 4 wait
fields_bytes (requests.PublicationPositions registration) = number_bytes 8 registration
fields_bytes (requests.ImagePositions subscription source) = number_bytes 8 subscription ++ number_bytes 8 source
fields_bytes (requests.Decisions from choice) = number_bytes 8 from ++ number_bytes 4 choice

-- a record without its length
unfoldable pub request_body : Request → List ℕ → List ℕ
request_body request tail = number_bytes 4 (kind_number request) ++ (fields_bytes request ++ tail)

-- and with it
unfoldable pub request_bytes : Request → List ℕ → List ℕ
request_bytes request tail = framed (request_body request tail)

-- what can be read again: numbers fit their fields
abbrev pub IsRequest : Request → Type 0
IsRequest requests.Command = Unit {0}
IsRequest (requests.Offer seen wait registration) = (seen < 2 ^ 32) × (wait < 2 ^ 32) × (registration < 2 ^ 64)
IsRequest (requests.Poll limit wait subscription source) = (limit < 2 ^ 32) × (wait < 2 ^ 32) × (subscription < 2 ^ 64) × (source < 2 ^ 64)
IsRequest (requests.Mail wait) = (wait < 2 ^ 32)
IsRequest requests.List = Unit {0}
IsRequest (requests.Value number) = (number < 2 ^ 64)
IsRequest requests.Stop = Unit {0}
IsRequest requests.Reload = Unit {0}
IsRequest requests.Status = Unit {0}
IsRequest (requests.PollAll limit wait) = (limit < 2 ^ 32) × (wait < 2 ^ 32)
IsRequest (requests.PublicationPositions registration) = (registration < 2 ^ 64)
IsRequest (requests.ImagePositions subscription source) = (subscription < 2 ^ 64) × (source < 2 ^ 64)
IsRequest (requests.Decisions from choice) = (from < 2 ^ 64) × (choice < 2 ^ 32)

-- and a tail stands only where the kind has one
abbrev pub IsTail : Request → List ℕ → Type 0
IsTail requests.Command tail = Unit {0}
IsTail (requests.Offer seen wait registration) tail = Unit {0}
IsTail (requests.Poll limit wait subscription source) tail = tail ≡ []
IsTail (requests.Mail wait) tail = tail ≡ []
IsTail requests.List tail = tail ≡ []
IsTail (requests.Value number) tail = tail ≡ []
IsTail requests.Stop tail = tail ≡ []
IsTail requests.Reload tail = tail ≡ []
IsTail requests.Status tail = tail ≡ []
IsTail (requests.PollAll limit wait) tail = (length tail ≤ 1024) × (length tail % 16 ≡ 0)
IsTail (requests.PublicationPositions registration) tail = tail ≡ []
IsTail (requests.ImagePositions subscription source) tail = tail ≡ []
IsTail (requests.Decisions from choice) tail = tail ≡ []
