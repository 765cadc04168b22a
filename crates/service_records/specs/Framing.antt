-- Records in a stream of bytes: each stands after its length. (The layout is this project's own.)
use Rattle.std.specs.Prelude.{◌≡◌, ℕ, nat_lt, if◌then◌else◌, List, ◌++◌, length, take, drop, Option, Some, None, Result, Ok, Err}
use Rattle.service_records.specs.declared.fault.RecordFault.{RecordFault}
use Rattle.service_records.specs.declared.fault.RecordFault.TheVariants.{TooLong}
use Rattle.service_records.specs.declared.framing.Cut.{Cut}
use Rattle.service_records.specs.Fields.{number_in, number_bytes}

-- how long a record is at most, without its length
abbrev pub longest : ℕ
longest = 16777280

-- a record after its length
abbrev pub framed : List ℕ → List ℕ
framed body = number_bytes 4 (length body) ++ body

-- the record that so many bytes after its length are, and what follows it; none where not all of it is there yet
abbrev pub cut_at : ℕ → List ℕ → Result (Option (List ℕ × List ℕ)) RecordFault
cut_at size rest =
    if nat_lt longest size then Err TooLong
    else (if nat_lt (length rest) size then Ok None else Ok (Some (take size rest, drop size rest)))

-- the first record of a stream
unfoldable pub cut_of : List ℕ → Result (Option (List ℕ × List ℕ)) RecordFault
cut_of bytes = if nat_lt (length bytes) 4 then Ok None else cut_at (number_in 4 bytes) (drop 4 bytes)

-- what is answered, against what the definition says
abbrev pub IsCut : Result (Option Cut) RecordFault → Result (Option (List ℕ × List ℕ)) RecordFault → Type 0
IsCut (Ok None) read = read ≡ Ok None
IsCut (Ok (Some cut)) read = read ≡ Ok (Some (cut.record.now, cut.rest.now))
IsCut (Err fault) read = read ≡ Err fault

-- what was cut is the front, and what follows it is the rest
abbrev pub IsFront : Result (Option Cut) RecordFault → List ℕ → Type 0
IsFront (Ok None) bytes = Unit {0}
IsFront (Ok (Some cut)) bytes = bytes ≡ framed cut.record.now ++ cut.rest.now
IsFront (Err fault) bytes = Unit {0}
