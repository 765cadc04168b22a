-- The moment that a word names: so many nanoseconds since 1970, or a date (RFC 3339).
use Rattle.std.specs.Prelude.{ℕ, ℤ, pos, ◌^◌, List, Option, Some, None, Result, Ok, Err, codes, int_lt, unsigned_abs, if◌then◌else◌}
use Rattle.channel_uri.specs.Number.{below, decimal_of}
use Rattle.jiff.specs.Words.{Error, parse_timestamp}
use Rattle.moment_words.specs.declared.moment.MomentFault.{MomentFault}
use Rattle.moment_words.specs.declared.moment.MomentFault.TheVariants.{NoMoment, TooEarly, TooLate}

-- nanoseconds since 1970 that are a moment: from 0, and below 2^63
abbrev pub within : ℤ → Result ℕ MomentFault
within nanoseconds =
    if int_lt nanoseconds (pos 0) then Err TooEarly
    else if int_lt nanoseconds (pos (2 ^ 63)) then Ok (unsigned_abs nanoseconds)
    else Err TooLate

-- the same of a number that was written
abbrev pub found : Option ℕ → Result ℕ MomentFault
found None = Err TooLate
found (Some moment) = Ok moment

abbrev pub numbered : Option ℕ → Result ℕ MomentFault
numbered number = found (below (2 ^ 63) number)

-- the moment of the instant that is read in a text
abbrev pub date_from : Result ℤ Error → Result ℕ MomentFault
date_from (Ok nanoseconds) = within nanoseconds
date_from (Err error) = Err NoMoment

-- digits are a number of nanoseconds; what else the text is, it is as a date
abbrev pub moment_from : List ℕ → Option ℕ → Result ℕ MomentFault
moment_from text (Some number) = numbered (Some number)
moment_from text None = date_from (parse_timestamp text)

unfoldable pub moment_of : List ℕ → Result ℕ MomentFault
moment_of text = moment_from text (decimal_of text)

-- the usual moment where no word names one
abbrev pub moment_or : Option (List ℕ) → ℕ → Result ℕ MomentFault
moment_or None usual = Ok usual
moment_or (Some word) usual = moment_of word

-- the words for a fault
abbrev pub fault_text : MomentFault → List ℕ
fault_text NoMoment = codes "neither nanoseconds since 1970 nor a date such as 2026-12-01T08:00:00Z"
fault_text TooEarly = codes "a moment before 1970"
fault_text TooLate = codes "a moment past 9223372036854775807, which is 2262-04-11T23:47:16.854775807Z"
