-- The value of a setting on a command line, as a script's `set` has it (own; units as in Aeron wiki, channel configuration).
use Rattle.std.specs.Prelude.{ℕ, ◌==◌, List, Option, Some, None, if◌then◌else◌}
use Rattle.std.specs.Fmt.{decimal}
use Rattle.std.specs.Option.{option_map}
use Rattle.channel_uri.specs.Number.{◌>>?◌}
use Rattle.channel_uri.specs.Quantity.{linger_of, size_of}
use Rattle.channel_uri.specs.Syntax.{address_read}
use Rattle.setting_words.specs.declared.keys.Kind.{Kind}
use Rattle.setting_words.specs.declared.keys.Kind.TheVariants.{Duration, Time, Size, Number, Address}

abbrev pub above_zero : ℕ → Option ℕ
above_zero number = if number == 0 then None else Some number

-- a duration that is not 0
abbrev pub time_of : List ℕ → Option ℕ
time_of value = linger_of value >>? above_zero

-- durations in nanoseconds and sizes in bytes, as a channel may state them; and addresses as a channel reads them
abbrev pub plain : Kind → List ℕ → Option (List ℕ)
plain Duration value = option_map decimal (linger_of value)
plain Time value = option_map decimal (time_of value)
plain Size value = option_map decimal (size_of value)
plain Number value = Some value
plain Address value = Some (address_read value)
