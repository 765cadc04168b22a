-- The numbers of a script: decimals of any length, as in a channel.
use Rattle.std.specs.Prelude.{ℕ, ◌^◌, List, Option}
use Rattle.channel_uri.specs.Number.{below, decimal_of}

-- numbers of 64 bits and of 32
abbrev pub number_of : List ℕ → Option ℕ
number_of word = below (2 ^ 64) (decimal_of word)

abbrev pub small_number_of : List ℕ → Option ℕ
small_number_of word = below (2 ^ 32) (decimal_of word)
