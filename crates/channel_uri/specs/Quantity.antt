-- Sizes and durations, and the keys that have one (Aeron wiki, channel configuration: `mtu`, `term-length`, `linger`).
use Rattle.std.specs.Prelude.{ℕ, ◌*◌, ◌^◌, ◌%◌, ◌==◌, List, [], ◌∷◌, Option, Some, None, nat_le, codes, if◌then◌else◌}
use Rattle.std.specs.Int.{is_power_of_two}
use Rattle.channel_uri.specs.Number.{◌>>?◌, decimal_of, below}
use Rattle.channel_uri.specs.Syntax.{before_end}

-- a number that is below 2^63, as is that many times the factor
abbrev pub times : ℕ → List ℕ → Option ℕ
times factor digits = below (2 ^ 63) (decimal_of digits) >>? λ number. below (2 ^ 63) (Some (number * factor))

-- the number before the first of these units that the text ends in, or of the whole text where it ends in none
abbrev pub measured_from : Option (List ℕ) → ℕ → Option ℕ → Option ℕ
measured_from None factor others = others
measured_from (Some digits) factor others = times factor digits

abbrev pub measured : List (List ℕ × ℕ) → List ℕ → Option ℕ
measured [] text = times 1 text
measured (unit ∷ units) text = measured_from (before_end unit.0 text) unit.1 (measured units text)

-- the units of a size, in bytes
abbrev pub size_units : List (List ℕ × ℕ)
size_units =
    (codes "k", 1024) ∷ (codes "K", 1024) ∷ (codes "m", 1048576) ∷ (codes "M", 1048576)
    ∷ (codes "g", 1073741824) ∷ (codes "G", 1073741824) ∷ []

-- the units of a duration, in nanoseconds; own: without a unit it is in nanoseconds
abbrev pub duration_units : List (List ℕ × ℕ)
duration_units =
    (codes "ns", 1) ∷ (codes "us", 1000) ∷ (codes "ms", 1000000) ∷ (codes "s", 1000000000) ∷ []

unfoldable pub size_of : List ℕ → Option ℕ
size_of text = measured size_units text

-- a size that `mtu` may be: a multiple of 32 from 64 to 65504
unfoldable pub mtu_from : ℕ → Option ℕ
mtu_from size =
    if nat_le 64 size then if nat_le size 65504 then if size % 32 == 0 then Some size else None else None else None

unfoldable pub mtu_of : List ℕ → Option ℕ
mtu_of text = size_of text >>? mtu_from

-- a size that `term-length` may be: a power of two from 64 KiB to 16 MiB; own: the upper bound
unfoldable pub term_length_from : ℕ → Option ℕ
term_length_from size =
    if nat_le 65536 size then if nat_le size 16777216 then if is_power_of_two size then Some size else None else None else None

unfoldable pub term_length_of : List ℕ → Option ℕ
term_length_of text = size_of text >>? term_length_from

-- a duration for `linger`
unfoldable pub linger_of : List ℕ → Option ℕ
linger_of text = measured duration_units text
