-- Which records take much memory while they are not whole. Own rules.
use Rattle.std.specs.Prelude.{ℕ, ◌+◌, nat_lt, if◌then◌else◌, List, length}
use Rattle.byteorder.specs.Endian.{little_number}

-- those of more than half a mebibyte
abbrev pub is_long : ℕ → ℕ
is_long size = if nat_lt 524288 size then size + 4 else 0

-- how many bytes the record takes with which these begin, with its length field, where it is a long one; else 0
abbrev pub long_of : List ℕ → ℕ
long_of bytes = if nat_lt (length bytes) 4 then 0 else is_long (little_number 4 bytes)
