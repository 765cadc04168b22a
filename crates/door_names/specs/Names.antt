-- Which texts name a door, or are the path of its socket. Own rules; `/` is 47, `.` is 46, and control bytes are those below
-- 32, and 127.
use Rattle.std.specs.Prelude.{ℕ, Bool, not, ◌&&◌, ◌||◌, ◌==◌, nat_le, List, [], ◌∷◌, if◌then◌else◌}
use Rattle.std.specs.List.{list_all}

abbrev pub is_control : ℕ → Bool
is_control byte = not (nat_le 32 byte) || byte == 127

-- no part of a path is empty, begins with a `.`, or has two of them one after another
abbrev pub may_follow : ℕ → ℕ → Bool
may_follow before byte =
    if byte == 46 then not (before == 47) && not (before == 46)
    else if byte == 47 then not (before == 47)
    else not (is_control byte)

-- each byte may stand after the one before it, and the last part is not empty
abbrev pub go_on : ℕ → List ℕ → Bool
go_on before [] = not (before == 47)
go_on before (byte ∷ bytes) = may_follow before byte && go_on byte bytes

-- it has one part alone
abbrev pub is_one : List ℕ → Bool
is_one text = list_all (λ byte. not (byte == 47)) text

-- a path of one part
abbrev pub is_name : List ℕ → Bool
is_name text = is_one text && go_on 47 text

-- parts with one `/` between them, and perhaps one before them
abbrev pub is_path : List ℕ → Bool
is_path [] = go_on 47 []
is_path (byte ∷ bytes) = if byte == 47 then go_on 47 bytes else go_on 47 (byte ∷ bytes)
