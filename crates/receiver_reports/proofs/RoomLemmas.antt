-- Where there is room for one more row.
use Rattle.std.proofs.Common.{ℕ, ◌<◌, ◌≤◌, Bool, List, length, take, filter, length-take-le, arith}
use Rattle.std.proofs.lemmas.List.Sums.{count_by-le-length, length-filter}

-- what passes of the first of a list leaves room for one more
pub room_left : {X : Type 0} (p : X → Bool) (xs : List X) (i n : ℕ) → i < length xs → length xs ≤ n → length (filter p (take i xs)) < n
room_left p xs i n before within =
    omega (arith, length-filter p (take i xs), count_by-le-length p (take i xs), length-take-le i xs (omega arith))
