-- What the clients of a door take of the processors, and for how long they rest for it. Own rules; moments and times are in
-- nanoseconds.
use Rattle.std.specs.Prelude.{◌&&◌, ◌*◌, ◌+◌, ◌-◌, ◌/◌, ◌==◌, ◌^◌, max, min, nat_lt, not, ℕ, Bool, List, [], ◌∷◌, if◌then◌else◌}
use Rattle.door_budgets.specs.declared.taken.Taken.{Taken}

-- who had something to do less than 20 milliseconds ago is at work
abbrev pub is_at_work : ℕ → ℕ → Bool
is_at_work last now = nat_lt (now - last) 20000000

abbrev pub is_other_at_work : ℕ → ℕ → Taken → Bool
is_other_at_work principal now door = not (door.principal == principal) && is_at_work door.last now

-- how many other doors have clients that are at work
abbrev pub count_at_work : ℕ → ℕ → List Taken → ℕ
count_at_work principal now [] = 0
count_at_work principal now (door ∷ doors) = (if is_other_at_work principal now door then 1 else 0) + count_at_work principal now doors

-- no number is greater than the greatest one of 64 bits
abbrev pub capped : ℕ → ℕ
capped count = min count (2 ^ 64 - 1)

-- Half of the processors that count are for the doors that are at work, an equal part for each: so long it takes until its part
-- makes up for what was taken.
abbrev pub due_for : ℕ → ℕ → ℕ → ℕ
due_for spent doors processors = capped (capped (spent * 2) * doors) / max processors 1

-- Half of the processors are for the doors while the driver itself carries something, and otherwise all: so many count, of which
-- the doors have half.
abbrev pub counted : Bool → ℕ → ℕ
counted carries processors = if carries then processors else capped (processors * 2)

-- that is due after all that was due before; what is due later than in a second is forgiven
abbrev pub after_taking : Taken → ℕ → ℕ → ℕ → ℕ → Taken
after_taking door now spent doors processors = record {
  principal = door.principal;
  last = now;
  even = min (capped (max door.even now + due_for spent doors processors)) (capped (now + 1000000000));
}

-- nothing is due where nobody else is at work
abbrev pub after_taking_alone : Taken → ℕ → Taken
after_taking_alone door now = record { principal = door.principal; last = now; even = now }

unfoldable pub after_taking_by : ℕ → ℕ → ℕ → ℕ → Bool → ℕ → Taken → Taken
after_taking_by principal now spent others carries processors door =
    if door.principal == principal
    then (if (others == 0) && not carries then after_taking_alone door now else after_taking door now spent (capped (others + 1)) (counted carries processors))
    else door

-- ten milliseconds may be taken at once
abbrev pub rest_for : Taken → ℕ → ℕ
rest_for door now = door.even - now - 10000000

abbrev pub rest_of : ℕ → ℕ → List Taken → ℕ
rest_of principal now [] = 0
rest_of principal now (door ∷ doors) = if door.principal == principal then rest_for door now else rest_of principal now doors
