-- What contracts see of the sockets of the system.
use Rattle.std.specs.Prelude.{ℕ, ◌+◌, ◌-◌, ◌^◌, Bool, true, false, List, [], filter, max, min, nat_lt}
use Rattle.media_wire.specs.Doors.{Bound}

-- for how many there is room at once, those that are open, how many calls of send and recv were made and how many of them failed,
-- each as far as a number of 64 bits counts, and how many were made when the last turn ended
pub record Sockets (S : Type 0) : Type 0 where
  pub places : ℕ
  pub doors : List (Bound S)
  pub calls : ℕ
  pub turn : ℕ
  pub failures : ℕ

abbrev pub new_sockets : {S : Type 0} → ℕ → Sockets S
new_sockets places = record { places = max places 1; doors = []; calls = 0; turn = 0; failures = 0 }

-- one more, as far as a number of 64 bits counts
abbrev pub one_more : ℕ → ℕ
one_more count = min (count + 1) (2 ^ 64 - 1)

-- the calls that failed once one more was made
abbrev pub counted_once : Bool → ℕ → ℕ
counted_once true failures = failures
counted_once false failures = one_more failures

-- a call of send or recv was made, which succeeded or not
abbrev pub called_once : {S : Type 0} → Sockets S → List (Bound S) → Bool → Sockets S
called_once sockets doors succeeded =
    record sockets { doors = doors; calls = one_more sockets.calls; failures = counted_once succeeded sockets.failures }

abbrev pub is_used_after : {S : Type 0} → ℕ → Bound S → Bool
is_used_after call door = nat_lt call door.used

-- a turn ended: the sockets that were used in it stay open
abbrev pub turned : {S : Type 0} → Sockets S → Sockets S
turned sockets = record sockets { doors = filter (is_used_after sockets.turn) sockets.doors; turn = sockets.calls }
