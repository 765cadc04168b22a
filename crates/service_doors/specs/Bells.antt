-- How a connection waits. Own rules; times are in nanoseconds.
use Rattle.std.specs.Prelude.{◌/◌, max, min, ℕ}

-- half as long as it waited so far, but a millisecond at least and 50 at most
abbrev pub nap_for : ℕ → ℕ
nap_for waited = min (max (waited / 2) 1000000) 50000000
