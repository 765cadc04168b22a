-- How many clients a process has descriptors for. Own rules.
use Rattle.std.specs.Prelude.{ℕ, ◌-◌, ◌/◌, max}

-- Four for each client of each door, of those that are not open and of which eight are left for others; one client at least.
abbrev pub clients_for : ℕ → ℕ → ℕ → ℕ
clients_for limit taken doors = max ((limit - taken - 8) / 4 / max doors 1) 1
