-- How much the clients of a door may have. Own rules.
use Rattle.std.specs.Prelude.{ℕ, max, ◌/◌, Option, Some, None}
use Rattle.service_bounds.specs.declared.bounds.Bounds.{Bounds}
use Rattle.service_doors.specs.declared.serving.AskedBounds.{AskedBounds}

-- what was asked for; else an equal part of all that a driver has room for
abbrev pub part : Option ℕ → ℕ → ℕ → ℕ
part (Some asked) all doors = asked
part None all doors = all / max doors 1

-- of 256 publications, 512 subscriptions and 1,024 counters, and of so many pages; and an equal part of a queue of 1,024 commands
abbrev pub bounds_for : AskedBounds → ℕ → ℕ → Bounds
bounds_for asked pages doors = record {
  publications = part asked.publications 256 doors;
  pages = part asked.pages pages doors;
  subscriptions = part asked.subscriptions 512 doors;
  counters = part asked.counters 1024 doors;
  commands = max (1024 / max doors 1) 1;
}

abbrev pub each_of : Option ℕ → ℕ → ℕ
each_of (Some asked) equal = asked
each_of None equal = max equal 1

-- how many clients each door may have at once: of 64 an equal part, and one at least, where nothing else was asked
abbrev pub each_for : AskedBounds → ℕ → ℕ
each_for asked doors = each_of asked.each (64 / max doors 1)
