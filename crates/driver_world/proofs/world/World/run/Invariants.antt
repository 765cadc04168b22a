use Rattle.std.proofs.Common.{◌≡◌, ◌≤◌, length, take}
use Rattle.std.specs.Vec.{vec_capacity}
use Rattle.driver_world.specs.Standing.{Runs}
use Rattle.driver_world.proofs.world.World.run.Given as goal

-- the steps so far ran with these answers, and there is room for the answers of all
abbrev pub invariant-loop-reading : goal.invariant-loop-reading
invariant-loop-reading l = record {
  ran : Runs l.fn.self l.self (take l.reading-index l.readings) l.answers.items;
  room : length l.readings ≤ vec_capacity l.answers;
  count : length l.answers.items ≡ l.reading-index;
}
