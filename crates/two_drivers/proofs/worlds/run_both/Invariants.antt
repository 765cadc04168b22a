use Rattle.std.proofs.Common.{◌≡◌, ◌≤◌, [], length, take}
use Rattle.std.specs.Vec.{vec_capacity}
use Rattle.two_drivers.specs.Standing.{RunBoth, held_both}
use Rattle.two_drivers.specs.Worlds.{sent_of_all}
use Rattle.two_drivers.proofs.worlds.run_both.Given as goal

-- the steps so far ran with these answers, and there is room for the answers of all
abbrev pub invariant-loop-step : goal.invariant-loop-step
invariant-loop-step l = record {
  ran : RunBoth (held_both l.fn.first l.fn.second []) (held_both l.first l.second (sent_of_all (take l.step-index l.steps) l.answers.items)) (take l.step-index l.steps) l.answers.items;
  room : length l.steps ≤ vec_capacity l.answers;
  count : length l.answers.items ≡ l.step-index;
}
