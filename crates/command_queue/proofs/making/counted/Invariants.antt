use Rattle.std.proofs.Common.{◌≡◌}
use Rattle.crossbeam_queue.specs.Passes.{IsPassOf, ruled_capacity, view}
use Rattle.command_queue.specs.Views.{taking}
use Rattle.command_queue.proofs.making.counted.Given as goal

abbrev pub invariant-loop-made : goal.invariant-loop-made
invariant-loop-made g l = IsPassOf l.queue l.pass × (ruled_capacity l.queue ≡ 1024) × (view l.pass ≡ taking l._made 0)
