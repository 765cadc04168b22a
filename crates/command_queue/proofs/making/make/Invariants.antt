use Rattle.std.proofs.Common.{◌≡◌}
use Rattle.std.specs.Arc.{arc_value}
use Rattle.crossbeam_queue.specs.Passes.{IsPassOf, ruled_capacity, view}
use Rattle.command_queue.specs.Sent.{new_senders}
use Rattle.command_queue.specs.Views.{taking}
use Rattle.command_queue.proofs.making.make.Given as goal

abbrev pub invariant-loop-number : goal.invariant-loop-number
invariant-loop-number g l = IsPassOf (arc_value l.queue) l.pass × (ruled_capacity (arc_value l.queue) ≡ 1024)
    × (view l.pass ≡ taking l.passes l.number) × (l.senders.items ≡ new_senders l.pass.table_id l.passes l.number)
