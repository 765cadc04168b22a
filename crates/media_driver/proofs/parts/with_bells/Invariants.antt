use Rattle.std.proofs.Common.{◌≡◌, ◌+◌, [], All, length}
use Rattle.command_queue.specs.Sent.{Sent}
use Rattle.driver_core.specs.declared.state.event.Event.{Event}
use Rattle.media_driver.proofs.parts.with_bells.Given as goal

abbrev pub invariant-loop-given : goal.invariant-loop-given
invariant-loop-given l =
    All (λ (sender : Sent Event). sender.sent ≡ []) l.senders.items
    × All (λ (sender : Sent Event). sender.sent ≡ []) l.made.items
    × (length l.senders.items + l._given ≡ 66)
    × (length l.made.items ≡ l._given)
