use Rattle.std.proofs.Common.{◌≡◌, ◌+◌, length}
use Rattle.media_driver.specs.Parts.{AreFresh}
use Rattle.media_driver.proofs.seats.make_seats.Given as goal

abbrev pub invariant-loop-place : goal.invariant-loop-place
invariant-loop-place g l =
    AreFresh g.N.DriverNaming.book l.hands.passes.items l.hands.senders.items
    × (length l.hands.passes.items + l.place ≡ 64)
    × (length l.hands.senders.items + l.place ≡ 64)
    × (l.seats ≡ l.place)
