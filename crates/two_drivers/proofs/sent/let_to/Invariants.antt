use Rattle.std.proofs.Common.{◌≡◌, ◌++◌, List, drop}
use Rattle.two_drivers.specs.Drivers.{numbered}
use Rattle.two_drivers.specs.Sent.{Datagram, let_to}
use Rattle.two_drivers.proofs.sent.let_to.Given as goal

-- the datagram of that number is the one of the number that is left, among those to the later outlets
abbrev pub invariant-loop-outlet : goal.invariant-loop-outlet
invariant-loop-outlet l =
    (later : List Datagram) → numbered l.number (let_to l.bytes l.outlets ++ later) ≡ numbered l.left (let_to l.bytes (drop l.outlet-index l.outlets) ++ later)
