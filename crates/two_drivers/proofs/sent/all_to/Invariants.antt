use Rattle.std.proofs.Common.{◌≡◌, ◌++◌, List, drop}
use Rattle.two_drivers.specs.Drivers.{numbered}
use Rattle.two_drivers.specs.Sent.{Datagram, all_to}
use Rattle.two_drivers.proofs.sent.all_to.Given as goal

-- the datagram of that number is the one of the number that is left, among the later ones
abbrev pub invariant-loop-bytes : goal.invariant-loop-bytes
invariant-loop-bytes l =
    (later : List Datagram) → numbered l.number (all_to l.to l.datagrams ++ later) ≡ numbered l.left (all_to l.to (drop l.bytes-index l.datagrams) ++ later)
