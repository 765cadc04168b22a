use Rattle.std.proofs.Common.{◌≡◌, drop}
use Rattle.two_drivers.specs.Drivers.{numbered}
use Rattle.two_drivers.specs.Worlds.{sent_of_all}
use Rattle.two_drivers.proofs.sent.find_sent.Given as goal

-- the datagram of that number is the one of the number that is left, among those of the later steps
abbrev pub invariant-loop-at : goal.invariant-loop-at
invariant-loop-at l =
    numbered l.number (sent_of_all l.steps l.answers) ≡ numbered l.left (sent_of_all (drop l.at l.steps) (drop l.at l.answers))
