use Rattle.std.proofs.Common.{◌≡◌, List, ◌++◌, length}
use Rattle.media_wire.specs.Events.{Event}
use Rattle.media_wire_tests.specs.Draining.{AreReads}
use Rattle.media_wire_tests.proofs.draining.drain.Given as goal

abbrev pub invariant-loop-count : goal.invariant-loop-count
invariant-loop-count g l = (events : List Event) → g.W.Wire.went l.initial.wire events →
    (reads : List Event) × g.W.Wire.went l.wire (events ++ reads) × AreReads l.local reads × (length reads ≡ l.count)
