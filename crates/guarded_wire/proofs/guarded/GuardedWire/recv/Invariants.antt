use Rattle.guarded_wire.proofs.Guarding.{IsSoFar}
use Rattle.guarded_wire.proofs.guarded.GuardedWire.recv.Given as goal

abbrev pub invariant-loop-dropped : goal.invariant-loop-dropped
invariant-loop-dropped g l = IsSoFar g.W.Wire.went l.fn.self.wire l.self.wire l.fn.self.guard l.self.guard l._dropped
