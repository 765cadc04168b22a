use Rattle.std.proofs.Common.{◌≡◌, length, take}
use Rattle.retransmit_gate.specs.Gate.{lingering}
use Rattle.retransmit_gate.proofs.resent.count_lingering.Given as goal

-- so many of the ranges so far linger
abbrev pub invariant-loop-resent : goal.invariant-loop-resent
invariant-loop-resent l = l.count ≡ length (lingering l.linger l.moment (take l.resent-index l.list))
