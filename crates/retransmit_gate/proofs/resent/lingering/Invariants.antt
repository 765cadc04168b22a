use Rattle.std.proofs.Common.{◌≡◌, take}
use Rattle.retransmit_gate.specs.Gate.{lingering}
use Rattle.retransmit_gate.proofs.resent.lingering.Given as goal

-- of the ranges so far those that linger are kept
abbrev pub invariant-loop-resent : goal.invariant-loop-resent
invariant-loop-resent l = l.kept ≡ lingering l.linger l.moment (take l.resent-index l.list)
