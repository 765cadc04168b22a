use Rattle.std.proofs.Common.{◌≡◌, drop}
use Rattle.stream_registry.specs.Joining.{joined_at}
use Rattle.stream_registry.proofs.joining.joined_at.Given as goal

-- the logs that are left decide
abbrev pub invariant-loop-log : goal.invariant-loop-log
invariant-loop-log l =
    joined_at (drop l.log-index l.logs) l.channel l.stream ≡ joined_at l.logs l.channel l.stream
