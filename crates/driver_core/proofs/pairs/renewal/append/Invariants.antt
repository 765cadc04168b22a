use Rattle.std.proofs.Common.{◌≡◌, ◌++◌, drop}
use Rattle.driver_core.proofs.pairs.renewal.append.Given as goal

-- the messages so far, and then those that are left
abbrev pub invariant-loop-message : goal.invariant-loop-message
invariant-loop-message l = l.messages ++ drop l.message-index l.more ≡ l.initial.messages ++ l.more
