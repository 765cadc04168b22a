use Rattle.std.proofs.Common.{◌≡◌, drop}
use Rattle.channel_uri.specs.Values.{first_fault}
use Rattle.channel_uri.proofs.values.first_fault.Given as goal

-- the pairs that are left decide
abbrev pub invariant-loop-at : goal.invariant-loop-at
invariant-loop-at l = first_fault (drop l.at l.keys) ≡ first_fault l.keys
