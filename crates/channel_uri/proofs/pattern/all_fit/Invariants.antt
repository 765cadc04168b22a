use Rattle.std.proofs.Common.{◌≡◌, drop}
use Rattle.channel_uri.specs.Pattern.{all_fit}
use Rattle.channel_uri.proofs.pattern.all_fit.Given as goal

-- the pairs that are left decide
abbrev pub invariant-loop-at : goal.invariant-loop-at
invariant-loop-at l = all_fit (drop l.at l.wanted) l.keys ≡ all_fit l.wanted l.keys
