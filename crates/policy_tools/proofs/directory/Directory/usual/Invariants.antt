use Rattle.std.proofs.Common.{◌≡◌, ◌≤◌, ◌-◌}
use Rattle.policy_query.specs.Deciding.{principals_to}
use Rattle.policy_tools.proofs.directory.Directory.usual.Given as goal

-- the names so far are those up to the count
abbrev pub invariant-names : goal.invariant-names
invariant-names l = (l.count ≤ 63) × (l.directory ≡ principals_to l.count)

abbrev pub decreases-names : goal.decreases-names
decreases-names l = 63 - l.count
