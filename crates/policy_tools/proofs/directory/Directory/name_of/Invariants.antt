use Rattle.std.proofs.Common.{◌≡◌, drop}
use Rattle.policy_tools.specs.Directory.{first_of}
use Rattle.policy_tools.proofs.directory.Directory.name_of.Given as goal

-- the names that are left decide
abbrev pub invariant-loop-name : goal.invariant-loop-name
invariant-loop-name l =
    first_of l.number (drop l.name-index l.name-items) ≡ first_of l.number l.name-items
