use Rattle.policy_tools.specs.Directory.{AreNames}
use Rattle.policy_tools.proofs.directory.Directory.read.Given as goal

-- the names so far can be names of doors
abbrev pub invariant-lines : goal.invariant-lines
invariant-lines l = AreNames l.directory
