use Rattle.std.proofs.Common.{◌≡◌, ◌++◌, drop, map}
use Rattle.driver_core.specs.SendRequests.{learnt_outlet}
use Rattle.learnt_addresses.specs.LearntAddresses.{standing}
use Rattle.driver_core.proofs.state.registry.Registry.learnt_outlets.Given as goal

-- what was put there so far, and then those of the addresses that are left
abbrev pub invariant-loop-address : goal.invariant-loop-address
invariant-loop-address l =
    l.outlets ++ map (learnt_outlet l.self l.log) (standing l.now l.timeout (drop l.address-index l.learnt))
    ≡ l.initial.outlets ++ map (learnt_outlet l.self l.log) (standing l.now l.timeout l.learnt)
