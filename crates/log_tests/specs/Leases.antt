-- Leases of one arena.
use Rattle.std.specs.Prelude.{◌≡◌, List, [], ◌∷◌}
use Rattle.log_arena.specs.Homes.{Home}
use Rattle.log_arena.specs.Lease.{lease_home}
use Rattle.log_arena.specs.declared.lease.Lease.{Lease}

-- each of the leases is of this region
abbrev pub AllOf : Home → List Lease → Type 0
AllOf home [] = Unit {0}
AllOf home (l ∷ ls) = (lease_home l ≡ home) × AllOf home ls
