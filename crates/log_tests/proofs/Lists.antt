-- Leases of one arena: one more, one fewer.
use Rattle.std.proofs.Common.{◌≡◌, ℕ, zero, suc, ◌<◌, List, [], ◌∷◌, ◌++◌, length, get_or, subst, sym, arith}
use Rattle.std.specs.List.{remove}
use Rattle.log_arena.specs.Homes.{Home}
use Rattle.log_arena.specs.Lease.{lease_home}
use Rattle.log_arena.specs.declared.lease.Lease.{Lease}
use Rattle.log_tests.specs.Leases.{AllOf}

pub all-push : (home : Home) (ls : List Lease) (l : Lease) → AllOf home ls → lease_home l ≡ home → AllOf home (ls ++ l ∷ [])
all-push home [] l all is = (is, tt)
all-push home (k ∷ ls) l all is = (all.0, all-push home ls l all.1 is)

pub all-remove : (home : Home) (at : ℕ) (ls : List Lease) → AllOf home ls → AllOf home (remove ls at)
all-remove home zero [] all = tt
all-remove home (suc at) [] all = tt
all-remove home zero (l ∷ ls) all = all.1
all-remove home (suc at) (l ∷ ls) all = (all.0, all-remove home at ls all.1)

pub all-at : (home : Home) (at : ℕ) (ls : List Lease) (l : Lease) → AllOf home ls → at < length ls → l ≡ get_or ls at l → lease_home l ≡ home
all-at home at [] l all h e = absurd (omega arith)
all-at home zero (k ∷ ls) l all h e = subst (λ (x : Lease). lease_home x ≡ home) (sym e) all.0
all-at home (suc at) (k ∷ ls) l all h e = all-at home at ls l all.1 (omega arith) e
