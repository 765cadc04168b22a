-- A lease, and which region it is of.
use Rattle.std.specs.Prelude.{◌≡◌, ℕ, ◌+◌, ◌*◌, ◌<◌, ◌≤◌, Bool, true, List}
use Rattle.std.specs.Borrow.{MutBor, Lends, u8}
use Rattle.std.specs.Vec.{with_items}
use base.Fml.{Fml}
use denote.Array.{Array}
use Rattle.log_arena.specs.declared.lease.Lease.{Lease}
use Rattle.log_arena.specs.contracts.lease.Lease.{the_row}
use Rattle.log_arena.specs.Homes.{Home, back}
use Rattle.log_arena.specs.Pages.{Region, has_lease}

-- where it begins in its region, in bytes
abbrev pub lease_place : Lease → ℕ
lease_place l = l.place

-- how many bytes it has
abbrev pub lease_len : Lease → ℕ
lease_len l = l.bytes.len

-- its bytes
abbrev pub lease_bytes : Lease → List ℕ
lease_bytes l = l.bytes.items

-- the region that it is of
abbrev pub lease_home : Lease → Home
lease_home l = record { base = back l.bytes.ptr l.place; pages = l.pages }

-- l is a lease of the region r: this does not change as other pages get a lease or lose it
abbrev pub IsOf : Region → Lease → Type 0
IsOf r l = lease_home l ≡ r.home

-- page k of the region is one of the lease's
abbrev pub HasPage : Lease → ℕ → Type 0
HasPage l k = (l.place ≤ 4096 * k) × (4096 * k < l.place + l.bytes.len)

-- two leases of one region share no page
unfoldable pub ShareNoPage : Lease → Lease → Type 0
ShareNoPage a b = lease_home a ≡ lease_home b → (k : ℕ) → HasPage a k → ¬ HasPage b k

-- each page of the lease has a lease in the table t
unfoldable pub HasItsPages : List Bool → Lease → Type 0
HasItsPages t l = (k : ℕ) → HasPage l k → has_lease t k ≡ true

-- the same lease: the same bytes in memory at the same place of the same region
pub record IsSame (old new : Lease) : Type 0 where
  pub pages : new.pages ≡ old.pages
  pub place : new.place ≡ old.place
  pub len : new.bytes.len ≡ old.bytes.len
  pub items : new.bytes.items ≡ old.bytes.items
  pub at : new.bytes.ptr ≡ old.bytes.ptr

-- the lease with other bytes, as many as it has
abbrev pub with_bytes : Lease → List ℕ → Lease
with_bytes l ws = record l { bytes = with_items l.bytes ws }

-- r lends the bytes of l, which are then what was written through r
abbrev pub LendsBytes : MutBor Lease → MutBor (List ℕ) → Fml
LendsBytes l r = Lends the_row (Array u8 0) l r (with_bytes l.now)
