-- The frames that a lease's bytes hold at the places of an index.
use Rattle.std.specs.Prelude.{ℕ, ◌+◌, ◌/◌, ◌%◌, ◌^◌, ◌<◌, ◌≤◌, List, [], ◌∷◌, take, drop, map}
use Rattle.log_arena.specs.Lease.{lease_bytes, lease_len}
use Rattle.log_arena.specs.declared.lease.Lease.{Lease}
use Rattle.image_log.specs.Frame.{Frame}
use Rattle.image_log.specs.Order.{Ordered}
use Rattle.image_log.specs.Stored.{Stored, IsBlank, bytes_beside, held_of}
use Rattle.image_log.specs.declared.place.Place.{Place}

-- the frame at a place, in `len` bytes
abbrev pub content : ℕ → List ℕ → Place → Frame
content len bytes p = record { position = p.position; span = p.span; bytes = take p.size (drop (p.position % len) bytes) }

abbrev pub contents : ℕ → List ℕ → List Place → List Frame
contents len bytes ps = map (content len bytes) ps

-- each place is whole within `len` bytes
abbrev pub Fits : ℕ → List Place → Type 0
Fits len [] = Unit {0}
Fits len (p ∷ ps) = (p.size ≤ p.span) × (p.position % len + p.span ≤ len) × Fits len ps

abbrev pub stored_of : Lease → ℕ → List Place → Stored
stored_of lease low places = record {
  held = held_of lease;
  low = low;
  frames = contents (lease_len lease) (lease_bytes lease) places;
  beside = bytes_beside (lease_len lease) (contents (lease_len lease) (lease_bytes lease) places) (lease_bytes lease);
}

-- places in order that hold all of the lease's bytes that are not 0, with room for so many places
pub record IsStore (lease : Lease) (low : ℕ) (places : List Place) (room : ℕ) : Type 0 where
  pub order : Ordered low (low + lease_len lease) (contents (lease_len lease) (lease_bytes lease) places)
  pub fits : Fits (lease_len lease) places
  pub blank : IsBlank (lease_len lease) (contents (lease_len lease) (lease_bytes lease) places) (lease_bytes lease)
  pub roomy : lease_len lease / 32 ≤ room
  pub high : low + lease_len lease < 2 ^ 63
