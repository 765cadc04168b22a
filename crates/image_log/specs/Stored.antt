-- What contracts see of the frames that are kept in a lease.
use Rattle.std.specs.Prelude.{◌≡◌, ℕ, ◌+◌, ◌%◌, Bool, false, ◌&&◌, nat_lt, nat_le, if◌then◌else◌, List, [], ◌∷◌, length, map, replicate, take, drop, slice_index, slice_index_or}
use Rattle.std.specs.List.{list_any, range_with_len}
use Rattle.log_arena.specs.Homes.{Home}
use Rattle.log_arena.specs.Lease.{lease_home, lease_place, lease_len}
use Rattle.log_arena.specs.declared.lease.Lease.{Lease}
use Rattle.image_log.specs.Frame.{Frame, no_frame}

-- which lease of which region it is, and how many bytes it has
pub record Held : Type 0 where
  pub home : Home
  pub place : ℕ
  pub len : ℕ

abbrev pub held_of : Lease → Held
held_of l = record { home = lease_home l; place = lease_place l; len = lease_len l }

-- the lease, the position below which no frame begins, the frames in order, and the lease's bytes beside them
pub record Stored : Type 0 where
  pub held : Held
  pub low : ℕ
  pub frames : List Frame
  pub beside : List ℕ

-- no frame yet, and zeros
abbrev pub stored_in : Held → ℕ → Stored
stored_in held low = record { held = held; low = low; frames = []; beside = replicate held.len 0 }

-- the frame at an index
abbrev pub frame_at : List Frame → ℕ → Frame
frame_at fs i = slice_index_or fs i no_frame

-- ---- the bytes of the lease

-- byte i of `len` bytes is one of the frame
abbrev pub covers : ℕ → ℕ → Frame → Bool
covers len i f = nat_le (f.position % len) i && nat_lt i (f.position % len + length f.bytes)

-- the `len` bytes beside the frames: those of a frame count as 0
unfoldable pub bytes_beside : ℕ → List Frame → List ℕ → List ℕ
bytes_beside len fs bytes = map (λ i. if list_any (covers len i) fs then 0 else slice_index bytes i) (range_with_len 0 len)

-- each byte that is none of a frame's is 0
unfoldable pub IsBlank : ℕ → List Frame → List ℕ → Type 0
IsBlank len fs bytes = (i : ℕ) → list_any (covers len i) fs ≡ false → slice_index bytes i ≡ 0

-- the bytes of each frame stand at its position modulo `len`
abbrev pub StandIn : ℕ → List Frame → List ℕ → Type 0
StandIn len [] bytes = Unit {0}
StandIn len (f ∷ fs) bytes = (take (length f.bytes) (drop (f.position % len) bytes) ≡ f.bytes) × StandIn len fs bytes
