-- What a connection does for its client: calls of that client, each with what it was answered. Own rules.
use Rattle.std.specs.Prelude.{◌≡◌, ℕ, ℤ, List, [], ◌∷◌, ◌++◌, All, Bool, Option, Some, None, Result, Ok, Err}
use Rattle.driver_service.specs.declared.positions.ImagePositions.{ImagePositions}
use Rattle.driver_service.specs.declared.positions.PublicationPositions.{PublicationPositions}
use Rattle.driver_service.specs.declared.reason.Refusal.{Refusal}

pub data Call : Type 0 where
  -- the client is heard of
  Stay : Call
  -- bytes go to the driver as a command over its handle
  Command : List ℕ → Option Refusal → Call
  -- by this registration, that message
  Offer : ℕ → List ℕ → Result ℕ Refusal → Call
  -- by this subscription, that log, so many fragments; what was written of them
  Poll : ℕ → ℕ → ℕ → List ℕ → Result ℕ Refusal → Call
  -- what was written of a reply, and whether there was one
  Mail : List ℕ → Result Bool Refusal → Call
  -- what was written of the counters
  Look : List ℕ → Result ℕ Refusal → Call
  -- of this number
  Value : ℕ → Result ℤ Refusal → Call
  -- by this registration, how far its log has come
  Publication : ℕ → Result PublicationPositions Refusal → Call
  -- by this subscription, how far it has come with that log
  Image : ℕ → ℕ → Result ImagePositions Refusal → Call

-- the refusal of a call that gives nothing else
abbrev pub refusal_of : {T : Type 0} → Result T Refusal → Option Refusal
refusal_of (Ok _) = None
refusal_of (Err refusal) = Some refusal

-- bytes stand at the end, of which this holds
pub record Writes (old new : List ℕ) (P : List ℕ → Type 0) : Type 0 where
  pub bytes : List ℕ
  pub appended : new ≡ old ++ bytes
  pub holds : P bytes

-- what a call makes of a client: the client before it, the call, and the client after it
abbrev pub Does : Type 0 → Type 1
Does S = S → Call → S → Type 0

-- these calls, one after another
abbrev pub Run : {S : Type 0} → Does S → S → List Call → S → Type 0
Run does old [] new = new ≡ old
Run {S} does old (call ∷ calls) new = (next : S) × does old call next × Run does next calls new

-- calls were made, and each of them is of these
pub record CallsOnly {S : Type 0} (does : Does S) (own : Call → Type 0) (old new : S) : Type 0 where
  pub calls : List Call
  pub each : All own calls
  pub run : Run does old calls new
