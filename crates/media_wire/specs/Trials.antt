-- A wire of which one call fails, or all from one on.
use Rattle.std.specs.Prelude.{◌≡◌, ◌==◌, ◌&&◌, ◌||◌, ℕ, ◌-◌, Bool, true, false, not, List, [], ◌∷◌, ◌++◌}
use Rattle.media_wire.specs.Events.{Event, calm, counted, failed}

-- the wire, how many calls go through before one fails, whether those after it fail too, whether it has failed and they do not,
-- and how many failed as far as a number of 64 bits counts
pub record Trial (W : Type 0) : Type 0 where
  pub wire : W
  pub ahead : ℕ
  pub lasts : Bool
  pub over : Bool
  pub failures : ℕ

abbrev pub new_trial : {W : Type 0} → W → ℕ → Bool → Trial W
new_trial wire ahead lasts = record { wire = wire; ahead = ahead; lasts = lasts; over = false; failures = 0 }

-- the next call fails
abbrev pub is_due : {W : Type 0} → Trial W → Bool
is_due trial = (trial.ahead == 0) && not trial.over

-- a call was made
abbrev pub called : {W : Type 0} → Trial W → Trial W
called trial = record trial { ahead = trial.ahead - 1; over = trial.over || (is_due trial && not trial.lasts) }

-- they stand before the same call
pub record IsAlike {W : Type 0} (one other : Trial W) : Type 0 where
  pub ahead : one.ahead ≡ other.ahead
  pub lasts : one.lasts ≡ other.lasts
  pub over : one.over ≡ other.over

-- a call that is due fails, and does not come to the wire; another one is the wire's own
pub record Passes {W : Type 0} (went : W → List Event → Type 0) (trial next : Trial W) (event : Event) : Type 0 where
  pub due : is_due trial ≡ true → (event ≡ failed) × (next.wire ≡ trial.wire)
  pub own : is_due trial ≡ false → (events : List Event) → went trial.wire events → went next.wire (events ++ event ∷ [])
  pub behind : IsAlike next (called trial)

-- these are the calls that were made: the wire's own are those that did not fail, and may be some that did
pub record Tries {W : Type 0} (went : W → List Event → Type 0) (wire : W) (failures : ℕ) (events : List Event) : Type 0 where
  pub own : List Event
  pub wires : went wire own
  pub same : calm own ≡ calm events
  pub count : failures ≡ counted events
