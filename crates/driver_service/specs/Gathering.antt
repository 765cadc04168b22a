-- A poll by one pair gathers a few fragments at a time, so that what it writes stays short. Own rules.
use Rattle.std.specs.Prelude.{◌≡◌, ◌≢◌, ◌≤◌, ◌<◌, ℕ, ◌+◌, ◌-◌, ◌*◌, ◌^◌, ◌⊎◌, min, List, [], ◌∷◌, ◌++◌, All, length, Result, Ok, Err}
use Rattle.driver_service.specs.Calls.{Call, Does, Poll, Run}
use Rattle.driver_service.specs.Requests.{fragments}
use Rattle.driver_service.specs.declared.reason.Refusal.{Refusal}

-- how many bytes of answers stand at most before no more are made
abbrev pub full : ℕ
full = 65536

-- how many fragments one call asks for, where so many are wanted yet
abbrev pub asked : ℕ → ℕ
asked wanted = min wanted 16

-- how many are wanted yet, after so many calls that gave 16 each
abbrev pub wanted : ℕ → ℕ → ℕ
wanted limit calls = fragments limit - 16 * calls

-- a call that asked for 16 fragments and was given them
abbrev pub GaveAll : ℕ → ℕ → Call → Type 0
GaveAll subscription source (Poll s l n written (Ok count)) = (s ≡ subscription) × (l ≡ source) × (n ≡ 16) × (count ≡ 16)
GaveAll subscription source call = ⊥

-- what polls wrote
abbrev pub polled_bytes : Call → List ℕ
polled_bytes (Poll subscription source limit written result) = written
polled_bytes call = []

abbrev pub all_polled : List Call → List ℕ
all_polled [] = []
all_polled (call ∷ calls) = polled_bytes call ++ all_polled calls

-- Another call follows only where more are wanted, and what stands there by then is shorter than `full`.
abbrev pub MayGoOn : ℕ → ℕ → List Call → Type 0
MayGoOn limit had [] = Unit {0}
MayGoOn limit had (call ∷ calls) = (16 * length (call ∷ calls) < fragments limit) × (had + length (all_polled (call ∷ calls)) < full)

-- And there is none after a refusal, after one that did not give what it asked for or gave all that were wanted, or where what stands there is
-- as long as that.
abbrev pub IsOver : ℕ → ℕ → Result ℕ Refusal → Type 0
IsOver left length (Ok count) = (count ≢ asked left) ⊎ ((left ≤ count) ⊎ (full ≤ length))
IsOver left length (Err refusal) = Unit {0}

-- so many, and those of the last call; or why that was refused
abbrev pub with_last : ℕ → Result ℕ Refusal → Result ℕ Refusal
with_last before (Ok count) = Ok (min (before + count) (2 ^ 32 - 1))
with_last before (Err refusal) = Err refusal

-- Calls that poll a pair for so many fragments, where so much stands already in the answer: what they wrote together, and what they
-- come to.
pub record Gathers (subscription source limit had : ℕ) (calls : List Call) (written : List ℕ) (gave : Result ℕ Refusal) : Type 0 where
  pub before : List Call
  pub last : List ℕ
  pub result : Result ℕ Refusal
  pub calls_are : calls ≡ before ++ Poll subscription source (asked (wanted limit (length before))) last result ∷ []
  pub each : All (GaveAll subscription source) before
  pub goes_on : MayGoOn limit had before
  pub written_is : written ≡ all_polled before ++ last
  pub over : IsOver (wanted limit (length before)) (had + length written) result
  pub gave_is : gave ≡ with_last (16 * length before) result

-- such calls, one after another
pub record Gathered {S : Type 0} (does : Does S) (subscription source limit had : ℕ) (old new : S) (written : List ℕ) (gave : Result ℕ Refusal) : Type 0 where
  pub calls : List Call
  pub gathers : Gathers subscription source limit had calls written gave
  pub run : Run does old calls new
