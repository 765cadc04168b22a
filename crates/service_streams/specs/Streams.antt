-- What is done with a stream of bytes: reads and writes, one after another. Own rules.
use Rattle.std.specs.Prelude.{◌≡◌, ℕ, List, [], ◌∷◌, ◌++◌, Option, Result, Ok, Err}
use Rattle.std.specs.Io.KnownBytes.{Appends, Consumes}
use Rattle.service_streams.specs.declared.talking.Ended.{Ended}
use Rattle.service_streams.specs.declared.talking.Ended.TheVariants as ends

pub data Step : Type 0 where
  -- these bytes are read from it
  Heard : List ℕ → Step
  -- these bytes are written to it
  Told : List ℕ → Step

-- all that was read, and all that was written
abbrev pub all_heard : List Step → List ℕ
all_heard [] = []
all_heard (Heard bytes ∷ steps) = bytes ++ all_heard steps
all_heard (Told bytes ∷ steps) = all_heard steps

abbrev pub all_told : List Step → List ℕ
all_told [] = []
all_told (Heard bytes ∷ steps) = all_told steps
all_told (Told bytes ∷ steps) = bytes ++ all_told steps

-- what is known of a stream: the bytes that reads will give, or those that it holds of what was written
abbrev pub Known : Type 0 → Type 0
Known T = T → Option (List ℕ)

-- a read takes the bytes from those that are left, a write puts them behind those that it holds
abbrev pub TakesStep : {T : Type 0} → Known T → Known T → T → Step → T → Type 0
TakesStep remaining contents old (Heard bytes) new = Consumes (remaining old) (remaining new) bytes
TakesStep remaining contents old (Told bytes) new = Appends (contents old) (contents new) bytes

-- these steps, and nothing else is done with it
abbrev pub TakesSteps : {T : Type 0} → Known T → Known T → T → List Step → T → Type 0
TakesSteps remaining contents old [] new = new ≡ old
TakesSteps {T} remaining contents old (step ∷ steps) new =
    (next : T) × TakesStep remaining contents old step next × TakesSteps remaining contents next steps new

-- a front of a text is written
abbrev pub AppendsFront : Option (List ℕ) → Option (List ℕ) → List ℕ → Type 0
AppendsFront old new text = (front : List ℕ) × (rest : List ℕ) × (text ≡ front ++ rest) × Appends old new front

-- all that was to be written is written; or the stream is closed, and a front of it is
abbrev pub Flushes : Result Unit Ended → Option (List ℕ) → Option (List ℕ) → List ℕ → List ℕ → Type 0
Flushes (Ok _) old new out after = Appends old new out × (after ≡ [])
Flushes (Err ends.Closed) old new out after = AppendsFront old new out
Flushes (Err ended) old new out after = ⊥

-- a front of what was to be written is written, and no more of it stands to be written than the rest; or the stream is closed
pub record WritesOf (old new : Option (List ℕ)) (out after : List ℕ) : Type 0 where
  pub front : List ℕ
  pub whole : out ≡ front ++ after
  pub appended : Appends old new front

abbrev pub Drains : Result Unit Ended → Option (List ℕ) → Option (List ℕ) → List ℕ → List ℕ → Type 0
Drains (Ok _) old new out after = WritesOf old new out after
Drains (Err ends.Closed) old new out after = AppendsFront old new out
Drains (Err ended) old new out after = ⊥

-- what was read stands behind what was left; or nothing was read, or there was no memory for it
abbrev pub Gets : Result Unit Ended → List ℕ → List ℕ → List ℕ → Type 0
Gets (Ok _) bytes left after = after ≡ left ++ bytes
Gets (Err ends.Closed) bytes left after = (bytes ≡ []) × (after ≡ left)
Gets (Err ends.Silent) bytes left after = (bytes ≡ []) × (after ≡ left)
Gets (Err ends.NoMemory) bytes left after = Unit {0}
Gets (Err ended) bytes left after = ⊥

pub record Reads (told : Result Unit Ended) (old new : Option (List ℕ)) (left after : List ℕ) : Type 0 where
  pub bytes : List ℕ
  pub consumed : Consumes old new bytes
  pub gets : Gets told bytes left after
