-- What a connection does for its client, record by record. Own rules.
use Rattle.std.specs.Prelude.{◌≡◌, ℕ, List, [], ◌∷◌}
use Rattle.driver_service.specs.Calls.{Does}
use Rattle.driver_service.specs.Requests.{DoesRecord}

-- each of these records does what it names, one after another
abbrev pub ActsOn : {S : Type 0} → Does S → List (List ℕ) → S → S → Type 0
ActsOn does [] old new = new ≡ old
ActsOn {S} does (bytes ∷ records) old new = (next : S) × DoesRecord does bytes old next × ActsOn does records next new

-- some records did so, and nothing else was done
pub record Acts {S : Type 0} (does : Does S) (old new : S) : Type 0 where
  pub records : List (List ℕ)
  pub run : ActsOn does records old new
