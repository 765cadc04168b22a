-- The frames that a poll passes.
use Rattle.std.proofs.Common.{◌≡◌, ℕ, List, [], ◌∷◌, refl}
use Rattle.log_pairs.specs.Polling.{Polled, passed}

pub passed_zero : (limit : ℕ) (fs : List Polled) → limit ≡ 0 → passed limit fs ≡ []
passed_zero limit [] zero = refl
passed_zero limit (f ∷ fs) zero = rw (zero) refl
