-- One write after another.
use Rattle.std.proofs.Common.{ℕ, List, ◌++◌, Option, Some, None, append_assoc, refl}
use Rattle.std.specs.Io.KnownBytes.{Appends}

pub appends_more : (start middle end : Option (List ℕ)) (front more : List ℕ) →
    Appends start middle front → Appends middle end more → Appends start end (front ++ more)
appends_more None middle end front more first then' = tt
appends_more (Some xs) None end front more first then' = absurd first
appends_more (Some xs) (Some ys) None front more first then' = absurd then'
appends_more (Some xs) (Some ys) (Some zs) front more first then' = rw (then', first, append_assoc xs front more) refl
