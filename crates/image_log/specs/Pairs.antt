-- Where the subscriptions stand that read a log. Own rules.
use Rattle.std.specs.Prelude.{ℕ, ◌≤◌, List}
use Rattle.image_log.specs.Frame.{Frame}
use Rattle.image_log.specs.Order.{Begins}
use Rattle.log_pairs.specs.Pairs.{AreAt}
use Rattle.log_pairs.specs.declared.pair.Pair.{Pair}

abbrev pub IsWithin : ℕ → ℕ → ℕ → Type 0
IsWithin from to position = (from ≤ position) × (position ≤ to)

-- each pair has read from one position on, and not past another
abbrev pub AreWithin : ℕ → ℕ → List Pair → Type 0
AreWithin from to pairs = AreAt (IsWithin from to) pairs

-- each pair stands at this position, or where a frame begins
abbrev pub AreStarts : ℕ → List Frame → List Pair → Type 0
AreStarts at fs pairs = AreAt (Begins at fs) pairs
