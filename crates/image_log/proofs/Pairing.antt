-- Positions of pairs lie between the base and the contiguous position.
use Rattle.std.proofs.Common.{ℕ, ◌≤◌, List, [], ◌∷◌, arith}
use Rattle.image_log.specs.Pairs.{AreWithin, IsWithin}
use Rattle.log_pairs.specs.Pairs.{ReadsUpTo, least_of, least_or, position_of}
use Rattle.log_pairs.specs.declared.pair.Pair.{Pair}
use Rattle.log_pairs.proofs.Pairing.{above_least, at_below, at_both, at_weaker, least_above, least_le}

-- a position to which a pair may move
pub within_ahead : (from to subscription position : ℕ) (pairs : List Pair) → AreWithin from to pairs → ReadsUpTo (position_of pairs subscription) position → from ≤ position
within_ahead from to subscription position pairs are reads =
    let b = at_below (IsWithin from to) subscription position pairs are reads in
    omega (arith, b.is.0, b.below)

pub least_within : (from to : ℕ) (pairs : List Pair) → AreWithin from to pairs → from ≤ to
    → (from ≤ least_or from pairs) × (least_or from pairs ≤ to) × AreWithin (least_or from pairs) to pairs
least_within from to [] are h = (omega arith, h, tt)
least_within from to (p ∷ pairs) are h =
    let n : ℕ = least_of p.position pairs in
    let least = least_le p.position pairs in
    let low = least_above from p.position pairs are.0.0 (at_weaker (IsWithin from to) (λ q. from ≤ q) (λ q is. is.0) pairs are.1) in
    (low, omega (arith, least, are.0.1), at_both (λ q. n ≤ q) (IsWithin from to) (IsWithin n to) (λ q above is. (above, is.1)) (p ∷ pairs) (least, above_least p.position pairs) are)
