-- The log of a remote stream of which each frame is one of the publication's. Own rules.
use Rattle.std.specs.Prelude.{ℕ, ◌≤◌, max, List, All}
use Rattle.image_log.specs.Frame.{Frame as Kept}
use Rattle.image_log.specs.Order.{InTerms, Ordered, chain}
use Rattle.image_log.specs.Pairs.{AreStarts, AreWithin}
use Rattle.image_log.specs.Rebuilt.{Rebuilt, term_start}
use Rattle.log_pairs.specs.declared.pair.Pair.{Pair}
use Rattle.two_drivers.specs.Line.{IsIn}

-- where the frames begin that are kept
abbrev pub low_at : ℕ → ℕ → ℕ → ℕ
low_at size join base = max join (term_start size base)

-- The frames that are kept stand in order from there on, and whoever reads stands between the base and the contiguous position,
-- where a frame begins or at the latter.
pub record InOrder (size join base : ℕ) (frames : List Kept) (pairs : List Pair) : Type 0 where
  pub end : ℕ
  pub order : Ordered (low_at size join base) end frames
  pub whole : InTerms size frames
  pub joined : join ≤ base
  pub based : base ≤ chain (low_at size join base) frames
  pub paired : AreWithin base (chain (low_at size join base) frames) pairs
  pub starts : AreStarts (chain (low_at size join base) frames) frames pairs

pub record Mirrors (line : List Kept) (r : Rebuilt) : Type 0 where
  pub frames : All (IsIn line) r.frames
  pub order : InOrder r.ident.term_length r.join r.base r.frames r.pairs
