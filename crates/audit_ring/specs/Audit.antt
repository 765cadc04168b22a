-- What an audit keeps of all that was pushed (own).
use Rattle.std.specs.Prelude.{ℕ, ◌+◌, ◌-◌, ◌^◌, List, [], ◌∷◌, ◌++◌, length, min, nat_lt, if◌then◌else◌}
use Rattle.circular_buffer.specs.Buffer.{keep_last}
use Rattle.policy_core.specs.declared.decision.Decision.{Decision}

-- the last of them, the oldest of those first, and the number of those before them
pub record KeptOf (D : Type 0) : Type 0 where
  pub items : List D
  pub dropped : ℕ

-- of decisions
abbrev pub Kept : Type 0
Kept = KeptOf Decision

module _ {D : Type 0} where
  -- of all pushes: the last 4,096, and the number of those before them, at most the greatest number of 64 bits
  unfoldable pub kept_of : List D → KeptOf D
  kept_of pushes = record {
    items = keep_last 4096 pushes;
    dropped = min (length pushes - 4096) (2 ^ 64 - 1);
  }

  -- one more is kept, and where there are 4,096 already the oldest one is dropped
  unfoldable pub pushed : KeptOf D → D → KeptOf D
  pushed kept it = record {
    items = keep_last 4096 (kept.items ++ it ∷ []);
    dropped = if nat_lt (length kept.items) 4096 then kept.dropped else min (kept.dropped + 1) (2 ^ 64 - 1);
  }
