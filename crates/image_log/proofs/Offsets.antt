-- Where a position stands in a lease, by where an earlier one stands.
use Rattle.std.proofs.Common.{◌≡◌, ℕ, ◌+◌, ◌-◌, ◌*◌, ◌/◌, ◌%◌, ◌<◌, ◌≤◌, sym, ap, ◌∙◌, arith}
use Rattle.std.proofs.lemmas.Nat.{div-add-mod', mod-mul-add}

pub behind_offset : (len low position : ℕ) → 0 < len → low ≤ position → low % len + (position - low) < len
    → low % len + (position - low) ≡ position % len
behind_offset len low position some up within =
    let own = div-add-mod' low len in
    let here : position ≡ low / len * len + (low % len + (position - low)) = omega arith in
    sym (ap (λ (n : ℕ). n % len) here ∙ mod-mul-add (low / len) len (low % len + (position - low)) within)

pub past_end : (len low position : ℕ) → 0 < len → low ≤ position → position - low < len → len ≤ low % len + (position - low)
    → low % len + (position - low) - len ≡ position % len
past_end len low position some up near past =
    let own = div-add-mod' low len in
    let rest : low % len < len = omega arith in
    let more : (low / len + 1) * len ≡ low / len * len + len = omega arith in
    let here : position ≡ (low / len + 1) * len + (low % len + (position - low) - len) = omega arith in
    sym (ap (λ (n : ℕ). n % len) here ∙ mod-mul-add (low / len + 1) len (low % len + (position - low) - len) (omega arith))
