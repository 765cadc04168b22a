-- What a ring of marks says of the commands that are acknowledged.
use Rattle.std.proofs.Common.{◌≡◌, ◌<◌, ◌≤◌, ◌+◌, ◌⊎◌, ℕ, List, [], ◌∷◌, ◌++◌, Result, Ok, Err, IfOk, IsOk, OnErr, ap, ap₂, arith, inl, inr, length, suc, sym, ◌∙◌}
use Rattle.std.proofs.lemmas.List.{length-append}
use Rattle.media_agents.specs.Sharing.{Acknowledges, Acknowledging}
use mathlib.Core.List.{IsPrefix}

one_more : {T : Type 0} (had has : List T) (mark : T) → has ≡ had ++ mark ∷ [] → length has ≡ length had + 1
one_more had has mark is = ap length is ∙ length-append had (mark ∷ [])

one_fewer : {T : Type 0} (saw sees : List T) (mark : T) → IsPrefix saw (mark ∷ sees) → length saw ≤ length sees + 1
one_fewer saw sees mark (rest, is) =
    let same : length saw + length rest ≡ suc (length sees) = sym (length-append saw rest) ∙ ap length is in
    omega (arith, same)

none_seen : (seen : ℕ) → (0 < seen → ⊥) → seen ≡ 0
none_seen seen none = omega (arith, none)

-- a mark was taken out, or none was there
pub taken_out : {T E : Type 0} (Allowed : T → Type 0) (had has saw sees : List T) (popped : Result T E) →
    IfOk popped (λ mark. (has ≡ had ++ mark ∷ []) × IsPrefix saw (mark ∷ sees) × Allowed mark) → OnErr popped ((has ≡ had) × (sees ≡ [])) → (0 < length saw → IsOk popped) →
    Acknowledges (record { acknowledged = length had; marks = length saw }) (record { acknowledged = length has; marks = length sees })
taken_out Allowed had has saw sees (Ok mark) ok err succeeds = inl (one_more had has mark ok.0, one_fewer saw sees mark ok.1)
taken_out Allowed had has saw sees (Err why) ok err succeeds =
    let none : length saw ≡ 0 = none_seen (length saw) (λ some. cc (succeeds some)) in
    inr (none, ap₂ (λ (a m : ℕ). let it : Acknowledging = record { acknowledged = a; marks = m } in it) (ap length err.0) (ap length err.1 ∙ sym none))
