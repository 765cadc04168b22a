-- Of live logs, those of one number: the list ascends, so there is one at most.
use Rattle.std.proofs.Common.{◌≡◌, ℕ, ◌<◌, ◌≤◌, Bool, true, false, cond, List, [], ◌∷◌, find, Some, refl, subst, arith}
use Rattle.std.specs.List.{All}
use Rattle.std.proofs.lemmas.List.Elements.{All-cons, All-nil}
use Rattle.driver_core.specs.Soundness.{Ascend}
use Rattle.stream_registry.specs.declared.row.LogRow.{LogRow}

-- a log has that property, if it is of that number
abbrev pub IsBy : (LogRow → Type 0) → ℕ → LogRow → Type 0
IsBy Q number log = log.number ≡ number → Q log

-- the last number is not below
above : (before last : ℕ) (logs : List LogRow) → Ascend before last logs → before ≤ last
above before last [] up = up
above before last (log ∷ logs) up =
    let low = up.0 in
    let high = above log.number last logs up.1 in
    omega (arith, low, high)

-- no log has a number that is past the last
pub none_past : (Q : LogRow → Type 0) (number before last : ℕ) (logs : List LogRow) → last < number → Ascend before last logs →
    All (IsBy Q number) logs
none_past Q number before last [] past up = All-nil (IsBy Q number)
none_past Q number before last (log ∷ logs) past up =
    let high = above log.number last logs up.1 in
    All-cons (IsBy Q number) log logs (λ is. absurd (omega (arith, high, is, past)))
    (none_past Q number log.number last logs past up.1)

-- no log has a number that is not past those before it
none_below : (Q : LogRow → Type 0) (number before last : ℕ) (logs : List LogRow) → number ≤ before → Ascend before last logs →
    All (IsBy Q number) logs
none_below Q number before last [] low up = All-nil (IsBy Q number)
none_below Q number before last (log ∷ logs) low up =
    let higher = up.0 in
    All-cons (IsBy Q number) log logs (λ is. absurd (omega (arith, higher, is, low)))
    (none_below Q number log.number last logs (omega (arith, higher, low)) up.1)

-- the log of these that passes the test, and has no other's number
pub record Found (Q : LogRow → Type 0) (before last : ℕ) (logs : List LogRow) (log : LogRow) : Type 0 where
  pub higher : before < log.number
  pub drawn : log.number ≤ last
  pub only : All (IsBy Q log.number) logs

found_step : (Q : LogRow → Type 0) (test : LogRow → Bool) (before last : ℕ) (first log : LogRow) (logs : List LogRow) (b : Bool) →
    ((one : LogRow) → test one ≡ true → Q one) → test first ≡ b → Ascend before last (first ∷ logs) →
    (find test logs ≡ Some log → Found Q first.number last logs log) → cond b (Some first) (find test logs) ≡ Some log →
    Found Q before last (first ∷ logs) log
found_step Q test before last first log logs true publishes passes up later is =
    let same : first ≡ log = cc is in
    let high = above first.number last logs up.1 in
    subst (Found Q before last (first ∷ logs)) same (record {
      higher = up.0;
      drawn = high;
      only = All-cons (IsBy Q first.number) first logs (λ refl'. publishes first passes)
          (none_below Q first.number first.number last logs (omega arith) up.1);
    })
found_step Q test before last first log logs false publishes passes up later is =
    let found = later is in
    let low = up.0 in
    let higher = found.higher in
    record {
      higher = omega (arith, low, higher);
      drawn = found.drawn;
      only = All-cons (IsBy Q log.number) first logs (λ same. absurd (omega (arith, higher, same))) found.only;
    }

pub found_only : (Q : LogRow → Type 0) (test : LogRow → Bool) (before last : ℕ) (logs : List LogRow) (log : LogRow) →
    ((one : LogRow) → test one ≡ true → Q one) → Ascend before last logs → find test logs ≡ Some log →
    Found Q before last logs log
found_only Q test before last [] log publishes up is = absurd (cc is)
found_only Q test before last (first ∷ logs) log publishes up is =
    found_step Q test before last first log logs (test first) publishes refl up
    (found_only Q test first.number last logs log publishes up.1) is
