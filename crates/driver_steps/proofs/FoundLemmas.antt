-- The log that is found by its source number.
use Rattle.std.proofs.Common.{◌≡◌, ℕ, ◌==◌, Bool, true, false, cond, List, [], ◌∷◌, Some, refl, sym, ap, ◌∙◌, subst}
use Rattle.std.specs.List.{All}
use Rattle.std.proofs.lemmas.Bool.{eqb-true}
use Rattle.std.proofs.lemmas.List.Elements.{All-head, All-tail}
use Rattle.driver_steps.specs.Ends.{log_at, with_log}
use Rattle.log_steps.specs.Moves.{WholeLog}

found_source_by : (source : ℕ) (first log : WholeLog) (logs : List WholeLog) (b : Bool) → (first.source == source) ≡ b →
    (log_at logs source ≡ Some log → log.source ≡ source) → cond b (Some first) (log_at logs source) ≡ Some log →
    log.source ≡ source
found_source_by source first log logs true same rest found =
    let is : first ≡ log = cc in
    ap (λ (l : WholeLog). l.source) (sym is) ∙ eqb-true first.source source same
found_source_by source first log logs false same rest found = rest found

-- the log that is found is of that source
pub found_source : (source : ℕ) (log : WholeLog) (logs : List WholeLog) → log_at logs source ≡ Some log →
    log.source ≡ source
found_source source log [] found = absurd (cc)
found_source source log (first ∷ logs) found =
    found_source_by source first log logs (first.source == source) refl (found_source source log logs) found

found_holds_by : (P : WholeLog → Type 0) (source : ℕ) (first log : WholeLog) (logs : List WholeLog) (b : Bool) →
    P first → (log_at logs source ≡ Some log → P log) → cond b (Some first) (log_at logs source) ≡ Some log → P log
found_holds_by P source first log logs true holds rest found =
    let is : first ≡ log = cc in
    subst P is holds
found_holds_by P source first log logs false holds rest found = rest found

-- what holds of all logs holds of the one that is found
pub found_holds : (P : WholeLog → Type 0) (source : ℕ) (log : WholeLog) (logs : List WholeLog) → All P logs →
    log_at logs source ≡ Some log → P log
found_holds P source log [] all found = absurd (cc)
found_holds P source log (first ∷ logs) all found =
    found_holds_by P source first log logs (first.source == source) (All-head P first logs all)
    (found_holds P source log logs (All-tail P first logs all)) found

with_same_by : (source : ℕ) (first log : WholeLog) (logs : List WholeLog) (b : Bool) →
    (log_at logs source ≡ Some log → with_log logs source log ≡ logs) →
    cond b (Some first) (log_at logs source) ≡ Some log →
    cond b (log ∷ logs) (first ∷ with_log logs source log) ≡ first ∷ logs
with_same_by source first log logs true rest found =
    let is : first ≡ log = cc in
    ap (λ (l : WholeLog). l ∷ logs) (sym is)
with_same_by source first log logs false rest found = ap (λ (others : List WholeLog). first ∷ others) (rest found)

-- where it is put back as it was, all logs are as they were
pub with_same : (source : ℕ) (log : WholeLog) (logs : List WholeLog) → log_at logs source ≡ Some log →
    with_log logs source log ≡ logs
with_same source log [] found = refl
with_same source log (first ∷ logs) found =
    with_same_by source first log logs (first.source == source) (with_same source log logs) found
