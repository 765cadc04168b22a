-- What is found in a file is clean only where the file is a policy.
use Rattle.std.proofs.Common.{ℕ, Option, ◌≡◌, ◌<◌, ◌==◌, ◌&&◌, ◌||◌, not, Bool, true, false, Result, Ok, Err, List, [], ◌∷◌, length, is_ok, refl, ap, sym, ◌∙◌, arith}
use Rattle.std.proofs.lemmas.Bool.{and_parts, eqb-true, ne_eqb}
use Rattle.policy_core.specs.RuleList.{Rules}
use Rattle.policy_faults.specs.Fault.{IsFirst}
use Rattle.policy_faults.specs.declared.fault.Fault.{Fault}
use Rattle.policy_lint.specs.Report.{IsOf, is_clean}
use Rattle.policy_lint.specs.declared.report.Report.{Report}
use Rattle.policy_text.specs.declared.fault.PolicyFault.{PolicyFault}

some_first : (refusal : PolicyFault) (faults : List Fault) → IsFirst refusal faults → 0 < length faults
some_first refusal [] first = absurd (cc)
some_first refusal (fault ∷ faults) first = omega arith

pub clean_is_policy : (read : Result Rules PolicyFault) (report : Report) (strict : Bool) → ((fault : PolicyFault) → read ≡ Err fault → IsFirst fault report.faults.items) →
    is_clean strict report ≡ true → is_ok read ≡ true
clean_is_policy (Ok policy) report strict refused clean = refl
clean_is_policy (Err fault) report strict refused clean =
    let some : 0 < length report.faults.items = some_first fault report.faults.items (refused fault refl) in
    let none : length report.faults.items ≡ 0 =
    eqb-true _ 0 (and_parts (length report.faults.items == 0) (not strict || (length report.hidden.items == 0) && (length report.unmet.items == 0) && (length report.over.items == 0) && (length report.ending.items == 0) && (length report.warnings.items == 0)) clean).0 in
    absurd (omega arith)

pub policy_is_clean : (read : Result Rules PolicyFault) (moment : ℕ) (soon : Option ℕ) (report : Report) (strict : Bool) → ((policy : Rules) → read ≡ Ok policy → IsOf policy moment soon report) →
    ((fault : PolicyFault) → read ≡ Err fault → IsFirst fault report.faults.items) → strict ≡ false → is_clean strict report ≡ is_ok read
policy_is_clean (Ok policy) moment soon report strict accepted refused lenient =
    let none = (accepted policy refl).sound in
    rw (lenient, none) refl
policy_is_clean (Err fault) moment soon report strict accepted refused lenient =
    let some : 0 < length report.faults.items = some_first fault report.faults.items (refused fault refl) in
    let differ : (length report.faults.items == 0) ≡ false = ne_eqb _ 0 (λ e. omega arith) in
    rw differ refl
