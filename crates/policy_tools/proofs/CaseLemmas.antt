-- Cases that were read, and those that follow.
use Rattle.std.proofs.Common.{◌≡◌, ℕ, zero, suc, List, [], ◌∷◌, ◌++◌, Result, Ok, drop, length, min, ap, ◌∙◌, arith}
use Rattle.std.proofs.lemmas.List.{drop_all}
use Rattle.policy_tools.specs.CaseLines.{◌>>=◌}
use Rattle.policy_tools.specs.declared.case_lines.CasesFault.{CasesFault}
use Rattle.policy_tools.specs.Cases.{Wanted}

-- these cases and then those, or the fault
abbrev pub after_cases : List Wanted → Result (List Wanted) CasesFault → Result (List Wanted) CasesFault
after_cases cases rest = rest >>= λ more. Ok (cases ++ more)

-- what is left behind the end is nothing
pub drop_least : {X : Type 0} (place : ℕ) (xs : List X) → drop (min place (length xs)) xs ≡ drop place xs
drop_least zero xs =
    let none : min zero (length xs) ≡ zero = omega arith in
    ap (λ n. drop n xs) none
drop_least (suc place) [] = drop_all (min (suc place) 0) [] (omega arith)
drop_least (suc place) (x ∷ xs) =
    let fewer : min (suc place) (length (x ∷ xs)) ≡ suc (min place (length xs)) = omega arith in
    ap (λ n. drop n (x ∷ xs)) fewer ∙ drop_least place xs
