-- What is denied to whom, as a driver that serves says it. Own rules.
use Rattle.std.specs.Prelude.{ℕ, Bool, true, false, ◌==◌, ◌&&◌, ◌++◌, List, [], ◌∷◌, Option, Some, None, codes, if◌then◌else◌}
use Rattle.std.specs.Ordering.{int_eq}
use Rattle.std.specs.Fmt.{decimal, signed_decimal}
use Rattle.denial_notes.specs.declared.denial.Denial.{Denial}
use Rattle.policy_core.specs.Act.{act_number, name_of}
use Rattle.policy_core.specs.declared.decision.Decision.{Decision}

-- what a decision denies
abbrev pub denial_of : Decision → Option Denial
denial_of decision =
    if decision.verdict.allow then None
    else Some (record { principal = decision.principal; act = decision.act; stream = decision.stream; verdict = decision.verdict })

abbrev pub is_same_rule : Option ℕ → Option ℕ → Bool
is_same_rule (Some one) (Some other) = one == other
is_same_rule (Some one) None = false
is_same_rule None (Some other) = false
is_same_rule None None = true

-- the same act of the same principal on the same stream, denied by the same rule of the same policy
abbrev pub is_like : Denial → Denial → Bool
is_like other one =
    (((one.principal == other.principal && act_number one.act == act_number other.act) && int_eq one.stream other.stream)
    && one.verdict.epoch == other.verdict.epoch)
    && is_same_rule one.verdict.rule other.verdict.rule

-- the name that a rule has, where it is known
abbrev pub called : List ℕ → List ℕ
called [] = []
called (letter ∷ letters) = codes " \"" ++ (letter ∷ letters) ++ codes "\""

-- what decided, whose name is that where it is a rule
abbrev pub decider_text : List ℕ → Option ℕ → List ℕ
decider_text name (Some rule) = codes "rule " ++ (decimal rule ++ called name)
decider_text name None = codes "default"

-- whose act, on which stream, is denied by what
abbrev pub denial_text : List ℕ → List ℕ → Denial → List ℕ
denial_text principal rule denial =
    principal ++ (codes ": " ++ (name_of denial.act ++ (codes " on stream " ++ (signed_decimal denial.stream
    ++ (codes " denied by " ++ (decider_text rule denial.verdict.rule ++ (codes " in policy " ++ decimal denial.verdict.epoch)))))))

-- how often it came again
abbrev pub times_text : ℕ → List ℕ
times_text times = if times == 1 then codes "once" else decimal times ++ codes " times"

abbrev pub again_text : List ℕ → List ℕ → Denial → ℕ → List ℕ
again_text principal rule denial times = denial_text principal rule denial ++ (codes ", " ++ (times_text times ++ codes " more"))
