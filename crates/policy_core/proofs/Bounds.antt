-- What bounds of rules come to: between two of them nothing changes.
use Rattle.std.proofs.Common.{◌≡◌, ℕ, ◌<◌, ◌≤◌, Bool, true, false, cond, ◌&&◌, List, [], ◌∷◌, ◌++◌, Option, Some, None, refl, ap, ap₂, sym, ◌∙◌, subst, map, filter, nat_lt, nat_le, true≢false, ⊎_elim, arith, is_some}
use Rattle.std.proofs.lemmas.Bool.{cases_Bool, and_parts}
use Rattle.std.proofs.lemmas.Bool.Decides.{nat_tests}
use Rattle.policy_core.specs.declared.rule.Rule.{Rule}
use Rattle.policy_core.specs.Acts.{no_act_held}
use Rattle.policy_core.specs.Moments.{as_of, at, bound_of, bounds, bounds_of, coming, has_begun, is_not_over, least_of, sooner, steady_until}
use Rattle.policy_core.specs.MomentLaws.{is_before}
use Rattle.policy_core.specs.RuleList.{Rules}

-- the bound is not passed between the two moments
abbrev IsAhead : ℕ → ℕ → ℕ → Type 0
IsAhead moment later bound = moment < bound → later < bound

abbrev pub AreAhead : ℕ → ℕ → List ℕ → Type 0
AreAhead moment later [] = true ≡ true
AreAhead moment later (bound ∷ bounds) = IsAhead moment later bound × AreAhead moment later bounds

sooner_ahead : (moment later : ℕ) (found : Option ℕ) (bound : ℕ) → is_before later (sooner moment found bound) ≡ true
    → (is_before later found ≡ true) × IsAhead moment later bound
sooner_ahead moment later None bound = ⊎_elim
    (λ yes h. (refl, λ after. let h' : nat_lt later bound ≡ true = rw yes at h in grind (arith, nat_tests)))
    (λ no h. (refl, λ after. absurd (let yes : nat_lt moment bound ≡ true = grind (arith, nat_tests) in true≢false (sym yes ∙ no))))
    (cases_Bool (nat_lt moment bound))
sooner_ahead moment later (Some found) bound = ⊎_elim
    (λ yes h. let h' : nat_lt later bound ≡ true = rw yes at h in
    let parts = and_parts (nat_lt moment bound) (nat_lt bound found) yes in
    let before : bound < found = grind (arith, nat_tests, parts.1) in
    let at' : later < bound = grind (arith, nat_tests, h') in
    (grind (arith, nat_tests, before, at'), λ after. at'))
    (λ no h. let h' : nat_lt later found ≡ true = rw no at h in
    let before : later < found = grind (arith, nat_tests, h') in (
      h',
      λ after.
          ⊎_elim
          (λ under. absurd (let yes : (nat_lt moment bound && nat_lt bound found) ≡ true = grind (arith, nat_tests) in true≢false (sym yes ∙ no)))
          (λ over. let over' : found ≤ bound = grind (arith, nat_tests, over) in omega (arith, before, over'))
          (cases_Bool (nat_lt bound found)),
    ))
    (cases_Bool (nat_lt moment bound && nat_lt bound found))

pub all_ahead : (moment later : ℕ) (found : Option ℕ) (bounds : List ℕ) → is_before later (least_of moment found bounds) ≡ true
    → (is_before later found ≡ true) × AreAhead moment later bounds
all_ahead moment later found [] h = (h, refl)
all_ahead moment later found (bound ∷ bounds) h =
    let rest = all_ahead moment later (sooner moment found bound) bounds h in
    let here = sooner_ahead moment later found bound rest.0 in
    (here.0, (here.1, rest.1))

ahead_left : (moment later : ℕ) (some more : List ℕ) → AreAhead moment later (some ++ more) → AreAhead moment later some × AreAhead moment later more
ahead_left moment later [] more h = (refl, h)
ahead_left moment later (bound ∷ some) more h =
    let rest = ahead_left moment later some more h.1 in
    ((h.0, rest.0), rest.1)

begun_same : (moment later : ℕ) (from : Option ℕ) → moment ≤ later → AreAhead moment later (bound_of from) → has_begun from later ≡ has_begun from moment
begun_same moment later None up h = refl
begun_same moment later (Some from) up h = ⊎_elim
    (λ yes. let in_time : from ≤ moment = grind (arith, nat_tests, yes) in
    let later' : nat_le from later ≡ true = grind (arith, nat_tests, in_time, up) in later' ∙ sym yes)
    (λ no. let after : moment < from = grind (arith, nat_tests, no) in
    let after' : later < from = h.0 after in
    let later' : nat_le from later ≡ false = grind (arith, nat_tests, after') in later' ∙ sym no)
    (cases_Bool (nat_le from moment))

over_same : (moment later : ℕ) (until : Option ℕ) → moment ≤ later → AreAhead moment later (bound_of until) → is_not_over until later ≡ is_not_over until moment
over_same moment later None up h = refl
over_same moment later (Some until) up h = ⊎_elim
    (λ yes. let before : moment < until = grind (arith, nat_tests, yes) in
    let before' : later < until = h.0 before in
    let later' : nat_lt later until ≡ true = grind (arith, nat_tests, before') in later' ∙ sym yes)
    (λ no. let after : until ≤ moment = grind (arith, nat_tests, no) in
    let later' : nat_lt later until ≡ false = grind (arith, nat_tests, after, up) in later' ∙ sym no)
    (cases_Bool (nat_lt moment until))

rule_same : (moment later : ℕ) (rule : Rule) → moment ≤ later → AreAhead moment later (bounds_of rule) → as_of later rule ≡ as_of moment rule
unfolding as_of
rule_same moment later rule up h =
    let each = ahead_left moment later (bound_of rule.from) (bound_of rule.until) h in
    ap (λ (stands : Bool). as_rule rule stands)
    (ap₂ (λ (a b : Bool). a && b) (begun_same moment later rule.from up each.0) (over_same moment later rule.until up each.1))
  where
    as_rule : Rule → Bool → Rule
    as_rule rule stands = record rule { acts = cond stands rule.acts no_act_held; from = None; until = None }

rules_same : (moment later : ℕ) (rules : List Rule) → moment ≤ later → AreAhead moment later (bounds rules) → map (as_of later) rules ≡ map (as_of moment) rules
rules_same moment later [] up h = refl
rules_same moment later (rule ∷ rules) up h =
    let each = ahead_left moment later (bounds_of rule) (bounds rules) h in
    ap₂ (λ (r : Rule) (rs : List Rule). r ∷ rs) (rule_same moment later rule up each.0) (rules_same moment later rules up each.1)

-- up to the next bound the policy is the same
pub steady : (policy : Rules) (moment later : ℕ) → moment ≤ later → is_before later (steady_until policy moment) ≡ true → at policy later ≡ at policy moment
unfolding at steady_until
steady policy moment later up h =
    ap (λ (rules : List Rule). record policy { rules = rules })
    (rules_same moment later policy.rules up (all_ahead moment later None (bounds policy.rules) h).1)

bounds_same : (moment later : ℕ) (bounds : List ℕ) → moment ≤ later → AreAhead moment later bounds → filter (nat_lt later) bounds ≡ filter (nat_lt moment) bounds
bounds_same moment later [] up h = refl
bounds_same moment later (bound ∷ bounds) up h =
    let rest = bounds_same moment later bounds up h.1 in
    let same : nat_lt later bound ≡ nat_lt moment bound = ⊎_elim
    (λ yes. let before : moment < bound = grind (arith, nat_tests, yes) in
    let before' : later < bound = h.0 before in
    let later' : nat_lt later bound ≡ true = grind (arith, nat_tests, before') in later' ∙ sym yes)
    (λ no. let after : bound ≤ moment = grind (arith, nat_tests, no) in
    let later' : nat_lt later bound ≡ false = grind (arith, nat_tests, after, up) in later' ∙ sym no)
    (cases_Bool (nat_lt moment bound)) in
    ap₂ (λ (b : Bool) (l : List ℕ). cond b (bound ∷ l) l) same rest

-- and so is what it becomes
pub steady_coming : (policy : Rules) (moment later : ℕ) → moment ≤ later → is_before later (steady_until policy moment) ≡ true → coming policy later ≡ coming policy moment
unfolding coming steady_until
steady_coming policy moment later up h =
    ap (map (at policy)) (bounds_same moment later (bounds policy.rules) up (all_ahead moment later None (bounds policy.rules) h).1)

-- a policy without a later bound becomes no other
none_coming : (moment : ℕ) (all : List ℕ) → least_of moment None all ≡ None → filter (nat_lt moment) all ≡ []
none_coming moment [] h = refl
none_coming moment (bound ∷ more) h = ⊎_elim
    (λ yes. absurd (let h' : least_of moment (Some bound) more ≡ None = subst (λ (b : Bool). least_of moment (cond b (Some bound) None) more ≡ None) yes h in some_stays moment bound more h'))
    (λ no. let h' : least_of moment None more ≡ None = subst (λ (b : Bool). least_of moment (cond b (Some bound) None) more ≡ None) no h in
    ap (λ (b : Bool). cond b (bound ∷ filter (nat_lt moment) more) (filter (nat_lt moment) more)) no ∙ none_coming moment more h')
    (cases_Bool (nat_lt moment bound))
  where
    some_stays : (moment found : ℕ) (more : List ℕ) → least_of moment (Some found) more ≡ None → ⊥
    some_stays moment found [] h = true≢false (ap is_some h)
    some_stays moment found (bound ∷ more) h = ⊎_elim
        (λ yes. some_stays moment bound more (subst (λ (b : Bool). least_of moment (cond b (Some bound) (Some found)) more ≡ None) yes h))
        (λ no. some_stays moment found more (subst (λ (b : Bool). least_of moment (cond b (Some bound) (Some found)) more ≡ None) no h))
        (cases_Bool (nat_lt moment bound && nat_lt bound found))

pub settled : (policy : Rules) (moment : ℕ) → steady_until policy moment ≡ None → coming policy moment ≡ []
unfolding coming steady_until
settled policy moment h = ap (map (at policy)) (none_coming moment (bounds policy.rules) h)
