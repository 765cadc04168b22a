-- What is allowed at some moment is allowed at one bound of a rule, or now.
use Rattle.std.proofs.Common.{◌≡◌, ℕ, zero, suc, ◌+◌, ◌<◌, ◌≤◌, Bool, true, false, cond, ◌&&◌, ◌||◌, ◌⊎◌, List, [], ◌∷◌, Option, Some, None, refl, ap, sym, subst, map, filter, nat_lt, true≢false, ⊎_elim, arith, inl, inr, is_some}
use Rattle.std.proofs.lemmas.Bool.{cases_Bool, and_parts}
use Rattle.std.proofs.lemmas.Bool.Decides.{nat_tests}
use Rattle.policy_core.specs.Moments.{at, bounds, coming, ever, is_allowed_by_any, least_of, sooner, steady_until}
use Rattle.policy_core.specs.MomentLaws.{IsEverAllowed, is_before}
use Rattle.policy_core.specs.Question.{Question}
use Rattle.policy_core.specs.RuleList.{Rules}
use Rattle.policy_core.specs.Rules.{verdict_of}
use Rattle.policy_core.proofs.Bounds.{steady}

allows_at : Rules → Question → ℕ → Bool
allows_at policy question moment = (verdict_of (at policy moment) 0 question).allow

any_after : Rules → Question → ℕ → List ℕ → Bool
any_after policy question moment all = is_allowed_by_any question (map (at policy) (filter (nat_lt moment) all))

abbrev pub Has : ℕ → List ℕ → Type 0
Has bound [] = true ≡ false
Has bound (other ∷ more) = (bound ≡ other) ⊎ Has bound more

some_after : (policy : Rules) (question : Question) (moment : ℕ) (all : List ℕ) → any_after policy question moment all ≡ true → IsEverAllowed policy moment question
unfolding any_after allows_at
some_after policy question moment [] h = absurd (true≢false (sym h))
some_after policy question moment (bound ∷ more) h = ⊎_elim
    (λ yes.
    let h' : (allows_at policy question bound || any_after policy question moment more) ≡ true =
    subst (λ (b : Bool). is_allowed_by_any question (map (at policy) (cond b (bound ∷ filter (nat_lt moment) more) (filter (nat_lt moment) more))) ≡ true) yes h in
    ⊎_elim
    (λ here. let before : moment < bound = grind (arith, nat_tests, yes) in (bound, omega (arith, before), here))
    (λ no. some_after policy question moment more (subst (λ (b : Bool). (b || any_after policy question moment more) ≡ true) no h'))
    (cases_Bool (allows_at policy question bound)))
    (λ no. some_after policy question moment more
    (subst (λ (b : Bool). is_allowed_by_any question (map (at policy) (cond b (bound ∷ filter (nat_lt moment) more) (filter (nat_lt moment) more))) ≡ true) no h))
    (cases_Bool (nat_lt moment bound))

pub ever_sound : (policy : Rules) (moment : ℕ) (question : Question) → ever policy moment question ≡ true → IsEverAllowed policy moment question
unfolding ever coming any_after allows_at
ever_sound policy moment question h = ⊎_elim
    (λ now. (moment, omega arith, now))
    (λ no. some_after policy question moment (bounds policy.rules) (subst (λ (b : Bool). (b || any_after policy question moment (bounds policy.rules)) ≡ true) no h))
    (cases_Bool (allows_at policy question moment))

-- ---- the other way

-- a bound that is put before the others, or not, leaves what is allowed
put_before : (policy : Rules) (question : Question) (moment other : ℕ) (more : List ℕ) (b : Bool) → any_after policy question moment more ≡ true
    → is_allowed_by_any question (map (at policy) (cond b (other ∷ filter (nat_lt moment) more) (filter (nat_lt moment) more))) ≡ true
unfolding any_after allows_at
put_before policy question moment other more false rest = rest
put_before policy question moment other more true rest = ⊎_elim
    (λ yes. subst (λ (b : Bool). (b || any_after policy question moment more) ≡ true) (sym yes) refl)
    (λ no. subst (λ (b : Bool). (b || any_after policy question moment more) ≡ true) (sym no) rest)
    (cases_Bool (allows_at policy question other))

one_after : (policy : Rules) (question : Question) (moment bound : ℕ) (all : List ℕ) → Has bound all → moment < bound → allows_at policy question bound ≡ true
    → any_after policy question moment all ≡ true
unfolding any_after allows_at
one_after policy question moment bound [] has before allowed = absurd (true≢false has)
one_after policy question moment bound (other ∷ more) has before allowed = ⊎_elim
    (λ is.
    let before' : moment < other = subst (λ (n : ℕ). moment < n) is before in
    let yes : nat_lt moment other ≡ true = grind (arith, nat_tests, before') in
    let allowed' : allows_at policy question other ≡ true = subst (λ (n : ℕ). allows_at policy question n ≡ true) is allowed in
    subst (λ (b : Bool). is_allowed_by_any question (map (at policy) (cond b (other ∷ filter (nat_lt moment) more) (filter (nat_lt moment) more))) ≡ true) (sym yes)
    (subst (λ (b : Bool). (b || any_after policy question moment more) ≡ true) (sym allowed') refl))
    (λ later. put_before policy question moment other more (nat_lt moment other) (one_after policy question moment bound more later before allowed))
    has

-- what is allowed after a later moment is allowed after an earlier one
any_more : (policy : Rules) (question : Question) (moment later : ℕ) (all : List ℕ) → moment < later → any_after policy question later all ≡ true
    → any_after policy question moment all ≡ true
unfolding any_after allows_at
any_more policy question moment later [] before h = h
any_more policy question moment later (other ∷ more) before h = ⊎_elim
    (λ yes.
    let h' : (allows_at policy question other || any_after policy question later more) ≡ true =
    subst (λ (b : Bool). is_allowed_by_any question (map (at policy) (cond b (other ∷ filter (nat_lt later) more) (filter (nat_lt later) more))) ≡ true) yes h in
    let after : later < other = grind (arith, nat_tests, yes) in
    let after' : moment < other = omega (arith, after, before) in
    let yes' : nat_lt moment other ≡ true = grind (arith, nat_tests, after') in
    subst (λ (b : Bool). is_allowed_by_any question (map (at policy) (cond b (other ∷ filter (nat_lt moment) more) (filter (nat_lt moment) more))) ≡ true) (sym yes')
    (⊎_elim
    (λ here. subst (λ (b : Bool). (b || any_after policy question moment more) ≡ true) (sym here) refl)
    (λ no. subst (λ (b : Bool). (b || any_after policy question moment more) ≡ true) (sym no)
    (any_more policy question moment later more before (subst (λ (b : Bool). (b || any_after policy question later more) ≡ true) no h')))
    (cases_Bool (allows_at policy question other))))
    (λ no. put_before policy question moment other more (nat_lt moment other) (any_more policy question moment later more before
    (subst (λ (b : Bool). is_allowed_by_any question (map (at policy) (cond b (other ∷ filter (nat_lt later) more) (filter (nat_lt later) more))) ≡ true) no h)))
    (cases_Bool (nat_lt later other))

-- the least bound after a moment is one, and after it
sooner_in : (moment : ℕ) (found : Option ℕ) (other bound : ℕ) (more : List ℕ) → sooner moment found other ≡ Some bound
    → (found ≡ Some bound) ⊎ (Has bound (other ∷ more) × (moment < bound))
sooner_in moment None other bound more h = ⊎_elim
    (λ yes. let e : Some other ≡ Some bound = subst (λ (b : Bool). cond b (Some other) None ≡ Some bound) yes h in
    let same : bound ≡ other = cc in
    let before : moment < other = grind (arith, nat_tests, yes) in
    inr (inl same, subst (λ (n : ℕ). moment < n) (sym same) before))
    (λ no. let e : None ≡ Some bound = subst (λ (b : Bool). cond b (Some other) None ≡ Some bound) no h in
    absurd (true≢false (sym (ap is_some e))))
    (cases_Bool (nat_lt moment other))
sooner_in moment (Some found) other bound more h = ⊎_elim
    (λ yes. let e : Some other ≡ Some bound = subst (λ (b : Bool). cond b (Some other) (Some found) ≡ Some bound) yes h in
    let same : bound ≡ other = cc in
    let first : nat_lt moment other ≡ true = (and_parts (nat_lt moment other) (nat_lt other found) yes).0 in
    let before : moment < other = grind (arith, nat_tests, first) in
    inr (inl same, subst (λ (n : ℕ). moment < n) (sym same) before))
    (λ no. inl (subst (λ (b : Bool). cond b (Some other) (Some found) ≡ Some bound) no h))
    (cases_Bool (nat_lt moment other && nat_lt other found))

least_in : (moment : ℕ) (found : Option ℕ) (all : List ℕ) (bound : ℕ) → least_of moment found all ≡ Some bound
    → (found ≡ Some bound) ⊎ (Has bound all × (moment < bound))
least_in moment found [] bound h = inl h
least_in moment found (other ∷ more) bound h = ⊎_elim
    (λ is. sooner_in moment found other bound more is)
    (λ in'. inr (inr in'.0, in'.1))
    (least_in moment (sooner moment found other) more bound h)

-- what is allowed at a later bound, or after it, is allowed after the moment
ever_on : (policy : Rules) (question : Question) (moment bound : ℕ) → Has bound (bounds policy.rules) → moment < bound → ever policy bound question ≡ true
    → ever policy moment question ≡ true
unfolding ever coming any_after allows_at
ever_on policy question moment bound has before h =
    let rest : any_after policy question moment (bounds policy.rules) ≡ true = ⊎_elim
    (λ here. one_after policy question moment bound (bounds policy.rules) has before here)
    (λ no. any_more policy question moment bound (bounds policy.rules) before (subst (λ (b : Bool). (b || any_after policy question bound (bounds policy.rules)) ≡ true) no h))
    (cases_Bool (allows_at policy question bound)) in
    ⊎_elim
    (λ yes. subst (λ (b : Bool). (b || any_after policy question moment (bounds policy.rules)) ≡ true) (sym yes) refl)
    (λ no. subst (λ (b : Bool). (b || any_after policy question moment (bounds policy.rules)) ≡ true) (sym no) rest)
    (cases_Bool (allows_at policy question moment))

ever_now : (policy : Rules) (question : Question) (moment : ℕ) → allows_at policy question moment ≡ true → ever policy moment question ≡ true
unfolding ever coming any_after allows_at
ever_now policy question moment allowed = subst (λ (b : Bool). (b || any_after policy question moment (bounds policy.rules)) ≡ true) (sym allowed) refl

pub least_is_in : (policy : Rules) (moment bound : ℕ) → steady_until policy moment ≡ Some bound → Has bound (bounds policy.rules) × (moment < bound)
unfolding steady_until
least_is_in policy moment bound h = ⊎_elim
    (λ e. absurd (true≢false (sym (ap is_some e))))
    (λ in'. in')
    (least_in moment None (bounds policy.rules) bound h)

past_bound : (policy : Rules) (question : Question) (moment later : ℕ) (until : Option ℕ) → steady_until policy moment ≡ until → is_before later until ≡ false
    → ((bound : ℕ) → moment < bound → bound ≤ later → ever policy bound question ≡ true) → ever policy moment question ≡ true
past_bound policy question moment later None is over next = absurd (true≢false over)
past_bound policy question moment later (Some bound) is over next =
    let in' = least_is_in policy moment bound is in
    let past : bound ≤ later = grind (arith, nat_tests, over) in
    ever_on policy question moment bound in'.0 in'.1 (next bound in'.1 past)

same_verdict : (policy : Rules) (question : Question) (moment later : ℕ) → moment ≤ later → is_before later (steady_until policy moment) ≡ true
    → allows_at policy question later ≡ true → allows_at policy question moment ≡ true
unfolding allows_at
same_verdict policy question moment later up before allowed =
    subst (λ (p : Rules). (verdict_of p 0 question).allow ≡ true) (steady policy moment later up before) allowed

ever_when : (fuel : ℕ) (policy : Rules) (question : Question) (moment later : ℕ) → moment ≤ later → later ≤ moment + fuel → allows_at policy question later ≡ true
    → ever policy moment question ≡ true
ever_when zero policy question moment later up near allowed = ⊎_elim
    (λ before. ever_now policy question moment (same_verdict policy question moment later up before allowed))
    (λ no. past_bound policy question moment later (steady_until policy moment) refl no (λ bound after past. absurd (omega (arith, near, after, past))))
    (cases_Bool (is_before later (steady_until policy moment)))
ever_when (suc fuel) policy question moment later up near allowed = ⊎_elim
    (λ before. ever_now policy question moment (same_verdict policy question moment later up before allowed))
    (λ no. past_bound policy question moment later (steady_until policy moment) refl no
    (λ bound after past. ever_when fuel policy question bound later past (omega (arith, near, after)) allowed))
    (cases_Bool (is_before later (steady_until policy moment)))

pub ever_complete : (policy : Rules) (moment : ℕ) (question : Question) → IsEverAllowed policy moment question → ever policy moment question ≡ true
unfolding allows_at
ever_complete policy moment question some = ever_when some.0 policy question moment some.0 some.1 (omega arith) some.2
