-- What one more rule adds to a stretch.
use Rattle.std.proofs.Common.{◌≡◌, ℕ, ℤ, ◌+◌, ◌-◌, ◌<◌, ◌≤◌, ◌≤ℤ◌, Bool, true, false, cond, not, ◌&&◌, List, [], ◌∷◌, ◌++◌, Option, Some, None, length, get_or, take, drop, position, refl, sym, ap, ◌∙◌, subst, ⊎_elim, append_assoc, length-append, arith, eqb}
use Rattle.std.proofs.lemmas.Bool.{and_from, and_parts, cases_Bool, eq-eqb, eqb-true, false_from_ne_true, not-true, true≢false}
use Rattle.std.proofs.lemmas.List.{append-nil, at_drop_all, at_drop_more, get_or-append_right, length_push}
use Rattle.std.proofs.lemmas.Int.{ints}
use Rattle.std.proofs.lemmas.Iterator.Adapters.{position_from-zero}
use Rattle.std.proofs.lemmas.List.{get_or-map, length-take-le, take-append-drop, take_all, take_more}
use Rattle.std.proofs.lemmas.List.Folds.{find-append, list_any_at}
use Rattle.std.specs.List.{position_from}
use Rattle.std.specs.Option.{option_or}
use Rattle.channel_uri.specs.Channel.{Shape}
use Rattle.channel_uri.specs.Pattern.{covers}
use Rattle.channel_uri.specs.declared.pattern.Pattern.{Pattern}
use Rattle.channel_uri.specs.declared.pattern.Pattern.TheVariants.{Any as AnyChannel, Of}
use Rattle.policy_core.specs.Act.{act_number}
use Rattle.policy_core.specs.Acts.{holds}
use Rattle.policy_core.specs.Question.{Question}
use Rattle.policy_core.specs.Rule.{matches, speaks_of}
use Rattle.policy_core.specs.declared.rule.Principals.{Principals}
use Rattle.policy_core.specs.declared.rule.Principals.TheVariants.{Any, One as Only}
use Rattle.policy_core.specs.declared.rule.Rule.{Rule}
use Rattle.policy_table.specs.Scope.{is_asker, is_in, is_named, is_spoken_to, is_within, names, speaks_to}
use Rattle.policy_table.specs.Lane.{up_to}
use Rattle.policy_table.specs.Stretch.{Span, closes, end_at, in_range, is_any, look, looked, span_at, speaks_of_low}
use Rattle.policy_table.specs.Table.{covers_at, first_of}
use Rattle.policy_table.specs.declared.scope.Asker.{Asker}
use Rattle.policy_table.specs.declared.scope.Asker.TheVariants.{One, Others}
use Rattle.policy_table.specs.declared.scope.Scope.{Scope}
use Rattle.policy_table.proofs.StreamLemmas.{end_is, within_wider}

-- the span ends where the rule's range starts or ends, and has the rule's place if the rule speaks of its requests; it has
-- the last one where that rule covers every channel
pub record Looks (rule : Rule) (place : ℕ) (scope : Scope) (old new : Span) (last : Bool) : Type 0 where
  pub ahead : scope.low ≤ℤ new.high
  pub within : new.high ≤ℤ old.high
  pub alike : speaks_to rule scope.asker scope.act ≡ true → (stream : ℤ) → is_within scope.low new.high stream ≡ true
      → in_range rule stream ≡ in_range rule scope.low
  pub places : new.places ≡ old.places ++ cond (speaks_of_low rule scope) (place ∷ []) []
  pub speaks : last ≡ true → speaks_of_low rule scope ≡ true
  pub every : last ≡ true → is_any rule.channel ≡ true

-- of the first `count` rules, the first that matches a request of the scope up to `high`, is the first of those at these places
-- whose pattern covers the channel
pub record DecideSoFar (rules : List Rule) (scope : Scope) (high : ℤ) (places : List ℕ) (count : ℕ) : Type 0 where
  pub first : (question : Question) → is_in rules (up_to scope high) question ≡ true
      → position (λ rule. matches rule question) (take count rules) ≡ first_of rules places question.channel

-- so it is of all rules
pub record IsStretch (rules : List Rule) (scope : Scope) (stretch : Span) : Type 0 where
  pub ahead : scope.low ≤ℤ stretch.high
  pub within : stretch.high ≤ℤ scope.high
  pub first : (question : Question) → is_in rules (up_to scope stretch.high) question ≡ true
      → position (λ rule. matches rule question) rules ≡ first_of rules stretch.places question.channel

-- ---- the first one in a list that grows

position_from-append : {K : Type 0} (test : K → Bool) (at : ℕ) (xs ys : List K)
    → position_from test at (xs ++ ys) ≡ option_or (position_from test at xs) (position_from test (at + length xs) ys)
position_from-append test at [] ys = ap (λ n. position_from test n ys) (omega arith)
position_from-append test at (x ∷ xs) ys =
    ⊎_elim
    (λ yes. rw yes refl)
    (λ no. rw no (position_from-append test (at + 1) xs ys ∙ ap (λ n. option_or (position_from test (at + 1) xs) (position_from test n ys)) (omega arith)))
    (cases_Bool (test x))

position-append : {K : Type 0} (test : K → Bool) (xs ys : List K)
    → position test (xs ++ ys) ≡ option_or (position test xs) (position_from test (length xs) ys)
position-append test xs ys =
    position_from-zero test (xs ++ ys) ∙ position_from-append test 0 xs ys
    ∙ ap (λ n. option_or (position_from test 0 xs) (position_from test n ys)) (omega arith)
    ∙ ap (λ o. option_or o (position_from test (length xs) ys)) (sym (position_from-zero test xs))

position_more : {K : Type 0} (test : K → Bool) (xs : List K) (at : ℕ) (d : K) → at < length xs
    → position test (take (at + 1) xs) ≡ option_or (position test (take at xs)) (cond (test (get_or xs at d)) (Some at) None)
position_more test xs at d inside =
    ap (position test) (take_more xs at d inside) ∙ position-append test (take at xs) (get_or xs at d ∷ [])
    ∙ ap (λ n. option_or (position test (take at xs)) (cond (test (get_or xs at d)) (Some n) None)) (length-take-le at xs (omega arith))

-- ---- whether the rule matches

spoken_one : (one number principal : ℕ) → eqb number principal ≡ true → eqb one principal ≡ eqb one number
spoken_one one number principal h = ap (eqb one) (sym (eqb-true number principal h))

spoken_others : (rules : List Rule) (at : ℕ) (rule : Rule) (principal : ℕ) → at < length rules → get_or rules at rule ≡ rule
    → not (is_named rules principal) ≡ true → names principal rule.principals ≡ false
spoken_others rules at rule principal inside is h =
    false_from_ne_true _ (λ named.
    let there : names principal (get_or rules at rule).principals ≡ true = ap (λ (r : Rule). names principal r.principals) is ∙ named in
    true≢false (sym (list_any_at (λ r. names principal r.principals) rules at rule inside there) ∙ not-true _ h))

spoken_from : (principals : Principals) (asker : Asker) (rules : List Rule) (principal : ℕ) → is_asker rules asker principal ≡ true
    → (not (is_named rules principal) ≡ true → names principal principals ≡ false)
    → speaks_of principals principal ≡ is_spoken_to principals asker
spoken_from Any asker rules principal h others = refl
spoken_from (Only one) (One number) rules principal h others = spoken_one one number principal h
spoken_from (Only one) Others rules principal h others = others h

-- of a request of the scope
pub record Fits (rules : List Rule) (scope : Scope) (high : ℤ) (question : Question) : Type 0 where
  pub asker : is_asker rules scope.asker question.principal ≡ true
  pub act : act_number scope.act ≡ act_number question.act
  pub within : is_within scope.low high question.stream ≡ true

pub fits_of : (rules : List Rule) (scope : Scope) (high : ℤ) (question : Question) → is_in rules (up_to scope high) question ≡ true
    → Fits rules scope high question
fits_of rules scope high question h =
    let outer = and_parts _ _ h in
    let inner = and_parts _ _ outer.0 in
    record { asker = inner.0; act = eqb-true _ _ inner.1; within = outer.1 }

pub in_of : (rules : List Rule) (scope : Scope) (high : ℤ) (question : Question) → Fits rules scope high question
    → is_in rules (up_to scope high) question ≡ true
in_of rules scope high question fits = and_from _ _ (and_from _ _ fits.asker (eq-eqb _ _ fits.act)) fits.within

bools : (a b c d e : Bool) → (a && b && c && d && e) ≡ cond ((a && b) && (d && e)) c false
bools false b c d e = refl
bools true false c d e = refl
bools true true true true true = refl
bools true true true true false = refl
bools true true true false e = refl
bools true true false true true = refl
bools true true false true false = refl
bools true true false false e = refl

-- the rule matches where it speaks of the scope and covers the channel
matches_as : (rules : List Rule) (at : ℕ) (rule : Rule) (scope : Scope) (old new : Span) (last : Bool) (question : Question)
    → at < length rules → get_or rules at rule ≡ rule → Looks rule at scope old new last → Fits rules scope new.high question
    → matches rule question ≡ cond (speaks_of_low rule scope) (covers rule.channel question.channel) false
unfolding matches
matches_as rules at rule scope old new last question inside is looks fits =
    let spoken = spoken_from rule.principals scope.asker rules question.principal fits.asker (spoken_others rules at rule question.principal inside is) in
    let held : holds rule.acts question.act ≡ holds rule.acts scope.act = ap (λ n. get_or rule.acts.held n false) (sym fits.act) in
    let whole = bools (speaks_of rule.principals question.principal) (holds rule.acts question.act) (covers rule.channel question.channel) _ _ in
    whole ∙ ap (λ t. cond t (covers rule.channel question.channel) false) (
    ap (λ t. t && in_range rule question.stream) (ap (λ t. t && holds rule.acts question.act) spoken ∙ ap (λ t. is_spoken_to rule.principals scope.asker && t) held)
    ∙ ⊎_elim
    (λ yes. ap (λ t. speaks_to rule scope.asker scope.act && t) (looks.alike yes question.stream fits.within))
    (λ no. rw no refl)
    (cases_Bool (speaks_to rule scope.asker scope.act)))

-- ---- a rule more

first_more : (rules : List Rule) (places : List ℕ) (at : ℕ) (rule : Rule) (channel : Shape) (speaks : Bool) → at < length rules → get_or rules at rule ≡ rule
    → first_of rules (places ++ cond speaks (at ∷ []) []) channel
    ≡ option_or (first_of rules places channel) (cond (cond speaks (covers rule.channel channel) false) (Some at) None)
first_more rules places at rule channel false inside is =
    find-append (covers_at rules channel) places []
first_more rules places at rule channel true inside is =
    let here : covers_at rules channel at ≡ covers rule.channel channel =
    get_or-map (λ r. covers r.channel channel) rules at rule false inside ∙ ap (λ (r : Rule). covers r.channel channel) is in
    find-append (covers_at rules channel) places (at ∷ [])
    ∙ ap (λ t. option_or (first_of rules places channel) (cond t (Some at) None)) here

fits_wider : (rules : List Rule) (scope : Scope) (near far : ℤ) (question : Question) → near ≤ℤ far → Fits rules scope near question → Fits rules scope far question
fits_wider rules scope near far question wide fits =
    record { asker = fits.asker; act = fits.act; within = within_wider scope.low near far question.stream wide fits.within }

pub so_far_more : (rules : List Rule) (at : ℕ) (rule : Rule) (scope : Scope) (old new : Span) (last : Bool)
    → at < length rules → get_or rules at rule ≡ rule → Looks rule at scope old new last
    → DecideSoFar rules scope old.high old.places at → DecideSoFar rules scope new.high new.places (at + 1)
so_far_more rules at rule scope old new last inside is looks before = record {
  first = λ question h.
      let fits = fits_of rules scope new.high question h in
      let was = before.first question (in_of rules scope old.high question (fits_wider rules scope new.high old.high question looks.within fits)) in
      let here = ap (λ (r : Rule). matches r question) is ∙ matches_as rules at rule scope old new last question inside is looks fits in
      position_more (λ r. matches r question) rules at rule inside
      ∙ ap (λ t. option_or (position (λ r. matches r question) (take at rules)) (cond t (Some at) None)) here
      ∙ ap (λ o. option_or o (cond (cond (speaks_of_low rule scope) (covers rule.channel question.channel) false) (Some at) None)) was
      ∙ sym (first_more rules old.places at rule question.channel (speaks_of_low rule scope) inside is)
      ∙ ap (λ places. first_of rules places question.channel) (sym looks.places);
}

-- ---- the end

pub all_looked : (rules : List Rule) (scope : Scope) (stretch : Span) (count : ℕ) → scope.low ≤ℤ stretch.high → stretch.high ≤ℤ scope.high
    → DecideSoFar rules scope stretch.high stretch.places count → length rules < count + 1 → IsStretch rules scope stretch
all_looked rules scope stretch count ahead within so_far all = record {
  ahead = ahead;
  within = within;
  first = λ question h. ap (position (λ r. matches r question)) (sym (take_all count rules (omega arith))) ∙ so_far.first question h;
}

every_covers : (pattern : Pattern) (channel : Shape) → is_any pattern ≡ true → covers pattern channel ≡ true
unfolding covers
every_covers AnyChannel channel h = refl
every_covers (Of media keys) channel h = absurd (true≢false (sym h))

option_or_some : (first : Option ℕ) (at : ℕ) (rest : Option ℕ) → option_or (option_or first (Some at)) rest ≡ option_or first (Some at)
option_or_some None at rest = refl
option_or_some (Some place) at rest = refl

pub last_looked : (rules : List Rule) (at : ℕ) (rule : Rule) (scope : Scope) (old new : Span)
    → at < length rules → get_or rules at rule ≡ rule → Looks rule at scope old new true → new.high ≤ℤ scope.high
    → DecideSoFar rules scope new.high new.places (at + 1) → IsStretch rules scope new
last_looked rules at rule scope old new inside is looks within so_far = record {
  ahead = looks.ahead;
  within = within;
  first = λ question h.
      let test = λ (r : Rule). matches r question in
      let fits = fits_of rules scope new.high question h in
      let whole = every_covers rule.channel question.channel (looks.every refl) in
      let speaks = looks.speaks refl in
      let here : matches rule question ≡ true = matches_as rules at rule scope old new true question inside is looks fits ∙ rw (speaks, whole) refl in
      let there : matches (get_or rules at rule) question ≡ true = ap (λ (r : Rule). matches r question) is ∙ here in
      let found : position test (take (at + 1) rules) ≡ option_or (position test (take at rules)) (Some at) = position_more test rules at rule inside ∙ rw there refl in
      ap (position test) (sym (take-append-drop (at + 1) rules))
      ∙ position-append test (take (at + 1) rules) (drop (at + 1) rules)
      ∙ ap (λ o. option_or o (position_from test (length (take (at + 1) rules)) (drop (at + 1) rules))) found
      ∙ option_or_some (position test (take at rules)) at (position_from test (length (take (at + 1) rules)) (drop (at + 1) rules))
      ∙ sym found ∙ so_far.first question h;
}

-- ---- one look

looks_by : (rule : Rule) (place : ℕ) (scope : Scope) (span : Span) (speaks : Bool) → speaks_to rule scope.asker scope.act ≡ speaks → scope.low ≤ℤ span.high
    → Looks rule place scope span
    (cond speaks (record { high = end_at rule scope.low span.high; places = span.places ++ cond (in_range rule scope.low) (place ∷ []) [] }) span)
    (speaks && in_range rule scope.low && is_any rule.channel)
looks_by rule place scope span false e order = record {
  ahead = order;
  within = omega (arith, ints);
  alike = λ speaks. absurd (true≢false (sym speaks ∙ e));
  places = sym (append-nil span.places) ∙ ap (λ t. span.places ++ cond (t && in_range rule scope.low) (place ∷ []) []) (sym e);
  speaks = λ h. absurd (true≢false (sym h));
  every = λ h. absurd (true≢false (sym h));
}
looks_by rule place scope span true e order =
    let ends = end_is rule scope.low span.high order in
    record {
      ahead = ends.ahead;
      within = ends.within;
      alike = λ speaks. ends.alike;
      places = ap (λ t. span.places ++ cond (t && in_range rule scope.low) (place ∷ []) []) (sym e);
      speaks = λ h. ap (λ t. t && in_range rule scope.low) e ∙ (and_parts (in_range rule scope.low) (is_any rule.channel) h).0;
      every = λ h. (and_parts (in_range rule scope.low) (is_any rule.channel) h).1;
    }

pub looks_is : (rule : Rule) (place : ℕ) (scope : Scope) (span : Span) → scope.low ≤ℤ span.high
    → Looks rule place scope span (look rule place scope span) (closes rule scope)
looks_is rule place scope span order = looks_by rule place scope span (speaks_to rule scope.asker scope.act) refl order

-- ---- all rules

here_is : (done : List Rule) (rule : Rule) (more : List Rule) (at : ℕ) → length done ≡ at → get_or (done ++ rule ∷ more) at rule ≡ rule
here_is done rule more at e =
    let zero_is : at - at ≡ 0 = omega arith in
    get_or-append_right done (rule ∷ more) at at rule e (omega arith) ∙ ap (λ n. get_or (rule ∷ more) n rule) zero_is

is_inside : (done : List Rule) (rule : Rule) (more : List Rule) (at : ℕ) → length done ≡ at → at < length (done ++ rule ∷ more)
is_inside done rule more at e = let whole = length-append done (rule ∷ more) in omega (arith, whole)

looked_is : (rest done : List Rule) (at : ℕ) (scope : Scope) (span : Span) → length done ≡ at → scope.low ≤ℤ span.high → span.high ≤ℤ scope.high
    → DecideSoFar (done ++ rest) scope span.high span.places at → IsStretch (done ++ rest) scope (looked rest at scope span)
looked_is [] done at scope span e ahead within so_far =
    let whole = length-append done [] in
    all_looked (done ++ []) scope span at ahead within so_far (omega (arith, whole))
looked_is (rule ∷ more) done at scope span e ahead within so_far =
    let rules = done ++ rule ∷ more in
    let new = look rule at scope span in
    let inside = is_inside done rule more at e in
    let is = here_is done rule more at e in
    let looks = looks_is rule at scope span ahead in
    let near : new.high ≤ℤ scope.high = let a = looks.within in omega (arith, ints) in
    let after = so_far_more rules at rule scope span new (closes rule scope) inside is looks so_far in
    let same : (done ++ rule ∷ []) ++ more ≡ rules = append_assoc done (rule ∷ []) more in
    let rest : IsStretch rules scope (looked more (at + 1) scope new) =
    subst (λ (own : List Rule). IsStretch own scope (looked more (at + 1) scope new)) same
    (looked_is more (done ++ rule ∷ []) (at + 1) scope new (length_push done rule ∙ ap (λ n. n + 1) e) looks.ahead near
    (subst (λ (own : List Rule). DecideSoFar own scope new.high new.places (at + 1)) (sym same) after)) in
    ⊎_elim
    (λ yes. subst (λ (last : Bool). IsStretch rules scope (cond last new (looked more (at + 1) scope new))) (sym yes)
    (last_looked rules at rule scope span new inside is (subst (λ (last : Bool). Looks rule at scope span new last) yes looks) near after))
    (λ no. subst (λ (last : Bool). IsStretch rules scope (cond last new (looked more (at + 1) scope new))) (sym no) rest)
    (cases_Bool (closes rule scope))

-- the span at a scope's low stream decides its requests
pub span_is : (rules : List Rule) (scope : Scope) → scope.low ≤ℤ scope.high → IsStretch rules scope (span_at rules scope)
unfolding span_at
span_is rules scope order =
    looked_is rules [] 0 scope (record { high = scope.high; places = [] }) refl order (omega (arith, ints)) (record { first = λ question h. refl })

-- ---- how it is found

looked_here : (rules : List Rule) (scope : Scope) (at : ℕ) (rule : Rule) (old : Span) → at < length rules → get_or rules at rule ≡ rule
    → looked (drop at rules) at scope old
    ≡ cond (closes rule scope) (look rule at scope old) (looked (drop (at + 1) rules) (at + 1) scope (look rule at scope old))
looked_here rules scope at rule old inside is =
    at_drop_more (λ (l : List Rule). looked l at scope old) rules at rule inside
    ∙ ap (λ (r : Rule). looked (r ∷ drop (at + 1) rules) at scope old) is

pub stretch_goes_on : (rules : List Rule) (scope : Scope) (at : ℕ) (rule : Rule) (old new : Span) → at < length rules → get_or rules at rule ≡ rule
    → looked (drop at rules) at scope old ≡ span_at rules scope → new ≡ look rule at scope old → closes rule scope ≡ false
    → looked (drop (at + 1) rules) (at + 1) scope new ≡ span_at rules scope
stretch_goes_on rules scope at rule old new inside is before looks is_false =
    ap (looked (drop (at + 1) rules) (at + 1) scope) looks
    ∙ sym (ap (λ (b : Bool). cond b (look rule at scope old) (looked (drop (at + 1) rules) (at + 1) scope (look rule at scope old))) is_false)
    ∙ sym (looked_here rules scope at rule old inside is) ∙ before

pub stretch_ends : (rules : List Rule) (scope : Scope) (at : ℕ) (rule : Rule) (old new : Span) → at < length rules → get_or rules at rule ≡ rule
    → looked (drop at rules) at scope old ≡ span_at rules scope → new ≡ look rule at scope old → closes rule scope ≡ true
    → new ≡ span_at rules scope
stretch_ends rules scope at rule old new inside is before looks is_true =
    looks
    ∙ sym (ap (λ (b : Bool). cond b (look rule at scope old) (looked (drop (at + 1) rules) (at + 1) scope (look rule at scope old))) is_true)
    ∙ sym (looked_here rules scope at rule old inside is) ∙ before

pub stretch_whole : (rules : List Rule) (scope : Scope) (at : ℕ) (old : Span) → length rules ≤ at
    → looked (drop at rules) at scope old ≡ span_at rules scope → old ≡ span_at rules scope
stretch_whole rules scope at old past before =
    sym (at_drop_all (λ (l : List Rule). looked l at scope old) rules at past) ∙ before

pub stretch_starts : (rules : List Rule) (scope : Scope) (high : ℤ) (places : List ℕ) → high ≡ scope.high → places ≡ []
    → looked rules 0 scope (record { high = high; places = places }) ≡ span_at rules scope
unfolding span_at
stretch_starts rules scope high places same none =
    ap (λ (z : ℤ). looked rules 0 scope (record { high = z; places = places })) same
    ∙ ap (λ (l : List ℕ). looked rules 0 scope (record { high = scope.high; places = l })) none
