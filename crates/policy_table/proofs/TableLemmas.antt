-- Parts that are added to a table.
use Rattle.std.proofs.Common.{◌≡◌, ℕ, zero, suc, ℤ, pos, negsuc, ◌+◌, ◌<◌, ◌≤◌, ◌≤ℤ◌, ◌+ℤ◌, Bool, true, false, cond, not, ◌&&◌, List, [], ◌∷◌, ◌++◌, length, get_or, take, map, append_assoc, add-one, refl, sym, ap, ◌∙◌, subst, ⊎_elim, arith, eqb, ltb}
use Rattle.std.proofs.lemmas.Bool.{cases_Bool, cases_order, eq-eqb, le-ltb, lt-ltb, ne_eqb}
use Rattle.std.proofs.lemmas.Int.{ints}
use Rattle.std.proofs.lemmas.List.{append-nil, take_all, take_more}
use Rattle.std.proofs.lemmas.List.Elements.{All-nil, All-push}
use Rattle.std.proofs.lemmas.List.Folds.{flat_map-map}
use Rattle.std.proofs.lemmas.Grind.{flat_map-append}
use Rattle.std.proofs.lemmas.List.Sums.{sum_by-append, sum_by_more}
use Rattle.std.specs.List.{count_by, flat_map}
use Rattle.std.specs.Prelude.{int_lt}
use Rattle.policy_core.specs.Act.{act_number, every_act}
use Rattle.policy_core.specs.Question.{Question}
use Rattle.policy_core.specs.Rules.{verdict_at, verdict_of}
use Rattle.policy_core.specs.RuleList.{Rules}
use Rattle.policy_core.specs.declared.act.Act.{Act}
use Rattle.policy_core.specs.declared.act.Act.TheVariants.{Publish, PublishExclusive, Subscribe, Spy, Destination, Counter, Terminate, Offer, Image, Receive, Send, Retransmit, Join, List as ListOf}
use Rattle.policy_core.specs.declared.rule.Rule.{Rule}
use Rattle.policy_table.specs.Scope.{AddsNamed, is_among, is_asker, is_in, is_named, is_stream, is_within}
use Rattle.policy_table.specs.Lane.{Part, from_on, is_last, lane, left_of, part_at, parts_from, up_to}
use Rattle.policy_table.specs.Stretch.{Span, span_at}
use Rattle.policy_table.specs.Table.{AddsParts, Decides, IsTable, IsTableOf, first_of, all_parts, askers_of, is_of_lane, one_if, parts_of, times_in}
use Rattle.policy_table.specs.declared.scope.Asker.{Asker}
use Rattle.policy_table.specs.declared.scope.Asker.TheVariants.{One, Others}
use Rattle.policy_table.specs.declared.scope.Scope.{Scope}
use Rattle.policy_table.proofs.NamedLemmas.{none_among, some_among}
use Rattle.policy_table.proofs.LaneLemmas.{next_parts, part_goes_on, part_places, part_scope}
use Rattle.policy_table.proofs.PartLemmas.{before_lowest, last_part, next_part}
use Rattle.policy_table.proofs.StreamLemmas.{le_true}
use Rattle.policy_table.proofs.StretchLemmas.{IsStretch, span_is}

-- ---- one after the other

pub adds_nothing : (policy : Rules) (more : Question → ℕ) (parts : List Part) → ((question : Question) → is_stream question.stream ≡ true → more question ≡ 0)
    → AddsParts policy more parts parts
adds_nothing policy more parts none = record {
  decides = λ all. all;
  times = λ question h. let zero = none question h in omega arith;
}

pub adds_then : (policy : Rules) (f g h : Question → ℕ) (a b c : List Part) → AddsParts policy f a b → AddsParts policy g b c
    → ((question : Question) → is_stream question.stream ≡ true → f question + g question ≡ h question) → AddsParts policy h a c
adds_then policy f g h a b c first second sums = record {
  decides = λ all. second.decides (first.decides all);
  times = λ question s.
      let one = first.times question s in
      let two = second.times question s in
      let sum = sums question s in
      omega arith;
}

-- ---- a part

decides_from : (policy : Rules) (scope : Scope) (stretch : Span) (part : Part) → IsStretch policy.rules scope stretch
    → part.scope ≡ up_to scope stretch.high → part.places ≡ stretch.places → Decides policy part
unfolding verdict_of
decides_from policy scope stretch part is same rules = record {
  verdict = λ epoch question h.
      let inside = ap (λ (s : Scope). is_in policy.rules s question) (sym same) ∙ h in
      ap (verdict_at policy epoch) (is.first question inside ∙ ap (λ places. first_of policy.rules places question.channel) (sym rules));
}

part_times : (rules : List Rule) (parts : List Part) (part : Part) (question : Question)
    → times_in rules (parts ++ part ∷ []) question ≡ times_in rules parts question + one_if (is_in rules part.scope question)
part_times rules parts part question =
    let p = λ (b : Part). is_in rules b.scope question in
    let whole = sum_by-append (λ (b : Part). cond (p b) 1 0) parts (part ∷ []) in
    ⊎_elim
    (λ yes. whole ∙ rw yes refl)
    (λ no. whole ∙ rw no refl)
    (cases_Bool (p part))

pub part_added : (policy : Rules) (scope : Scope) (stretch : Span) (part : Part) (parts : List Part) → IsStretch policy.rules scope stretch
    → part.scope ≡ up_to scope stretch.high → part.places ≡ stretch.places
    → AddsParts policy (λ question. one_if (is_in policy.rules (up_to scope stretch.high) question)) parts (parts ++ part ∷ [])
part_added policy scope stretch part parts is same rules = record {
  decides = λ all. All-push (Decides policy) parts part all (decides_from policy scope stretch part is same rules);
  times = λ question _. part_times policy.rules parts part question
      ∙ ap (λ (s : Scope). times_in policy.rules parts question + one_if (is_in policy.rules s question)) same;
}

-- ---- a lane

pub lane_parts : (lane a b c : Bool) → one_if a + one_if b ≡ one_if c → one_if (lane && a) + one_if (lane && b) ≡ one_if (lane && c)
lane_parts false a b c h = refl
lane_parts true a b c h = h

pub lane_whole : (lane a b : Bool) → one_if a + one_if b ≡ 1 → one_if (lane && a) + one_if (lane && b) ≡ one_if lane
lane_whole false a b h = refl
lane_whole true a b h = h

lane_none : (lane a : Bool) → a ≡ false → one_if (lane && a) ≡ 0
lane_none false a h = refl
lane_none true a h = rw h refl

-- the requests of a lane on streams below this one
abbrev pub of_lane_below : List Rule → Asker → Act → ℤ → Question → ℕ
of_lane_below rules asker act low question = one_if (is_of_lane rules asker act question && int_lt question.stream low)

pub lane_starts : (policy : Rules) (asker : Asker) (act : Act) (parts : List Part)
    → AddsParts policy (of_lane_below policy.rules asker act (negsuc 2147483647)) parts parts
lane_starts policy asker act parts =
    adds_nothing policy _ parts (λ question h. lane_none (is_of_lane policy.rules asker act question) _ (before_lowest question.stream h))

pub lane_goes_on : (policy : Rules) (scope : Scope) (stretch : Span) (part : Part) (next : ℤ) (first parts : List Part)
    → AddsParts policy (of_lane_below policy.rules scope.asker scope.act scope.low) first parts → IsStretch policy.rules scope stretch
    → part.scope ≡ up_to scope stretch.high → part.places ≡ stretch.places → next ≡ stretch.high +ℤ pos 1
    → AddsParts policy (of_lane_below policy.rules scope.asker scope.act next) first (parts ++ part ∷ [])
lane_goes_on policy scope stretch part next first parts before is same rules step =
    adds_then policy _ _ _ first parts _ before (part_added policy scope stretch part parts is same rules)
    (λ question _. lane_parts (is_of_lane policy.rules scope.asker scope.act question) _ _ _ (next_part scope.low stretch.high next question.stream is.ahead step))

pub lane_ends : (policy : Rules) (scope : Scope) (stretch : Span) (part : Part) (first parts : List Part)
    → AddsParts policy (of_lane_below policy.rules scope.asker scope.act scope.low) first parts → IsStretch policy.rules scope stretch
    → part.scope ≡ up_to scope stretch.high → part.places ≡ stretch.places → stretch.high ≡ pos 2147483647
    → AddsParts policy (λ question. one_if (is_of_lane policy.rules scope.asker scope.act question)) first (parts ++ part ∷ [])
lane_ends policy scope stretch part first parts before is same rules end =
    adds_then policy _ _ _ first parts _ before (part_added policy scope stretch part parts is same rules)
    (λ question h. lane_whole (is_of_lane policy.rules scope.asker scope.act question) _ _
    (subst (λ (z : ℤ). one_if (int_lt question.stream scope.low) + one_if (is_within scope.low z question.stream) ≡ 1) (sym end) (last_part scope.low question.stream h)))

last_is : (high : ℤ) → high ≤ℤ pos 2147483647 → pos 2147483647 ≤ℤ high → high ≡ pos 2147483647
last_is high order back = omega (arith, ints)

lane_from : (n : ℕ) (policy : Rules) (asker : Asker) (act : Act) (low : ℤ) (first parts : List Part) → left_of low < n → low ≤ℤ pos 2147483647
    → AddsParts policy (of_lane_below policy.rules asker act low) first parts
    → AddsParts policy (λ question. one_if (is_of_lane policy.rules asker act question)) first (parts ++ parts_from policy.rules asker act low)
lane_from zero policy asker act low first parts few order before = absurd (omega arith)
lane_from (suc n) policy asker act low first parts few order before =
    let scope = from_on asker act low in
    let span = span_at policy.rules scope in
    let part = part_at policy.rules scope in
    let is : IsStretch policy.rules scope span = span_is policy.rules scope order in
    let same = part_scope policy.rules scope in
    let places = part_places policy.rules scope in
    let high : part.scope.high ≡ span.high = ap (λ (s : Scope). s.high) same in
    let rest = parts_from policy.rules asker act (part.scope.high +ℤ pos 1) in
    let more = λ (question : Question). one_if (is_of_lane policy.rules asker act question) in
    subst (λ (l : List Part). AddsParts policy more first (parts ++ l)) (sym (next_parts policy.rules asker act low order))
    (⊎_elim
    (λ (yes : is_last part ≡ true).
    let above : pos 2147483647 ≤ℤ span.high = subst (λ (z : ℤ). pos 2147483647 ≤ℤ z) high (le_true (pos 2147483647) part.scope.high yes) in
    subst (λ (b : Bool). AddsParts policy more first (parts ++ part ∷ cond b [] rest)) (sym yes)
    (lane_ends policy scope span part first parts before is same places (last_is span.high is.within above)))
    (λ (no : is_last part ≡ false).
    let goes = part_goes_on policy.rules asker act low order no in
    let less = goes.less in
    let after = lane_goes_on policy scope span part (part.scope.high +ℤ pos 1) first parts before is same places (ap (λ (z : ℤ). z +ℤ pos 1) high) in
    subst (λ (b : Bool). AddsParts policy more first (parts ++ part ∷ cond b [] rest)) (sym no)
    (subst (λ (l : List Part). AddsParts policy more first l) (append_assoc parts (part ∷ []) rest)
    (lane_from n policy asker act (part.scope.high +ℤ pos 1) first (parts ++ part ∷ []) (omega arith) goes.within after)))
    (cases_Bool (is_last part)))

pub lane_is : (policy : Rules) (asker : Asker) (act : Act) (parts : List Part)
    → AddsParts policy (λ question. one_if (is_of_lane policy.rules asker act question)) parts (parts ++ lane policy.rules asker act)
lane_is policy asker act parts =
    lane_from (left_of (negsuc 2147483647) + 1) policy asker act (negsuc 2147483647) parts parts (omega arith) (omega (arith, ints))
    (lane_starts policy asker act parts)

-- ---- an asker

pub act_small : (act : Act) → act_number act < 14
act_small Publish = omega arith
act_small PublishExclusive = omega arith
act_small Subscribe = omega arith
act_small Spy = omega arith
act_small Destination = omega arith
act_small Counter = omega arith
act_small Terminate = omega arith
act_small Offer = omega arith
act_small Image = omega arith
act_small Receive = omega arith
act_small Send = omega arith
act_small Retransmit = omega arith
act_small Join = omega arith
act_small ListOf = omega arith

next_same : (number own : ℕ) → own ≡ number → one_if (ltb own number) + one_if (eqb number own) ≡ one_if (ltb own (number + 1))
next_same number own same = rw (le-ltb own number (omega arith), eq-eqb number own (sym same), lt-ltb own (number + 1) (omega arith)) refl

next_below : (number own : ℕ) → own < number → one_if (ltb own number) + one_if (eqb number own) ≡ one_if (ltb own (number + 1))
next_below number own below =
    rw (lt-ltb own number below, ne_eqb number own (λ (e : number ≡ own). absurd (omega arith)), lt-ltb own (number + 1) (omega arith)) refl

next_above : (number own : ℕ) → number < own → one_if (ltb own number) + one_if (eqb number own) ≡ one_if (ltb own (number + 1))
next_above number own above =
    rw (le-ltb own number (omega arith), ne_eqb number own (λ (e : number ≡ own). absurd (omega arith)), le-ltb own (number + 1) (omega arith)) refl

next_number : (number own : ℕ) → one_if (ltb own number) + one_if (eqb number own) ≡ one_if (ltb own (number + 1))
next_number number own =
    ⊎_elim (next_same number own) (λ apart. ⊎_elim (next_below number own) (next_above number own) apart) (cases_order own number)

-- the requests of an asker, of the acts below this number
abbrev pub of_asker_below : List Rule → Asker → ℕ → Question → ℕ
of_asker_below rules asker number question = one_if (is_asker rules asker question.principal && ltb (act_number question.act) number)

pub asker_starts : (policy : Rules) (asker : Asker) (parts : List Part) → AddsParts policy (of_asker_below policy.rules asker 0) parts parts
asker_starts policy asker parts =
    adds_nothing policy _ parts (λ question h. lane_none (is_asker policy.rules asker question.principal) _ (le-ltb _ _ (omega arith)))

pub asker_goes_on : (policy : Rules) (asker : Asker) (act : Act) (number : ℕ) (first old new : List Part) → act_number act ≡ number
    → AddsParts policy (of_asker_below policy.rules asker number) first old
    → AddsParts policy (λ question. one_if (is_of_lane policy.rules asker act question)) old new
    → AddsParts policy (of_asker_below policy.rules asker (number + 1)) first new
asker_goes_on policy asker act number first old new is before lane =
    adds_then policy _ _ _ first old new before lane
    (λ question _. lane_parts (is_asker policy.rules asker question.principal) _ _ _
    (subst (λ (n : ℕ). one_if (ltb (act_number question.act) number) + one_if (eqb n (act_number question.act)) ≡ one_if (ltb (act_number question.act) (number + 1)))
    (sym is) (next_number number (act_number question.act))))

and_true : (a b : Bool) → b ≡ true → (a && b) ≡ a
and_true false b h = refl
and_true true b h = h

pub asker_ends : (policy : Rules) (asker : Asker) (number : ℕ) (first new : List Part) → 13 < number
    → AddsParts policy (of_asker_below policy.rules asker number) first new
    → AddsParts policy (λ question. one_if (is_asker policy.rules asker question.principal)) first new
asker_ends policy asker number first new past adds = record {
  decides = adds.decides;
  times = λ question s.
      let small = act_small question.act in
      adds.times question s
      ∙ ap (λ b. times_in policy.rules first question + one_if b) (and_true _ _ (lt-ltb (act_number question.act) number (omega arith)));
}

number_at : (number : ℕ) → number < 14 → act_number (get_or every_act number Publish) ≡ number
number_at zero small = refl
number_at (suc zero) small = refl
number_at (suc (suc zero)) small = refl
number_at (suc (suc (suc zero))) small = refl
number_at (suc (suc (suc (suc zero)))) small = refl
number_at (suc (suc (suc (suc (suc zero))))) small = refl
number_at (suc (suc (suc (suc (suc (suc zero)))))) small = refl
number_at (suc (suc (suc (suc (suc (suc (suc zero))))))) small = refl
number_at (suc (suc (suc (suc (suc (suc (suc (suc zero)))))))) small = refl
number_at (suc (suc (suc (suc (suc (suc (suc (suc (suc zero))))))))) small = refl
number_at (suc (suc (suc (suc (suc (suc (suc (suc (suc (suc zero)))))))))) small = refl
number_at (suc (suc (suc (suc (suc (suc (suc (suc (suc (suc (suc zero))))))))))) small = refl
number_at (suc (suc (suc (suc (suc (suc (suc (suc (suc (suc (suc (suc zero)))))))))))) small = refl
number_at (suc (suc (suc (suc (suc (suc (suc (suc (suc (suc (suc (suc (suc zero))))))))))))) small = refl
number_at (suc (suc (suc (suc (suc (suc (suc (suc (suc (suc (suc (suc (suc (suc more)))))))))))))) small = absurd (omega arith)

acts_more : (rules : List Rule) (asker : Asker) (number : ℕ) → number < 14
    → flat_map (lane rules asker) (take (number + 1) every_act)
    ≡ flat_map (lane rules asker) (take number every_act) ++ lane rules asker (get_or every_act number Publish)
acts_more rules asker number small =
    ap (flat_map (lane rules asker)) (take_more every_act number Publish small)
    ∙ flat_map-append (lane rules asker) (take number every_act) (get_or every_act number Publish ∷ [])
    ∙ ap (λ (l : List Part). flat_map (lane rules asker) (take number every_act) ++ l) (append-nil (lane rules asker (get_or every_act number Publish)))

asker_from : (number : ℕ) (policy : Rules) (asker : Asker) (first : List Part) → number < 15
    → AddsParts policy (of_asker_below policy.rules asker number) first (first ++ flat_map (lane policy.rules asker) (take number every_act))
asker_from zero policy asker first small =
    subst (λ (l : List Part). AddsParts policy (of_asker_below policy.rules asker 0) first l) (sym (append-nil first)) (asker_starts policy asker first)
asker_from (suc number) policy asker first small =
    let old = first ++ flat_map (lane policy.rules asker) (take number every_act) in
    let act = get_or every_act number Publish in
    let inside : number < 14 = omega arith in
    let lists : old ++ lane policy.rules asker act ≡ first ++ flat_map (lane policy.rules asker) (take (number + 1) every_act) =
    append_assoc first (flat_map (lane policy.rules asker) (take number every_act)) (lane policy.rules asker act)
    ∙ ap (λ (l : List Part). first ++ l) (sym (acts_more policy.rules asker number inside)) in
    let whole : AddsParts policy (of_asker_below policy.rules asker (number + 1)) first (first ++ flat_map (lane policy.rules asker) (take (number + 1) every_act)) =
    subst (λ (l : List Part). AddsParts policy (of_asker_below policy.rules asker (number + 1)) first l) lists
    (asker_goes_on policy asker act number first old (old ++ lane policy.rules asker act) (number_at number inside)
    (asker_from number policy asker first (omega arith)) (lane_is policy asker act old)) in
    subst (λ (n : ℕ). AddsParts policy (of_asker_below policy.rules asker n) first (first ++ flat_map (lane policy.rules asker) (take n every_act))) (add-one number) whole

pub asker_is : (policy : Rules) (asker : Asker) (first : List Part)
    → AddsParts policy (λ question. one_if (is_asker policy.rules asker question.principal)) first (first ++ parts_of policy.rules asker)
unfolding parts_of
asker_is policy asker first =
    asker_ends policy asker 14 first (first ++ flat_map (lane policy.rules asker) every_act) (omega arith) (asker_from 14 policy asker first (omega arith))

-- ---- all askers

abbrev pub of_named : List ℕ → Question → ℕ
of_named numbers question = count_by (λ other. eqb other question.principal) numbers

one_if_is : (b : Bool) → one_if b ≡ cond b 1 0
one_if_is true = refl
one_if_is false = refl

pub named_goes_on : (policy : Rules) (named : List ℕ) (at number d : ℕ) (first old new : List Part) → at < length named → number ≡ get_or named at d
    → AddsParts policy (of_named (take at named)) first old
    → AddsParts policy (λ question. one_if (is_asker policy.rules (One number) question.principal)) old new
    → AddsParts policy (of_named (take (at + 1) named)) first new
named_goes_on policy named at number d first old new inside is before more =
    adds_then policy _ _ _ first old new before more
    (λ question _.
    let test = λ (other : ℕ). cond (eqb other question.principal) 1 0 in
    ap (λ (n : ℕ). of_named (take at named) question + n) (one_if_is (eqb number question.principal) ∙ ap test is) ∙ sym (sum_by_more test named at d inside))

named_or_other : (named : List ℕ) (rules : List Rule) (number : ℕ) → AddsNamed [] named (is_named rules)
    → count_by (λ other. eqb other number) named + one_if (not (is_named rules number)) ≡ 1
named_or_other named rules number adds =
    let few = adds.once number (omega arith) in
    let all : is_among named number ≡ is_named rules number = adds.all number in
    let count = count_by (λ other. eqb other number) named in
    ⊎_elim
    (λ (yes : is_named rules number ≡ true).
    let some = some_among named number (all ∙ yes) in
    let one : count + 0 ≡ 1 = omega (arith, few, some) in
    ap (λ (b : Bool). count + one_if (not b)) yes ∙ one)
    (λ (no : is_named rules number ≡ false).
    ap (λ (n : ℕ). n + one_if (not (is_named rules number))) (none_among named number (all ∙ no)) ∙ ap (λ (b : Bool). 0 + one_if (not b)) no)
    (cases_Bool (is_named rules number))

pub table_is : (policy : Rules) (named : List ℕ) (at : ℕ) (middle parts : List Part) → length named ≤ at → AddsNamed [] named (is_named policy.rules)
    → AddsParts policy (of_named (take at named)) [] middle
    → AddsParts policy (λ question. one_if (is_asker policy.rules Others question.principal)) middle parts
    → IsTable policy parts
table_is policy named at middle parts all adds before others =
    let whole = adds_then policy _ _ (λ _. 1) [] middle parts before others
    (λ question _. ap (λ numbers. of_named numbers question + one_if (is_asker policy.rules Others question.principal)) (take_all at named all)
    ∙ named_or_other named policy.rules question.principal adds) in
    record { decides = whole.decides (All-nil (Decides policy)); once = λ question s. whole.times question s }

pub table_of_is : (policy : Rules) (principal : ℕ) (parts : List Part)
    → AddsParts policy (λ question. one_if (is_asker policy.rules (One principal) question.principal)) [] parts → IsTableOf policy principal parts
table_of_is policy principal parts adds = record {
  decides = adds.decides (All-nil (Decides policy));
  once = λ question same s. adds.times question s ∙ ap (λ (b : Bool). 0 + one_if b) (eq-eqb principal question.principal (sym same));
}

-- ---- the whole table

named_from : (at : ℕ) (policy : Rules) (named : List ℕ) → at < length named + 1
    → AddsParts policy (of_named (take at named)) [] (flat_map (λ number. parts_of policy.rules (One number)) (take at named))
named_from zero policy named small = adds_nothing policy (of_named []) [] (λ question h. refl)
named_from (suc at) policy named small =
    let one = λ (number : ℕ). parts_of policy.rules (One number) in
    let inside : at < length named = omega arith in
    let old = flat_map one (take at named) in
    let number = get_or named at 0 in
    let lists : old ++ one number ≡ flat_map one (take (at + 1) named) =
    sym (ap (flat_map one) (take_more named at 0 inside) ∙ flat_map-append one (take at named) (number ∷ [])
    ∙ ap (λ (l : List Part). old ++ l) (append-nil (one number))) in
    let whole : AddsParts policy (of_named (take (at + 1) named)) [] (flat_map one (take (at + 1) named)) =
    subst (λ (l : List Part). AddsParts policy (of_named (take (at + 1) named)) [] l) lists
    (named_goes_on policy named at number 0 [] old (old ++ one number) inside refl (named_from at policy named (omega arith)) (asker_is policy (One number) old)) in
    subst (λ (n : ℕ). AddsParts policy (of_named (take n named)) [] (flat_map one (take n named))) (add-one at) whole

pub whole_is : (policy : Rules) (named : List ℕ) → AddsNamed [] named (is_named policy.rules) → IsTable policy (all_parts policy.rules (askers_of named))
whole_is policy named adds =
    let one = λ (number : ℕ). parts_of policy.rules (One number) in
    let middle = flat_map one (take (length named) named) in
    let all : middle ≡ flat_map one named = ap (flat_map one) (take_all (length named) named (omega arith)) in
    let lists : middle ++ parts_of policy.rules Others ≡ all_parts policy.rules (askers_of named) =
    ap (λ (l : List Part). l ++ parts_of policy.rules Others) (all ∙ sym (flat_map-map (parts_of policy.rules) One named))
    ∙ sym (flat_map-append (parts_of policy.rules) (map One named) (Others ∷ [])
    ∙ ap (λ (l : List Part). flat_map (parts_of policy.rules) (map One named) ++ l) (append-nil (parts_of policy.rules Others))) in
    subst (λ (l : List Part). IsTable policy l) lists
    (table_is policy named (length named) middle (middle ++ parts_of policy.rules Others) (omega arith) adds
    (named_from (length named) policy named (omega arith)) (asker_is policy Others middle))

pub one_is : (policy : Rules) (principal : ℕ) → IsTableOf policy principal (all_parts policy.rules (One principal ∷ []))
one_is policy principal =
    subst (λ (l : List Part). IsTableOf policy principal l) (sym (append-nil (parts_of policy.rules (One principal))))
    (table_of_is policy principal (parts_of policy.rules (One principal)) (asker_is policy (One principal) []))
