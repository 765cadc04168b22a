-- Streams that rules hold alike are decided alike.
use Rattle.std.proofs.Common.{◌≡◌, ℕ, zero, suc, ◌+◌, ◌-◌, ◌<◌, ℤ, pos, negsuc, ◌≤ℤ◌, ◌<ℤ◌, ◌+ℤ◌, Bool, true, false, not, cond, ◌&&◌, List, [], ◌∷◌, Option, Some, None, drop, find, length, nat_lt, position, refl, sym, ap, ◌∙◌, subst, arith, ⊎_elim}
use Rattle.std.proofs.lemmas.Bool.{and_from, and_parts, and_right}
use Rattle.std.proofs.lemmas.Int.{ints}
use Rattle.std.specs.Prelude.{int_le}
use Rattle.std.specs.Int.{int_gap}
use Rattle.std.specs.List.{AllByRecursion, prefix_len}
use Rattle.channel_uri.specs.Channel.{Shape}
use Rattle.channel_uri.specs.Pattern.{covers}
use Rattle.policy_core.specs.Question.{Question}
use Rattle.policy_core.specs.Acts.{holds}
use Rattle.policy_core.specs.Rule.{matches, speaks_of}
use Rattle.policy_core.specs.RuleList.{Rules}
use Rattle.policy_core.specs.Rules.{verdict_at, verdict_of}
use Rattle.policy_core.specs.declared.act.Act.{Act}
use Rattle.policy_core.specs.declared.rule.Rule.{Rule}
use Rattle.policy_tools.specs.Alike.{AllEndAt, EndSoFar, EndsAt, HoldsAlike, is_within}
use Rattle.policy_tools.specs.Cases.{Wanted, agrees, decided, failing_from, is_wanted, streams, streams_from}

-- ---- streams

pub le_true : (a b : ℤ) → int_le a b ≡ true → a ≤ℤ b
le_true a b h = grind (arith, ints)

pub true_le : (a b : ℤ) → a ≤ℤ b → int_le a b ≡ true
true_le a b h = grind (arith, ints)

pub le_false : (a b : ℤ) → int_le a b ≡ false → b <ℤ a
le_false a b h = grind (arith, ints)

pub lt_false : (a b : ℤ) → b <ℤ a → int_le a b ≡ false
lt_false a b h = grind (arith, ints)

within_nearer : (low near far stream : ℤ) → near ≤ℤ far → is_within low near stream ≡ true → is_within low far stream ≡ true
within_nearer low near far stream wide h =
    let parts = and_parts _ _ h in
    let high = le_true stream near parts.1 in
    and_from _ _ parts.0 (true_le stream far (omega (arith, ints)))

-- ---- one rule

-- before the range
pub ends_before : (rule : Rule) (low high end : ℤ) → low <ℤ rule.low → end <ℤ rule.low → low ≤ℤ end → end ≤ℤ high → EndsAt rule low high end
ends_before rule low high end before until ahead within = record {
  ahead = ahead;
  within = within;
  alike = λ stream h.
      let above : stream ≤ℤ end = le_true stream end (and_parts (int_le low stream) (int_le stream end) h).1 in
      rw (lt_false rule.low stream (omega (arith, ints)), lt_false rule.low low before) refl;
}

-- within the range
pub ends_inside : (rule : Rule) (low high end : ℤ) → rule.low ≤ℤ low → low ≤ℤ rule.high → end ≤ℤ rule.high → low ≤ℤ end → end ≤ℤ high
    → EndsAt rule low high end
ends_inside rule low high end from to until ahead within = record {
  ahead = ahead;
  within = within;
  alike = λ stream h.
      let parts = and_parts _ _ h in
      let below = le_true low stream parts.0 in
      let above = le_true stream end parts.1 in
      rw (
        true_le rule.low stream (omega (arith, ints)),
        true_le stream rule.high (omega (arith, ints)),
        true_le rule.low low from,
        true_le low rule.high to,
      )
      refl;
}

past_range : (rule : Rule) (stream : ℤ) → int_le stream rule.high ≡ false → is_within rule.low rule.high stream ≡ false
past_range rule stream h = and_right _ _ h

-- after the range
pub ends_after : (rule : Rule) (low high : ℤ) → rule.high <ℤ low → low ≤ℤ high → EndsAt rule low high high
ends_after rule low high past ahead = record {
  ahead = ahead;
  within = omega (arith, ints);
  alike = λ stream h.
      let parts = and_parts _ _ h in
      let below = le_true low stream parts.0 in
      past_range rule stream (lt_false stream rule.high (omega (arith, ints)))
      ∙ sym (past_range rule low (lt_false low rule.high past));
}

-- ---- all rules

five : (a b c d e : Bool) → (a && b && c && d && e) ≡ ((a && b && c) && (d && e))
five false b c d e = refl
five true false c d e = refl
five true true false d e = refl
five true true true false e = refl
five true true true true false = refl
five true true true true true = refl

-- whether a rule matches, by its range last
matches_by : (rule : Rule) (principal : ℕ) (act : Act) (channel : Shape) (stream : ℤ)
    → matches rule (record { principal = principal; act = act; channel = channel; stream = stream })
    ≡ ((speaks_of rule.principals principal && holds rule.acts act && covers rule.channel channel) && is_within rule.low rule.high stream)
unfolding matches
matches_by rule principal act channel stream =
    five (speaks_of rule.principals principal) (holds rule.acts act) (covers rule.channel channel) (int_le rule.low stream) (int_le stream rule.high)

same_match : (rule : Rule) (principal : ℕ) (act : Act) (channel : Shape) (one other : ℤ) → HoldsAlike one other rule
    → matches rule (record { principal = principal; act = act; channel = channel; stream = one })
    ≡ matches rule (record { principal = principal; act = act; channel = channel; stream = other })
same_match rule principal act channel one other alike =
    matches_by rule principal act channel one
    ∙ (ap (λ inside. (speaks_of rule.principals principal && holds rule.acts act && covers rule.channel channel) && inside) alike
    ∙ sym (matches_by rule principal act channel other))

-- so many rules do not match
same_len : (rules : List Rule) (principal : ℕ) (act : Act) (channel : Shape) (one other : ℤ) → AllByRecursion (HoldsAlike one other) rules
    → prefix_len (λ rule. not (matches rule (record { principal = principal; act = act; channel = channel; stream = one }))) rules
    ≡ prefix_len (λ rule. not (matches rule (record { principal = principal; act = act; channel = channel; stream = other }))) rules
same_len [] principal act channel one other alike = refl
same_len (rule ∷ rules) principal act channel one other alike =
    rw (same_match rule principal act channel one other alike.0, same_len rules principal act channel one other alike.1) refl

same_first : (rules : List Rule) (principal : ℕ) (act : Act) (channel : Shape) (one other : ℤ) → AllByRecursion (HoldsAlike one other) rules
    → position (λ rule. matches rule (record { principal = principal; act = act; channel = channel; stream = one })) rules
    ≡ position (λ rule. matches rule (record { principal = principal; act = act; channel = channel; stream = other })) rules
same_first rules principal act channel one other alike =
    ap (λ n. cond (nat_lt n (length rules)) (Some n) None) (same_len rules principal act channel one other alike)

pub same_wanted : (policy : Rules) (case : Wanted) (principal : ℕ) (act : Act) (one other : ℤ) → AllByRecursion (HoldsAlike one other) policy.rules
    → is_wanted policy case principal act one ≡ is_wanted policy case principal act other
unfolding verdict_of
same_wanted policy case principal act one other alike =
    ap (λ first. agrees policy.rules case.allow case.by (verdict_at policy 1 first)) (same_first policy.rules principal act case.channel one other alike)

-- ---- a stretch that passes

-- where the streams up to the end are not found, the first that is found comes after it
found_after : (test : ℤ → Bool) (low : ℤ) (count more : ℕ)
    → ((stream : ℤ) → low ≤ℤ stream → stream <ℤ (low +ℤ pos count) → test stream ≡ false)
    → find test (streams_from low (count + more)) ≡ find test (streams_from (low +ℤ pos count) more)
found_after test low zero more none =
    let start : low ≡ low +ℤ pos 0 = omega (arith, ints) in
    let left : zero + more ≡ more = omega arith in
    ap (λ n. find test (streams_from low n)) left ∙ ap (λ (s : ℤ). find test (streams_from s more)) start
found_after test low (suc count) more none =
    let here : test low ≡ false = none low (omega (arith, ints)) (omega (arith, ints)) in
    let there = found_after test (low +ℤ pos 1) count more (λ stream from to. none stream (omega (arith, ints)) (omega (arith, ints))) in
    let shape : suc count + more ≡ suc (count + more) = omega arith in
    let start : (low +ℤ pos 1) +ℤ pos count ≡ low +ℤ pos (suc count) = omega (arith, ints) in
    let step : find test (streams_from low (suc (count + more))) ≡ find test (streams_from (low +ℤ pos 1) (count + more)) = rw here refl in
    ap (λ n. find test (streams_from low n)) shape ∙ (step ∙ (there ∙ ap (λ (s : ℤ). find test (streams_from s more)) start))

-- the first stream is found where it fails
found_first : (test : ℤ → Bool) (low : ℤ) (more : ℕ) → test low ≡ true → find test (streams_from low (more + 1)) ≡ Some low
found_first test low more here =
    let shape : more + 1 ≡ suc more = omega arith in
    let step : find test (streams_from low (suc more)) ≡ Some low = rw here refl in
    ap (λ n. find test (streams_from low n)) shape ∙ step

-- ---- how far one stream is above another

pub gap_is : (low high : ℤ) → low ≤ℤ high → low +ℤ pos (int_gap low high) ≡ high
gap_is (pos a) (pos b) h = omega (arith, ints)
gap_is (pos a) (negsuc b) h = absurd (omega (arith, ints))
gap_is (negsuc a) (pos b) h = omega (arith, ints)
gap_is (negsuc a) (negsuc b) h = omega (arith, ints)

pub no_gap : (low high : ℤ) → high ≤ℤ low → int_gap low high ≡ 0
no_gap (pos a) (pos b) h = omega (arith, ints)
no_gap (pos a) (negsuc b) h = refl
no_gap (negsuc a) (pos b) h = absurd (omega (arith, ints))
no_gap (negsuc a) (negsuc b) h = omega (arith, ints)

-- the streams up to the end are decided as the first one is
pub not_found_until : (policy : Rules) (case : Wanted) (principal : ℕ) (act : Act) (low high end : ℤ) → AllEndAt policy.rules low high end
    → is_wanted policy case principal act low ≡ true → (stream : ℤ) → low ≤ℤ stream → stream ≤ℤ end
    → not (is_wanted policy case principal act stream) ≡ false
not_found_until policy case principal act low high end ends wanted stream from to =
    let alike = ends.alike stream (and_from _ _ (true_le low stream from) (true_le stream end to)) in
    ap not (same_wanted policy case principal act stream low alike ∙ wanted)

-- where they pass, the first stream that fails is one of those after the end
pub fails_after : (policy : Rules) (case : Wanted) (principal : ℕ) (act : Act) (low high end : ℤ) → AllEndAt policy.rules low high end
    → is_wanted policy case principal act low ≡ true → end <ℤ high
    → failing_from policy case principal act low high ≡ failing_from policy case principal act (end +ℤ pos 1) high
unfolding failing_from
fails_after policy case principal act low high end ends wanted before =
    let test : ℤ → Bool = λ stream. not (is_wanted policy case principal act stream) in
    let ahead = ends.ahead in
    let near = gap_is low end ahead in
    let far = gap_is low high (omega (arith, ints)) in
    let rest = gap_is (end +ℤ pos 1) high (omega (arith, ints)) in
    let count : ℕ = int_gap low end + 1 in
    let more : ℕ = int_gap (end +ℤ pos 1) high + 1 in
    let all : int_gap low high + 1 ≡ count + more = omega (arith, ints) in
    let start : low +ℤ pos count ≡ end +ℤ pos 1 = omega (arith, ints) in
    ap (λ n. find test (streams_from low n)) all
    ∙ found_after test low count more (λ stream from to. not_found_until policy case principal act low high end ends wanted stream from (omega (arith, ints)))
    ∙ ap (λ s. find test (streams_from s more)) start

-- where they pass up to the last one, none fails
pub none_fails : (policy : Rules) (case : Wanted) (principal : ℕ) (act : Act) (low high : ℤ) → AllEndAt policy.rules low high high
    → is_wanted policy case principal act low ≡ true
    → failing_from policy case principal act low high ≡ None
unfolding failing_from
none_fails policy case principal act low high ends wanted =
    let test : ℤ → Bool = λ stream. not (is_wanted policy case principal act stream) in
    let far = gap_is low high ends.ahead in
    let count : ℕ = int_gap low high + 1 in
    ap (λ n. find test (streams_from low n)) (omega (arith, ints))
    ∙ found_after test low count 0 (λ stream from to. not_found_until policy case principal act low high high ends wanted stream from (omega (arith, ints)))

-- where the first stream fails, it is the first that does
pub fails_first : (policy : Rules) (case : Wanted) (principal : ℕ) (act : Act) (low high : ℤ)
    → is_wanted policy case principal act low ≡ false
    → failing_from policy case principal act low high ≡ Some low
unfolding failing_from
fails_first policy case principal act low high fails =
    found_first (λ stream. not (is_wanted policy case principal act stream)) low (int_gap low high) (ap not fails)

-- where the last stream passes, none is left that fails
pub last_passes : (policy : Rules) (case : Wanted) (principal : ℕ) (act : Act) (low high : ℤ) → high ≤ℤ low
    → is_wanted policy case principal act low ≡ true
    → failing_from policy case principal act low high ≡ None
unfolding failing_from
last_passes policy case principal act low high last wanted =
    let test : ℤ → Bool = λ stream. not (is_wanted policy case principal act stream) in
    let one : int_gap low high + 1 ≡ suc 0 = ap (λ n. n + 1) (no_gap low high last) in
    let step : find test (streams_from low (suc 0)) ≡ None = rw (ap not wanted) refl in
    ap (λ n. find test (streams_from low n)) one ∙ step

-- ---- a rule more

pub next_rule : (rules : List Rule) (at : ℕ) (rule : Rule) (low high old end : ℤ) → drop at rules ≡ rule ∷ drop (at + 1) rules
    → EndsAt rule low old end → EndSoFar rules at low high old → EndSoFar rules (at + 1) low high end
next_rule rules at rule low high old end here ends before = record {
  ahead = ends.ahead;
  within = let a = ends.within in let b = before.within in omega (arith, ints);
  alike = λ stream inside rest.
      before.alike stream (within_nearer low end old stream ends.within inside) (subst (AllByRecursion (HoldsAlike stream low)) (sym here) (ends.alike stream inside, rest));
}

pub all_ended : (rules : List Rule) (at : ℕ) (low high end : ℤ) → drop at rules ≡ [] → EndSoFar rules at low high end → AllEndAt rules low high end
all_ended rules at low high end none so_far = record {
  ahead = so_far.ahead;
  within = so_far.within;
  alike = λ stream inside. so_far.alike stream inside (subst (AllByRecursion (HoldsAlike stream low)) (sym none) tt);
}

-- ---- what is left after a stretch

pub gap_smaller : (low high end : ℤ) → low ≤ℤ end → end <ℤ high → int_gap (end +ℤ pos 1) high < int_gap low high
gap_smaller low high end ahead before =
    let far = gap_is low high (omega (arith, ints)) in
    let rest = gap_is (end +ℤ pos 1) high (omega (arith, ints)) in
    omega (arith, ints)
