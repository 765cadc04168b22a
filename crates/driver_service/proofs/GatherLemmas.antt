-- A poll, a few fragments at a time.
use Rattle.std.proofs.Common.{arith, rules, ◌≡◌, ℕ, suc, min, ◌+◌, ◌-◌, ◌*◌, ◌^◌, ◌≤◌, ◌<◌, List, [], ◌∷◌, ◌++◌, All, length, append_assoc, sym, subst, ap, ◌∙◌, refl, true≢false, Result, Ok, Err, IfOk, IsErr}
use Rattle.std.proofs.lemmas.List.{append-nil, length-append}
use Rattle.std.proofs.lemmas.List.Elements.{All-append, All-cons, All-nil, All-push, All-weaker}
use Rattle.driver_service.specs.Answering.{AnswersOne, PollsOne}
use Rattle.driver_service.specs.Calls.{Call, CallsOnly, Does, Poll, Run, Writes}
use Rattle.driver_service.specs.Gathering.{Gathered, Gathers, GaveAll, IsOver, MayGoOn, all_polled, asked, full, polled_bytes, wanted, with_last}
use Rattle.driver_service.specs.Requests.{IsPoll, IsPollWithin, IsTry, fragments}
use Rattle.driver_service.specs.declared.reason.Refusal.{Refusal}
use Rattle.driver_service.proofs.CallLemmas.{empty_try, run_on, run_one, then_calls}

pub polled_on : (xs ys : List Call) → all_polled (xs ++ ys) ≡ all_polled xs ++ all_polled ys
polled_on [] ys = refl
polled_on (x ∷ xs) ys = ap (λ (b : List ℕ). polled_bytes x ++ b) (polled_on xs ys) ∙ sym (append_assoc (polled_bytes x) (all_polled xs) (all_polled ys))

pub may_go_on : (limit had : ℕ) (calls : List Call) → 16 * length calls < fragments limit → had + length (all_polled calls) < full → MayGoOn limit had calls
may_go_on limit had [] more short = record {}
may_go_on limit had (call ∷ calls) more short = (more, short)

-- ---- calls so far

pub record SoMany {S : Type 0} (does : Does S) (subscription source limit had : ℕ) (old new : S) (out after : List ℕ) (count : ℕ) : Type 0 where
  pub before : List Call
  pub each : All (GaveAll subscription source) before
  pub goes_on : MayGoOn limit had before
  pub run : Run does old before new
  pub long : length before ≡ count
  pub appended : after ≡ out ++ all_polled before

pub none_so_far : {S : Type 0} (does : Does S) (subscription source limit had : ℕ) (s : S) (out : List ℕ) → SoMany does subscription source limit had s s out out 0
none_so_far does subscription source limit had s out = record {
  before = [];
  each = All-nil (GaveAll subscription source);
  goes_on = record {};
  run = refl;
  long = refl;
  appended = sym (append-nil out);
}

-- as many as may be were made, so that there are more than were wanted
pub not_all : (limit had : ℕ) (calls : List Call) → MayGoOn limit had calls → length calls ≡ 256 → ⊥
not_all limit had [] goes_on long = let e : 0 ≡ 256 = long in omega (arith, e)
not_all limit had (call ∷ calls) goes_on long = let e : 16 * length (call ∷ calls) < min limit 4096 = goes_on.0 in omega (arith, e, long)

gave_all : (subscription source n : ℕ) (written : List ℕ) (told : Result ℕ Refusal) → told ≡ Ok 16 → n ≡ 16 → GaveAll subscription source (Poll subscription source n written told)
gave_all subscription source n written told ok sixteen = subst (λ (r : Result ℕ Refusal). GaveAll subscription source (Poll subscription source n written r)) (sym ok) (refl, refl, sixteen, refl)

-- one more
pub one_more_call : {S : Type 0} (does : Does S) (subscription source limit : ℕ) (old mid new : S) (out between after written : List ℕ) (count left n : ℕ) (told : Result ℕ Refusal) → SoMany does subscription source limit (length out) old mid out between count → left ≡ fragments limit - 16 * count → n ≡ min left 16 → after ≡ between ++ written → does mid (Poll subscription source n written told) new → told ≡ Ok 16 → 16 < left → length after < full → SoMany does subscription source limit (length out) old new out after (count + 1)
one_more_call does subscription source limit old mid new out between after written count left n told so left_is n_is appended called ok more short =
    let call = Poll subscription source n written told in
    let sixteen : n ≡ 16 = omega (arith, more, n_is) in
    let calls = so.before ++ call ∷ [] in
    let long : length calls ≡ count + 1 = omega (arith, so.long, length-append so.before (call ∷ [])) in
    let all : after ≡ out ++ all_polled calls =
    appended ∙ (ap (λ (b : List ℕ). b ++ written) so.appended ∙ (append_assoc out (all_polled so.before) written
    ∙ ap (λ (b : List ℕ). out ++ b) (ap (λ (b : List ℕ). all_polled so.before ++ b) (sym (append-nil written)) ∙ sym (polled_on so.before (call ∷ []))))) in
    let sum : length after ≡ length out + length (all_polled calls) = ap length all ∙ length-append out (all_polled calls) in
    let wanted_is : left ≡ min limit 4096 - 16 * count = left_is in
    let wants : 16 * length calls < min limit 4096 = omega (arith, long, more, wanted_is) in
    let fits : length out + length (all_polled calls) < full = omega (arith, sum, short) in
    record {
      before = calls;
      each = All-push (GaveAll subscription source) so.before call so.each (gave_all subscription source n written told ok sixteen);
      goes_on = may_go_on limit (length out) calls wants fits;
      run = run_on does old mid new so.before (call ∷ []) so.run (run_one does mid new call called);
      long = long;
      appended = all;
    }

pub all_appended : {S : Type 0} (does : Does S) (subscription source limit had : ℕ) (old mid : S) (out between after written : List ℕ) (count : ℕ) → (so : SoMany does subscription source limit had old mid out between count) → after ≡ between ++ written → after ≡ out ++ (all_polled so.before ++ written)
all_appended does subscription source limit had old mid out between after written count so appended = appended ∙ (ap (λ (b : List ℕ). b ++ written) so.appended ∙ append_assoc out (all_polled so.before) written)

-- the last one
pub last_call : {S : Type 0} (does : Does S) (subscription source limit : ℕ) (old mid new : S) (out between after written : List ℕ) (count given left n : ℕ) (told : Result ℕ Refusal) → (so : SoMany does subscription source limit (length out) old mid out between count) → given ≡ 16 * count → left ≡ fragments limit - 16 * count → n ≡ min left 16 → after ≡ between ++ written → does mid (Poll subscription source n written told) new → IsOver left (length after) told → Gathered does subscription source limit (length out) old new (all_polled so.before ++ written) (with_last given told)
last_call does subscription source limit old mid new out between after written count given left n told so given_is left_is n_is appended called over =
    let wanted_is : left ≡ wanted limit (length so.before) = left_is ∙ ap (λ (m : ℕ). wanted limit m) (sym so.long) in
    let call = Poll subscription source n written told in
    let named : call ≡ Poll subscription source (asked (wanted limit (length so.before))) written told = ap (λ (m : ℕ). Poll subscription source m written told) (n_is ∙ ap (λ (m : ℕ). min m 16) wanted_is) in
    let all = all_appended does subscription source limit (length out) old mid out between after written count so appended in
    let sum : length after ≡ length out + length (all_polled so.before ++ written) = ap length all ∙ length-append out (all_polled so.before ++ written) in
    let over_it = subst (λ (m : ℕ). IsOver m (length out + length (all_polled so.before ++ written)) told) wanted_is (subst (λ (m : ℕ). IsOver left m told) sum over) in
    record {
      calls = so.before ++ call ∷ [];
      gathers = record {
        before = so.before;
        last = written;
        result = told;
        calls_are = ap (λ (c : Call). so.before ++ c ∷ []) named;
        each = so.each;
        goes_on = so.goes_on;
        written_is = refl;
        over = over_it;
        gave_is = ap (λ (m : ℕ). with_last m told) (given_is ∙ ap (λ (m : ℕ). 16 * m) (sym so.long));
      };
      run = run_on does old mid new so.before (call ∷ []) so.run (run_one does mid new call called);
    }

-- ---- where they gave nothing

pub with_none : (before : ℕ) (told : Result ℕ Refusal) → with_last before told ≡ Ok 0 → (before ≡ 0) × (told ≡ Ok 0)
with_none before (Ok count) is =
    let none : min (before + count) (2 ^ 32 - 1) ≡ 0 = subst (λ (r : Result ℕ Refusal). IfOk r (λ (n : ℕ). n ≡ 0)) (sym is) refl in
    let zero : count ≡ 0 = omega (arith, none) in
    (omega (arith, none), ap (λ (n : ℕ). Ok n) zero)
with_none before (Err refusal) is = absurd (true≢false (sym (subst (λ (r : Result ℕ Refusal). IsErr r) is refl)))

no_bytes : (calls : List Call) → length calls ≡ 0 → all_polled calls ≡ []
no_bytes [] none = refl
no_bytes (call ∷ calls) none = absurd (omega (arith, none))

-- nothing was written then
pub nothing_written : {S : Type 0} (does : Does S) (subscription source limit had : ℕ) (old mid : S) (out between after written : List ℕ) (count given : ℕ) (told : Result ℕ Refusal) → SoMany does subscription source limit had old mid out between count → given ≡ 16 * count → after ≡ between ++ written → (told ≡ Ok 0 → written ≡ []) → with_last given told ≡ Ok 0 → after ≡ out
nothing_written does subscription source limit had old mid out between after written count given told so given_is appended empty none =
    let is = with_none given told none in
    let zero : length so.before ≡ 0 = omega (arith, is.0, given_is, so.long) in
    let first : between ≡ out = so.appended ∙ (ap (λ (b : List ℕ). out ++ b) (no_bytes so.before zero) ∙ append-nil out) in
    appended ∙ (ap (λ (b : List ℕ). between ++ b) (empty is.1) ∙ (append-nil between ∙ first))

one_try : (subscription source limit : ℕ) (before calls : List Call) (last : List ℕ) (told : Result ℕ Refusal) → calls ≡ before ++ Poll subscription source (asked (wanted limit (length before))) last told ∷ [] → 16 * length before ≡ 0 → told ≡ Ok 0 → All (IsTry (IsPoll subscription source (asked (fragments limit)))) calls
one_try subscription source limit [] calls last told are none zero =
    let own = IsPoll subscription source (asked (fragments limit)) in
    let call = Poll subscription source (asked (wanted limit 0)) last told in
    let same : asked (wanted limit 0) ≡ asked (fragments limit) = let e : fragments limit - 16 * 0 ≡ fragments limit = omega arith in ap asked e in
    subst (λ (cs : List Call). All (IsTry own) cs) (sym are) (All-cons (IsTry own) call [] ((refl, refl, same), empty_try subscription source (asked (wanted limit 0)) last told zero) (All-nil (IsTry own)))
one_try subscription source limit (call ∷ before) calls last told are none zero = absurd (omega (arith, none))

-- and all that was made is one call, which may be made again
pub are_tries : (subscription source limit had : ℕ) (calls : List Call) (written : List ℕ) (gave : Result ℕ Refusal) → Gathers subscription source limit had calls written gave → gave ≡ Ok 0 → All (IsTry (IsPoll subscription source (asked (fragments limit)))) calls
are_tries subscription source limit had calls written gave gathers none =
    let is = with_none (16 * length gathers.before) gathers.result (sym gathers.gave_is ∙ none) in
    one_try subscription source limit gathers.before calls gathers.last gathers.result gathers.calls_are is.0 is.1

-- ---- all are polls of the pair, for no more than is wanted

within_all : (subscription source limit : ℕ) → 16 ≤ fragments limit → (call : Call) → GaveAll subscription source call → IsPollWithin subscription source (fragments limit) call
within_all subscription source limit some (Poll s l n written (Ok count)) gave = let e : n ≡ 16 = gave.2 in (gave.0, gave.1, omega (arith, e, some))
within_all subscription source limit some (Poll s l n written (Err refusal)) gave = absurd gave
within_all subscription source limit some call gave = absurd gave

before_within : (subscription source limit had : ℕ) (before : List Call) → MayGoOn limit had before → All (GaveAll subscription source) before → All (IsPollWithin subscription source (fragments limit)) before
before_within subscription source limit had [] goes_on each = All-nil (IsPollWithin subscription source (fragments limit))
before_within subscription source limit had (call ∷ calls) goes_on each =
    let some : 16 ≤ fragments limit = omega (arith, goes_on.0) in
    All-weaker (GaveAll subscription source) (IsPollWithin subscription source (fragments limit)) (within_all subscription source limit some) (call ∷ calls) each

pub gathers_each : (subscription source limit had : ℕ) (calls : List Call) (written : List ℕ) (gave : Result ℕ Refusal) → Gathers subscription source limit had calls written gave → All (IsPollWithin subscription source (fragments limit)) calls
gathers_each subscription source limit had calls written gave gathers =
    let own = IsPollWithin subscription source (fragments limit) in
    let last = Poll subscription source (asked (wanted limit (length gathers.before))) gathers.last gathers.result in
    let few : asked (wanted limit (length gathers.before)) ≤ fragments limit = omega arith in
    subst (λ (cs : List Call). All own cs) (sym gathers.calls_are) (All-push own gathers.before last (before_within subscription source limit had gathers.before gathers.goes_on gathers.each) (refl, refl, few))

-- ---- a poll that waits

pub tries_more : {S : Type 0} (does : Does S) (subscription source limit : ℕ) (old mid new : S) (out after : List ℕ) (gave : Result ℕ Refusal) → CallsOnly does (IsTry (IsPoll subscription source (asked (fragments limit)))) old mid → Writes out after (λ written. Gathered does subscription source limit (length out) mid new written gave) → gave ≡ Ok 0 → CallsOnly does (IsTry (IsPoll subscription source (asked (fragments limit)))) old new
tries_more does subscription source limit old mid new out after gave so writes none =
    let own = IsTry (IsPoll subscription source (asked (fragments limit))) in
    let it = writes.holds in
    then_calls does own old mid new so (record { calls = it.calls; each = are_tries subscription source limit (length out) it.calls writes.bytes gave it.gathers none; run = it.run })

pub polls_one : {S : Type 0} (does : Does S) (subscription source limit : ℕ) (old mid new : S) (out between after : List ℕ) (gave told : Result ℕ Refusal) → CallsOnly does (IsTry (IsPoll subscription source (asked (fragments limit)))) old mid → between ≡ out → Writes between after (λ written. Gathered does subscription source limit (length between) mid new written gave) → gave ≡ told → PollsOne does subscription source limit old new out after told
polls_one does subscription source limit old mid new out between after gave told so same writes is =
    let it = subst (λ (r : Result ℕ Refusal). Gathered does subscription source limit (length between) mid new writes.bytes r) is writes.holds in
    record {
      tries = so.calls;
      each = so.each;
      between = mid;
      tried = so.run;
      written = writes.bytes;
      last = subst (λ (b : List ℕ). Gathered does subscription source limit (length b) mid new writes.bytes told) same it;
      appended = writes.appended ∙ ap (λ (b : List ℕ). b ++ writes.bytes) same;
    }

try_within : (subscription source limit : ℕ) (call : Call) → IsTry (IsPoll subscription source (asked (fragments limit))) call → IsPollWithin subscription source (fragments limit) call
try_within subscription source limit (Poll s l n written result) is = let e : n ≡ min (fragments limit) 16 = is.0.2 in (is.0.0, is.0.1, omega (arith, e))
try_within subscription source limit call is = absurd is.0

-- all its calls are polls of the pair
pub of_polls : {S E : Type 0} (does : Does S) (subscription source limit : ℕ) (old new : S) (out after : List ℕ) (told : Result Unit E) → AnswersOne does subscription source limit old new out after told → CallsOnly does (IsPollWithin subscription source (fragments limit)) old new
of_polls does subscription source limit old new out after told answers =
    let own = IsPollWithin subscription source (fragments limit) in
    let polls = answers.polls in
    let last = polls.last in
    record {
      calls = polls.tries ++ last.calls;
      each = All-append own polls.tries last.calls (All-weaker (IsTry (IsPoll subscription source (asked (fragments limit)))) own (try_within subscription source limit) polls.tries polls.each) (gathers_each subscription source limit (length out) last.calls polls.written answers.gave last.gathers);
      run = run_on does old polls.between new polls.tries last.calls polls.tried last.run;
    }
