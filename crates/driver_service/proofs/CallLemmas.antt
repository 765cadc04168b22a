-- Calls, one after another.
use Rattle.std.proofs.Common.{arith, ◌≡◌, ℕ, ◌+◌, List, [], ◌∷◌, ◌++◌, All, append_assoc, sym, subst, ap, ◌∙◌, ◌⊎◌, inl, inr, refl, Bool, true, false, true≢false, Result, Ok, Err, IfOk, IsErr, OnOk, length}
use Rattle.std.proofs.lemmas.List.{append-nil, length-append}
use Rattle.std.proofs.lemmas.List.Elements.{All-append, All-cons, All-nil, All-push, All-weaker}
use Rattle.driver_service.specs.Answering.{Answers, EndsIn, EndsMail, FoundNone, GaveReply, GivesMail, Offers, TakesMail, all_written, mail_written}
use Rattle.driver_service.specs.Calls.{Call, CallsOnly, Does, Mail, Offer, Poll, Run, Stay}
use Rattle.driver_service.specs.Requests.{Finishes, GaveNothing, IsMail, IsOffer, IsTry}
use Rattle.driver_service.specs.declared.reason.Refusal.{Refusal}

-- ---- runs

-- calls after calls
pub run_on : {S : Type 0} (does : Does S) (old mid new : S) (before after : List Call) → Run does old before mid → Run does mid after new → Run does old (before ++ after) new
run_on does old mid new [] after first rest = subst (λ s. Run does s after new) first rest
run_on does old mid new (call ∷ before) after first rest = (first.0, first.1, run_on does first.0 mid new before after first.2 rest)

-- one call
pub run_one : {S : Type 0} (does : Does S) (old new : S) (call : Call) → does old call new → Run does old (call ∷ []) new
run_one does old new call is = (new, is, refl)

-- no call
pub no_calls : {S : Type 0} (does : Does S) (own : Call → Type 0) (s : S) → CallsOnly does own s s
no_calls does own s = record { calls = []; each = All-nil own; run = refl }

-- calls after calls
pub then_calls : {S : Type 0} (does : Does S) (own : Call → Type 0) (old mid new : S) → CallsOnly does own old mid → CallsOnly does own mid new → CallsOnly does own old new
then_calls does own old mid new before after = record {
  calls = before.calls ++ after.calls;
  each = All-append own before.calls after.calls before.each after.each;
  run = run_on does old mid new before.calls after.calls before.run after.run;
}

-- one call alone
pub one_call : {S : Type 0} (does : Does S) (own : Call → Type 0) (old new : S) (call : Call) → does old call new → own call → CallsOnly does own old new
one_call does own old new call called is = record { calls = call ∷ []; each = All-cons own call [] is (All-nil own); run = run_one does old new call called }

-- one more call
pub one_more : {S : Type 0} (does : Does S) (own : Call → Type 0) (old mid new : S) (call : Call) → CallsOnly does own old mid → does mid call new → own call → CallsOnly does own old new
one_more does own old mid new call before called is = then_calls does own old mid new before (one_call does own mid new call called is)

-- calls of one kind are calls of a wider one
pub widen : {S : Type 0} (does : Does S) (own wider : Call → Type 0) (old new : S) → ((call : Call) → own call → wider call) → CallsOnly does own old new → CallsOnly does wider old new
widen does own wider old new so calls = record { calls = calls.calls; each = All-weaker own wider so calls.calls calls.each; run = calls.run }

-- the client is heard of first
pub after_stay : {S : Type 0} (does : Does S) (own : Call → Type 0) (old mid new : S) → does old Stay mid → CallsOnly does own mid new → CallsOnly does (λ (call : Call). (call ≡ Stay) ⊎ own call) old new
after_stay does own old mid new stays calls =
    let wider = λ (call : Call). (call ≡ Stay) ⊎ own call in
    then_calls does wider old mid new (one_call does wider old mid Stay stays (inl refl)) (widen does own wider mid new (λ call is. inr is) calls)

-- the client is heard of, and nothing else is done
pub stay_alone : {S : Type 0} (does : Does S) (own : Call → Type 0) (old new : S) → does old Stay new → CallsOnly does (λ (call : Call). (call ≡ Stay) ⊎ own call) old new
stay_alone does own old new stays = after_stay does own old new new stays (no_calls does own new)

-- the last call
pub ends_in : {S : Type 0} (does : Does S) (own : Call → Type 0) (old mid new : S) (last : Call) → CallsOnly does (IsTry own) old mid → does mid last new → own last → EndsIn does own old new last
ends_in does own old mid new last before called is = record {
  tries = before.calls;
  each = before.each;
  last_is = is;
  run = run_on does old mid new before.calls (last ∷ []) before.run (run_one does mid new last called);
}

-- calls of which one was the last are calls
pub of_ends : {S : Type 0} (does : Does S) (own : Call → Type 0) (old new : S) (last : Call) → EndsIn does own old new last → CallsOnly does own old new
of_ends does own old new last ends = record {
  calls = ends.tries ++ last ∷ [];
  each = All-push own ends.tries last (All-weaker (IsTry own) own (λ call is. is.0) ends.tries ends.each) ends.last_is;
  run = ends.run;
}

-- an answer that is not the last one gave nothing
pub refused_try : (registration : ℕ) (message : List ℕ) (final : Bool) (told : Result ℕ Refusal) → Finishes final told → final ≡ false → GaveNothing (Offer registration message told)
refused_try registration message final (Ok position) finishes not = absurd (true≢false (sym finishes ∙ not))
refused_try registration message final (Err refusal) finishes not = record {}

-- a poll that gave no fragment
pub empty_try : (subscription source limit : ℕ) (written : List ℕ) (told : Result ℕ Refusal) → told ≡ Ok 0 → GaveNothing (Poll subscription source limit written told)
empty_try subscription source limit written told none = subst (λ (r : Result ℕ Refusal). GaveNothing (Poll subscription source limit written r)) (sym none) refl

-- one call alone, as the last
pub ends_alone : {S : Type 0} (does : Does S) (own : Call → Type 0) (old new : S) (last : Call) → does old last new → own last → EndsIn does own old new last
ends_alone does own old new last called is = ends_in does own old old new last (no_calls does (IsTry own) old) called is

-- ---- what is answered

-- what is said where it went well
pub on_ok : {T E : Type 0} (r : Result T E) (P Q : Type 0) → (P → Q) → OnOk r P → OnOk r Q
on_ok (Ok x) P Q f so = f so
on_ok (Err e) P Q f so = so

-- of what is answered, the calls
pub of_answers : {S E : Type 0} (does : Does S) (own : Call → Type 0) (old new : S) (out after : List ℕ) (told : Result Unit E) → Answers does own old new out after told → CallsOnly does own old new
of_answers does own old new out after told answers = of_ends does own old new answers.last answers.ends

pub of_offers : {S E : Type 0} (does : Does S) (registration : ℕ) (message : List ℕ) (seen refusals later : ℕ) (old new : S) (out after : List ℕ) (told : Result Unit E) → Offers does registration message seen refusals later old new out after told → CallsOnly does (IsOffer registration message) old new
of_offers does registration message seen refusals later old new out after told offers =
    elim offers [
      | inl skips ↦ subst (λ s. CallsOnly does (IsOffer registration message) old s) (sym skips.1.same) (no_calls does (IsOffer registration message) old)
      | inr tries ↦ of_ends does (IsOffer registration message) old new (Offer registration message tries.1.gave) tries.1.ends
    ]

-- ---- mail

pub written_on : (xs ys : List Call) → all_written (xs ++ ys) ≡ all_written xs ++ all_written ys
written_on [] ys = refl
written_on (x ∷ xs) ys = ap (λ (b : List ℕ). mail_written x ++ b) (written_on xs ys) ∙ sym (append_assoc (mail_written x) (all_written xs) (all_written ys))

-- calls with one more, and what was written of them
pub written_more : (calls : List Call) (call : Call) (out between after : List ℕ) → between ≡ out ++ all_written calls → after ≡ between ++ mail_written call → after ≡ out ++ all_written (calls ++ call ∷ [])
written_more calls call out between after before appended =
    appended ∙ (ap (λ (b : List ℕ). b ++ mail_written call) before ∙ (append_assoc out (all_written calls) (mail_written call)
    ∙ ap (λ (b : List ℕ). out ++ b) (ap (λ (b : List ℕ). all_written calls ++ b) (sym (append-nil (mail_written call))) ∙ sym (written_on calls (call ∷ [])))))

-- replies so far
pub record Replied {S : Type 0} (does : Does S) (old new : S) (out after : List ℕ) (count : ℕ) : Type 0 where
  pub replies : List Call
  pub each : All GaveReply replies
  pub long : length replies ≡ count
  pub run : Run does old replies new
  pub written : after ≡ out ++ all_written replies

-- none yet
pub no_mail : {S : Type 0} (does : Does S) (s : S) (out : List ℕ) → Replied does s s out out 0
no_mail does s out = record { replies = []; each = All-nil GaveReply; long = refl; run = refl; written = sym (append-nil out) }

-- one more reply
pub one_more_reply : {S : Type 0} (does : Does S) (old mid new : S) (out between after bytes : List ℕ) (told : Result Bool Refusal) (count : ℕ) → Replied does old mid out between count → after ≡ between ++ bytes → does mid (Mail bytes told) new → told ≡ Ok true → Replied does old new out after (count + 1)
one_more_reply does old mid new out between after bytes told count so appended called some =
    let call = Mail bytes told in
    record {
      replies = so.replies ++ call ∷ [];
      each = All-push GaveReply so.replies call so.each (subst (λ (r : Result Bool Refusal). GaveReply (Mail bytes r)) (sym some) (record {}));
      long = omega (arith, so.long, length-append so.replies (call ∷ []));
      run = run_on does old mid new so.replies (call ∷ []) so.run (run_one does mid new call called);
      written = written_more so.replies call out between after so.written appended;
    }

-- the call that ends them
pub mail_ends : {S : Type 0} (does : Does S) (old mid new : S) (out between after bytes : List ℕ) (told : Result Bool Refusal) (count : ℕ) (gave : Result ℕ Refusal) → (so : Replied does old mid out between count) → after ≡ between ++ bytes → does mid (Mail bytes told) new → EndsMail gave (length so.replies) (Mail bytes told ∷ []) → TakesMail does old new out after gave
mail_ends does old mid new out between after bytes told count gave so appended called ends =
    let call = Mail bytes told in
    record {
      replies = so.replies;
      last = call ∷ [];
      each = so.each;
      ends = ends;
      run = run_on does old mid new so.replies (call ∷ []) so.run (run_one does mid new call called);
      written = written_more so.replies call out between after so.written appended;
    }

pub ends_none : (count long : ℕ) (bytes : List ℕ) (told : Result Bool Refusal) → told ≡ Ok false → long ≡ count → EndsMail (Ok count) long (Mail bytes told ∷ [])
ends_none count long bytes told none same = subst (λ (r : Result Bool Refusal). EndsMail (Ok count) long (Mail bytes r ∷ [])) (sym none) (ap (λ (n : ℕ). Ok n) (sym same))

pub ends_refused : (long : ℕ) (bytes : List ℕ) (told : Result Bool Refusal) (refusal : Refusal) → told ≡ Err refusal → EndsMail (Err refusal) long (Mail bytes told ∷ [])
ends_refused long bytes told refusal refused = subst (λ (r : Result Bool Refusal). EndsMail (Err refusal) long (Mail bytes r ∷ [])) (sym refused) refl

-- as many as may be
pub mail_full : {S : Type 0} (does : Does S) (old new : S) (out after : List ℕ) (count : ℕ) → Replied does old new out after count → count ≡ 256 → TakesMail does old new out after (Ok 256)
mail_full does old new out after count so many =
    let long : length so.replies ≡ 256 = so.long ∙ many in
    record {
      replies = so.replies;
      last = [];
      each = so.each;
      ends = (ap (λ (n : ℕ). Ok n) (sym long), long);
      run = subst (λ (calls : List Call). Run does old calls new) (sym (append-nil so.replies)) so.run;
      written = so.written ∙ ap (λ (calls : List Call). out ++ all_written calls) (sym (append-nil so.replies));
    }

-- ---- a wait for mail

-- calls that found none
pub record Waited {S : Type 0} (does : Does S) (old new : S) (out after : List ℕ) : Type 0 where
  pub idle : List Call
  pub each : All FoundNone idle
  pub run : Run does old idle new
  pub written : after ≡ out ++ all_written idle

pub not_waited : {S : Type 0} (does : Does S) (s : S) (out : List ℕ) → Waited does s s out out
not_waited does s out = record { idle = []; each = All-nil FoundNone; run = refl; written = sym (append-nil out) }

-- what ends no reply at all found none
found_none : (gave : Result ℕ Refusal) (last : List Call) → EndsMail gave 0 last → gave ≡ Ok 0 → All FoundNone last
found_none gave [] ends none = absurd (let e : 0 ≡ 256 = ends.1 in omega (arith, e))
found_none gave (Mail bytes (Ok false) ∷ []) ends none = All-cons FoundNone (Mail bytes (Ok false)) [] (record {}) (All-nil FoundNone)
found_none gave (Mail bytes (Err refusal) ∷ []) ends none = absurd (true≢false (sym (subst (λ (r : Result ℕ Refusal). IsErr r) (sym ends ∙ none) refl)))
found_none gave calls ends none = absurd ends

ends_at : (gave : Result ℕ Refusal) (count : ℕ) (last : List Call) → EndsMail gave count last → gave ≡ Ok 0 → count ≡ 0
ends_at gave count [] ends none = subst (λ (r : Result ℕ Refusal). IfOk r (λ (n : ℕ). count ≡ n)) none (subst (λ (r : Result ℕ Refusal). IfOk r (λ (n : ℕ). count ≡ n)) (sym ends.0) refl)
ends_at gave count (Mail bytes (Ok false) ∷ []) ends none = subst (λ (r : Result ℕ Refusal). IfOk r (λ (n : ℕ). count ≡ n)) none (subst (λ (r : Result ℕ Refusal). IfOk r (λ (n : ℕ). count ≡ n)) (sym ends) refl)
ends_at gave count (Mail bytes (Err refusal) ∷ []) ends none = absurd (true≢false (sym (subst (λ (r : Result ℕ Refusal). IsErr r) (sym ends ∙ none) refl)))
ends_at gave count calls ends none = absurd ends

none_of : (replies : List Call) → length replies ≡ 0 → replies ≡ []
none_of [] none = refl
none_of (call ∷ calls) none = absurd (omega (arith, none))

-- no reply again
pub waits_on : {S : Type 0} (does : Does S) (old mid new : S) (out between after : List ℕ) (gave : Result ℕ Refusal) → gave ≡ Ok 0 → Waited does old mid out between → TakesMail does mid new between after gave → Waited does old new out after
waits_on {S} does old mid new out between after gave none so taken =
    let zero = ends_at gave (length taken.replies) taken.last taken.ends none in
    let empty = none_of taken.replies zero in
    let found = found_none gave taken.last (subst (λ (n : ℕ). EndsMail gave n taken.last) zero taken.ends) none in
    let only : taken.replies ++ taken.last ≡ taken.last = ap (λ (calls : List Call). calls ++ taken.last) empty in
    record {
      idle = so.idle ++ taken.last;
      each = All-append FoundNone so.idle taken.last so.each found;
      run = run_on does old mid new so.idle taken.last so.run (subst (λ (calls : List Call). Run does mid calls new) only taken.run);
      written =
          taken.written ∙ (ap (λ (calls : List Call). between ++ all_written calls) only ∙ (ap (λ (b : List ℕ). b ++ all_written taken.last) so.written
          ∙ (append_assoc out (all_written so.idle) (all_written taken.last) ∙ ap (λ (b : List ℕ). out ++ b) (sym (written_on so.idle taken.last)))));
    }

pub gives_mail : {S : Type 0} (does : Does S) (old mid new : S) (out between after : List ℕ) (gave : Result ℕ Refusal) → Waited does old mid out between → TakesMail does mid new between after gave → GivesMail does old new out after gave
gives_mail does old mid new out between after gave so taken = record {
  idle = so.idle;
  each = so.each;
  between = mid;
  waited = so.run;
  taken = subst (λ (b : List ℕ). TakesMail does mid new b after gave) so.written taken;
}

reply_is_mail : (call : Call) → GaveReply call → IsMail call
reply_is_mail (Mail bytes (Ok true)) gave = record {}
reply_is_mail (Mail bytes (Ok false)) gave = record {}
reply_is_mail (Mail bytes (Err refusal)) gave = record {}
reply_is_mail call gave = absurd gave

none_is_mail : (call : Call) → FoundNone call → IsMail call
none_is_mail (Mail bytes (Ok true)) found = record {}
none_is_mail (Mail bytes (Ok false)) found = record {}
none_is_mail (Mail bytes (Err refusal)) found = record {}
none_is_mail call found = absurd found

last_is_mail : (gave : Result ℕ Refusal) (count : ℕ) (last : List Call) → EndsMail gave count last → All IsMail last
last_is_mail gave count [] ends = All-nil IsMail
last_is_mail gave count (Mail bytes (Ok false) ∷ []) ends = All-cons IsMail (Mail bytes (Ok false)) [] (record {}) (All-nil IsMail)
last_is_mail gave count (Mail bytes (Err refusal) ∷ []) ends = All-cons IsMail (Mail bytes (Err refusal)) [] (record {}) (All-nil IsMail)
last_is_mail gave count calls ends = absurd ends

-- of replies, the calls
pub of_mail : {S : Type 0} (does : Does S) (old new : S) (out after : List ℕ) (gave : Result ℕ Refusal) → GivesMail does old new out after gave → CallsOnly does IsMail old new
of_mail does old new out after gave gives =
    let taken = gives.taken in
    let replies = All-append IsMail taken.replies taken.last (All-weaker GaveReply IsMail reply_is_mail taken.replies taken.each) (last_is_mail gave (length taken.replies) taken.last taken.ends) in
    record {
      calls = gives.idle ++ (taken.replies ++ taken.last);
      each = All-append IsMail gives.idle (taken.replies ++ taken.last) (All-weaker FoundNone IsMail none_is_mail gives.idle gives.each) replies;
      run = run_on does old gives.between new gives.idle (taken.replies ++ taken.last) gives.waited taken.run;
    }
