-- Each fragment in a log was granted, and so is each that is polled of it.
use Rattle.std.proofs.Common.{◌≡◌, ℕ, ◌+◌, ◌==◌, not, nat_le, nat_lt, Bool, true, false, List, [], ◌∷◌, ◌++◌, length, Option, Some, None, refl, sym, ap, ◌∙◌, subst, arith, ⊎_elim, append_assoc}
use Rattle.std.specs.List.{All, Contains}
use Rattle.std.specs.Prelude.{IfSome}
use Rattle.std.proofs.lemmas.Bool.{cond_both}
use Rattle.std.proofs.lemmas.Bool.Decides.{nat_tests}
use Rattle.std.proofs.lemmas.List.Elements.{All-weaker, Contains-append_cases}
use Rattle.log_traffic.specs.Whole.{AnyWhole, whole, rebuilt, polled as any_polled, rejoined}
use Rattle.driver_core.specs.declared.asked.log_request.LogRequest.{LogRequest}
use Rattle.driver_core.specs.declared.state.settings.Settings.{Settings}
use Rattle.driver_core.specs.State.{State}
use Rattle.driver_core.proofs.ListLemmas.{contains_none, only_one}
use Rattle.log_steps.specs.declared.answer.Answer.{Answer}
use Rattle.log_steps.specs.declared.answer.Answer.TheVariants.{Offered as OfferedAs}
use Rattle.log_steps.specs.declared.answer.Offered.TheVariants.{At as PutAt}
use Rattle.log_steps.specs.Answers.{offered_as}
use Rattle.driver_steps.specs.Ends.{rejoined_log}
use Rattle.driver_core.specs.Readers.{readers_of}
use Rattle.log_steps.specs.Idents.{begins_by}
use Rattle.driver_steps.specs.Laws.{frames_for}
use Rattle.log_steps.specs.Moves.{WholeLog, Move, answered, taken, offer_to, offer_under, given, poll_under}
use Rattle.frame_codec.specs.declared.flags.Flags.{Flags}
use Rattle.policy_core.specs.declared.verdict.Verdict.{Verdict}
use Rattle.stream_registry.specs.declared.pairs.Pair.{Pair}
use Rattle.stream_registry.specs.declared.row.Origin.{Origin}
use Rattle.stream_registry.specs.declared.row.Origin.TheVariants.{Published, Remote}
use Rattle.stream_registry.specs.declared.row.LogRow.{LogRow}
use Rattle.term_log.specs.declared.ident.Ident.{Ident}
use Rattle.term_log.specs.declared.offer.Offer.{Offer}
use Rattle.term_log.specs.declared.offer.Offer.TheVariants.{At, TooLong as IsTooLong, MaxPosition, BackPressured, AdminAction}
use Rattle.term_log.specs.Cut.{cut}
use Rattle.term_log.specs.Frames.{Frame, fragment, span, total}
use Rattle.term_log.specs.Ident.{payload_length}
use Rattle.term_log.specs.Log.{appended_at, greatest_message}
use Rattle.log_pairs.specs.Pairs.{position_of}
use Rattle.term_log.specs.PollLaws.{AreFragmentsOf}
use Rattle.log_pairs.specs.Polling.{Polled as Passed, behind as behind_all, fragments_of, passed}
use Rattle.log_pairs.proofs.Pairing.{at_found, at_map, at_rejoined}
use Rattle.term_log.specs.Polling.{polled_run}
use Rattle.term_log.specs.Whole.{Whole, tail_of, answer_to, is_connected, offered, rejoined as term_rejoined, frames_behind, polled_from, polled, AreStarts}
use Rattle.term_log.specs.Kept.{IsStart}
use Rattle.term_log.proofs.Held.{total_both}
use Rattle.term_log.proofs.Polls.{Taken, behind_taken, taken as taken_from}
use Rattle.term_log.proofs.Standing.{starts_more}
use Rattle.term_log.proofs.Starts.{end_start}
use Rattle.term_log.proofs.WholeLaws.{fragments_are}

-- ---- polls of a whole log

-- the frames behind a frame's start, and those before it
pub record Behind (position at : ℕ) (frames : List Frame) : Type 0 where
  pub before : List Frame
  pub is : frames ≡ before ++ frames_behind at position frames
  pub place : at ≡ position + total before

behind_first : (position at : ℕ) (f : Frame) (fs : List Frame) (b : Bool) → nat_le at position ≡ b →
    (b ≡ true → at ≡ position) → (b ≡ false → Behind (position + span f) at fs) → Behind position at (f ∷ fs)
behind_first position at f fs true is first later =
    record { before = []; is = rw is refl; place = omega (arith, first refl) }
behind_first position at f fs false is first later =
    let rest = later refl in
    let place = rest.place in
    record {
      before = f ∷ rest.before;
      is = rw is (ap (λ (gs : List Frame). f ∷ gs) rest.is);
      place = omega (arith, place);
    }

behind : (position at : ℕ) (before after : List Frame) → at ≡ position + total before →
    Behind position at (before ++ after)
behind position at [] [] is = record { before = []; is = refl; place = is }
behind position at [] (f ∷ fs) is =
    behind_first position at f fs (nat_le at position) refl (λ first. omega (arith, is))
    (λ later. absurd (grind (arith, nat_tests, is, later)))
behind position at (f ∷ fs) after is =
    behind_first position at f (fs ++ after) (nat_le at position) refl (λ first. grind (arith, nat_tests, is, first))
    (λ later. behind (position + span f) at fs after (omega (arith, is)))

pub behind_start : (w : Whole) (at : ℕ) → IsStart w.ident.start w.frames at → Behind w.ident.start at w.frames
behind_start w at start =
    subst (Behind w.ident.start at) (sym start.is) (behind w.ident.start at start.before start.after start.place)

-- what is passed from there, and what is left
pub passed_behind : (w : Whole) (limit at : ℕ) (from : Behind w.ident.start at w.frames) →
    (t : Taken at limit (frames_behind at w.ident.start w.frames)) → w.frames ≡ from.before ++ (t.front ++ t.rest)
passed_behind w limit at from t = from.is ∙ ap (λ (fs : List Frame). from.before ++ fs) t.is

polled_from_frames : (w : Whole) (subscription limit : ℕ) (o : Option ℕ) → IfSome o (IsStart w.ident.start w.frames) →
    AreFragmentsOf w (polled_from w subscription limit o).fragments
polled_from_frames w subscription limit None start = tt
polled_from_frames w subscription limit (Some at) start =
    let from = behind_start w at start in
    let t = taken_from at limit (frames_behind at w.ident.start w.frames) in
    subst (λ (fs : List Passed). AreFragmentsOf w (fragments_of fs)) (sym t.passes)
    (fragments_are w at from.before t.front t.rest (passed_behind w limit at from t) from.place)

-- each fragment that is polled is a frame of the log
pub polled_frames : (w : Whole) (subscription limit : ℕ) → AreStarts w.ident.start w.frames w.pairs →
    AreFragmentsOf w (polled w subscription limit).fragments
unfolding polled
polled_frames w subscription limit starts =
    polled_from_frames w subscription limit (position_of w.pairs subscription)
    (at_found (IsStart w.ident.start w.frames) subscription w.pairs starts)

-- ---- the logs whose fragments were granted

-- All who read the log stand where a frame begins, and each fragment in it was granted.
pub record OwnsFrames (granted : List Frame) (frames : Whole) : Type 0 where
  pub read : AreStarts frames.ident.start frames.frames frames.pairs
  pub owned :
      (flags : Flags) (payload : List ℕ) → Contains frames.frames (fragment flags payload) →
      Contains granted (fragment flags payload)

-- a remote stream's frames are granted by nobody here
abbrev pub OwnsAny : List Frame → AnyWhole → Type 0
OwnsAny granted (whole frames) = OwnsFrames granted frames
OwnsAny granted (rebuilt frames) = Unit {0}

-- to the log's source
abbrev pub Owns : (ℕ → List Frame) → WholeLog → Type 0
Owns granted log = OwnsAny (granted log.source) log.whole

-- what was granted stays granted
abbrev pub IsMore : (ℕ → List Frame) → (ℕ → List Frame) → Type 0
IsMore granted more = (source : ℕ) (frame : Frame) → Contains (granted source) frame → Contains (more source) frame

any_more : (granted more : List Frame) → ((frame : Frame) → Contains granted frame → Contains more frame) → (w : AnyWhole) →
    OwnsAny granted w → OwnsAny more w
any_more granted more is (whole frames) owns = record {
  read = owns.read;
  owned = λ flags payload has. is (fragment flags payload) (owns.owned flags payload has);
}
any_more granted more is (rebuilt frames) owns = tt

owns_more : (granted more : ℕ → List Frame) → IsMore granted more → (log : WholeLog) → Owns granted log → Owns more log
owns_more granted more is log owns = any_more (granted log.source) (more log.source) (is log.source) log.whole owns

pub all_more : (granted more : ℕ → List Frame) → IsMore granted more → (logs : List WholeLog) → All (Owns granted) logs →
    All (Owns more) logs
all_more granted more is logs owned = All-weaker (Owns granted) (Owns more) (owns_more granted more is) logs owned

-- ---- one log

-- a log begins without frames that were appended
pub begins_owns : (granted : List Frame) (settings : Settings) (now : ℕ) (log : LogRow) (origin : Origin) →
    OwnsAny granted (begins_by settings now log origin)
begins_owns granted settings now log (Published exclusive since) = record {
  read = tt;
  owned = λ flags payload has. absurd (contains_none (fragment flags payload) has);
}
begins_owns granted settings now log (Remote address initial_term join) = tt

rejoined_any : (granted : List Frame) (subscriptions : List ℕ) (w : AnyWhole) → OwnsAny granted w →
    OwnsAny granted (rejoined subscriptions w)
unfolding term_rejoined
rejoined_any granted subscriptions (whole frames) owns = record {
  read =
      at_rejoined (IsStart frames.ident.start frames.frames) (tail_of frames) frames.pairs subscriptions owns.read
      (end_start frames.ident.start frames.frames);
  owned = owns.owned;
}
rejoined_any granted subscriptions (rebuilt frames) owns = tt

pub rejoined_owns : (granted : ℕ → List Frame) (pairs : List Pair) (log : WholeLog) → Owns granted log →
    Owns granted (rejoined_log pairs log)
rejoined_owns granted pairs log owns = rejoined_any (granted log.source) (readers_of pairs log.source) log.whole owns

polled_from_owns : (granted : List Frame) (subscription limit : ℕ) (w : Whole) (o : Option ℕ) →
    IfSome o (IsStart w.ident.start w.frames) → OwnsFrames granted w →
    OwnsFrames granted (polled_from w subscription limit o).after
polled_from_owns granted subscription limit w None start owns = owns
polled_from_owns granted subscription limit w (Some at) start owns =
    let from = behind_start w at start in
    let later : List Frame = frames_behind at w.ident.start w.frames in
    let t = taken_from at limit later in
    let end : ℕ = behind_all at (passed limit (polled_run at later)) in
    let split : w.frames ≡ (from.before ++ t.front) ++ t.rest =
    passed_behind w limit at from t ∙ sym (append_assoc from.before t.front t.rest) in
    let place = from.place in
    let stands : IsStart w.ident.start w.frames end = record {
      before = from.before ++ t.front;
      after = t.rest;
      is = split;
      place = omega (arith, place, behind_taken at limit later t, total_both from.before t.front);
    } in
    record {
      read = at_map (IsStart w.ident.start w.frames) subscription end w.pairs owns.read stands;
      owned = owns.owned;
    }

polled_any : (granted : List Frame) (subscription limit : ℕ) (w : AnyWhole) → OwnsAny granted w →
    OwnsAny granted (any_polled w subscription limit).after
unfolding polled
polled_any granted subscription limit (whole frames) owns =
    polled_from_owns granted subscription limit frames (position_of frames.pairs subscription)
    (at_found (IsStart frames.ident.start frames.frames) subscription frames.pairs owns.read) owns
polled_any granted subscription limit (rebuilt frames) owns = tt

given_owns : (granted : ℕ → List Frame) (subscription limit : ℕ) (log : WholeLog) → Owns granted log →
    Owns granted (given subscription limit log).after
given_owns granted subscription limit log owns = polled_any (granted log.source) subscription limit log.whole owns

-- a fragment is appended only where the log answers a position, and is a part of the message then
record IsPut (offer : Offer) (i : Ident) (message : List ℕ) (frame : Frame) : Type 0 where
  position : ℕ
  is : offer ≡ At position
  part : Contains (cut (payload_length i) message) frame

appended_is_put : (offer : Offer) (i : Ident) (tail : ℕ) (message : List ℕ) (flags : Flags) (payload : List ℕ) →
    Contains (appended_at offer i tail message) (fragment flags payload) →
    IsPut offer i message (fragment flags payload)
appended_is_put (At position) i tail message flags payload has =
    record { position = position; is = refl; part = has }
appended_is_put AdminAction i tail message flags payload has =
    let is = only_one _ (fragment flags payload) has in
    absurd (cc is)
appended_is_put IsTooLong i tail message flags payload has = absurd (contains_none (fragment flags payload) has)
appended_is_put MaxPosition i tail message flags payload has = absurd (contains_none (fragment flags payload) has)
appended_is_put BackPressured i tail message flags payload has = absurd (contains_none (fragment flags payload) has)

-- the message's frames were granted to the log's source, if the answer is a position
abbrev IsGranted : (ℕ → List Frame) → List ℕ → WholeLog → Answer → Type 0
IsGranted more message log answer =
    (position : ℕ) → answer ≡ OfferedAs (PutAt position) →
    (frame : Frame) → Contains (frames_for log.whole message) frame → Contains (more log.source) frame

taken_owns : (granted more : ℕ → List Frame) (message : List ℕ) (log : WholeLog) (w : Whole) → log.whole ≡ whole w →
    IsMore granted more → IsGranted more message log (taken message log w).answer → Owns granted log →
    Owns more (taken message log w).after
unfolding offered
taken_owns granted more message log w same is puts owns =
    let new : List Frame = appended_at (answer_to w message) w.ident (tail_of w) message in
    let own : OwnsFrames (granted log.source) w = subst (OwnsAny (granted log.source)) same owns in
    record {
      read = starts_more w.ident.start w.frames new w.pairs own.read;
      owned = λ flags payload has.
          let frame : Frame = fragment flags payload in
          ⊎_elim (λ old. is log.source frame (own.owned flags payload old))
          (λ added.
          let put = appended_is_put (answer_to w message) w.ident (tail_of w) message flags payload added in
          puts put.position (ap (λ (o : Offer). OfferedAs (offered_as o)) put.is) frame
          (subst (λ (l : AnyWhole). Contains (frames_for l message) frame) (sym same) put.part))
          (Contains-append_cases w.frames new frame has);
    }

-- what an offer leaves of the log, by its answer
abbrev pub LeavesOwned : (ℕ → List Frame) → List ℕ → WholeLog → Move → Type 0
LeavesOwned more message log move = IsGranted more message log move.answer → Owns more move.after

offers_owns : (granted more : ℕ → List Frame) (now timeout : ℕ) (verdict : Verdict) (message : List ℕ) (log : WholeLog)
    (w : AnyWhole) → log.whole ≡ w → IsMore granted more → Owns granted log →
    LeavesOwned more message log (offer_to now timeout verdict message log w)
offers_owns granted more now timeout verdict message log (whole frames) same is owns =
    let P : Move → Type 0 = LeavesOwned more message log in
    let stays : (answer : Answer) → P (answered log answer) = λ answer puts. owns_more granted more is log owns in
    cond_both (not verdict.allow) _ _ P (λ _. stays _)
    (λ _. cond_both (nat_lt (greatest_message frames.ident) (length message)) _ _ P (λ _. stays _)
    (λ _. cond_both (not (is_connected frames now timeout)) _ _ P (λ _. stays _)
    (λ _. λ puts. taken_owns granted more message log frames same is puts owns)))
offers_owns granted more now timeout verdict message log (rebuilt frames) same is owns =
    λ puts. owns_more granted more is log owns

pub offer_under_owns : (granted more : ℕ → List Frame) (s : State) (now : ℕ) (message : List ℕ) (log : WholeLog)
    (o : Option LogRequest) → IsMore granted more → Owns granted log →
    LeavesOwned more message log (offer_under s.settings.connection_timeout o now message log)
offer_under_owns granted more s now message log None is owns = λ puts. owns_more granted more is log owns
offer_under_owns granted more s now message log (Some request) is owns =
    let P : Move → Type 0 = LeavesOwned more message log in
    cond_both (not (request.source == log.source)) _ _ P (λ _. λ puts. owns_more granted more is log owns)
    (λ _.
    offers_owns granted more now s.settings.connection_timeout request.decision.verdict message log log.whole refl is owns)

pub poll_under_owns : (granted : ℕ → List Frame) (subscription limit : ℕ) (log : WholeLog) (o : Option LogRequest)
    (at : Option ℕ) → Owns granted log → Owns granted (poll_under subscription limit log o at).after
poll_under_owns granted subscription limit log None at owns = owns
poll_under_owns granted subscription limit log (Some request) None owns = owns
poll_under_owns granted subscription limit log (Some request) (Some at) owns =
    cond_both (not request.decision.verdict.allow) _ _ (λ (move : Move). Owns granted move.after) (λ _. owns)
    (λ _. given_owns granted subscription limit log owns)
