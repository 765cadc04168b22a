-- Steps by whichever registry is shown: what they do to the open logs, and so to a driver.
use Rattle.std.proofs.Common.{◌≡◌, ℕ, ◌==◌, not, nat_lt, length, Bool, true, false, List, Option, Some, None, if◌then◌else◌, Result, Ok, Err, refl, sym, ap, subst, ◌∙◌}
use Rattle.std.proofs.lemmas.Bool.{eqb-true}
use Rattle.std.specs.Option.{option_map}
use Rattle.driver_core.specs.declared.asked.log_request.LogRequest.{LogRequest}
use Rattle.driver_core.specs.LogRequests.{offering_of, receiving_of}
use Rattle.driver_core.specs.declared.asked.image_request.Astray.{Astray}
use Rattle.driver_core.specs.declared.asked.image_request.Astray.TheVariants.{NoStream, Stranger}
use Rattle.driver_core.specs.State.{State}
use Rattle.log_steps.specs.declared.answer.Answer.{Answer}
use Rattle.log_steps.specs.declared.answer.Answer.TheVariants.{NoMemory, Offered as OfferedAs}
use Rattle.log_steps.specs.declared.answer.Offered.TheVariants.{Closed}
use Rattle.driver_steps.specs.declared.step.Step.{Step}
use Rattle.driver_steps.specs.declared.step.Step.TheVariants.{Offer}
use Rattle.driver_steps.specs.Ends.{after_by, IsAnswerOf, log_at, Moved, moved_by, moved_on, on_log, on_offered, RunEnd, still_there}
use Rattle.driver_steps.specs.OpenLogs.{HeldLogs, GivesFirst, MovesFirst}
use Rattle.driver_steps.specs.StepMemory.{HasMemory, HasMemoryBy}
use Rattle.log_steps.specs.Memory.{is_listed}
use Rattle.log_steps.specs.Moves.{Move, WholeLog, offer_move, offer_to, offer_under, poll_move}
use Rattle.driver_steps.specs.Standing.{Held, KeepMatch, LogsServe, Serves, ServesAs, StandsForEnd}
use Rattle.driver_steps.proofs.RunLemmas.{IsTold, first_refused, first_served, offer_told, poll_told}
use Rattle.driver_steps.proofs.StandLemmas.{match_moved}
use Rattle.log_traffic.specs.Whole.{AnyWhole, whole, rebuilt, position_in}
use Rattle.policy_core.specs.declared.verdict.Verdict.{Verdict}
use Rattle.term_log.specs.Log.{greatest_message}
use Rattle.term_log.specs.Whole.{is_connected}

-- ---- on the open logs

-- what goes to the first log of a source
pub logs_served : (old new : HeldLogs) (what : RunEnd → Moved) (source : ℕ) (move : WholeLog → Move) (absent answer : Answer) →
    ((e : RunEnd) → what e ≡ on_log e source move absent) → IsTold absent → ((log : WholeLog) → IsTold (move log).answer) →
    MovesFirst source move absent old new answer → LogsServe old new what answer
logs_served old new what source move absent answer goes none some moves =
    record { on = λ s. first_served s old new what source move absent answer (λ e same. goes e) none some moves }

-- it finds no memory
pub logs_refused : (old new : HeldLogs) (what : RunEnd → Moved) (source : ℕ) (move : WholeLog → Move) (absent : Answer) →
    ((e : RunEnd) → what e ≡ on_log e source move absent) → new ≡ old → GivesFirst source move old → LogsServe old new what NoMemory
logs_refused old new what source move absent goes same gives =
    record { on = λ s. first_refused s old new what source move absent (λ e same'. goes e) same gives }

pub logs_kept : (old new : HeldLogs) (source : ℕ) (move : WholeLog → Move) (absent answer : Answer) →
    MovesFirst source move absent old new answer → KeepMatch old new
logs_kept old new source move absent answer moves =
    record { on = λ s matches. match_moved s source move absent answer old new matches moves }

-- ---- which log

pub offered_goes : (s : State) (e : RunEnd) (now client registration : ℕ) (message : List ℕ) (request : Option LogRequest) (source : ℕ) →
    option_map (λ request. request.source) request ≡ Some source →
    on_offered s e now client registration message request
    ≡ on_log e source (offer_move s now client registration message) (OfferedAs Closed)
offered_goes s e now client registration message None source is = absurd (cc)
offered_goes s e now client registration message (Some request) source is =
    let same : request.source ≡ source = cc in
    ap (λ n. on_log e n (offer_move s now client registration message) (OfferedAs Closed)) same

pub offer_is_told : (s : State) (now client registration : ℕ) (message : List ℕ) (log : WholeLog) →
    IsTold (offer_move s now client registration message log).answer
unfolding offer_move
offer_is_told s now client registration message log = offer_told s now message log (offering_of s client registration)

pub poll_is_told : (s : State) (client subscription limit : ℕ) (log : WholeLog) →
    IsTold (poll_move s client subscription limit log).answer
unfolding poll_move
poll_is_told s client subscription limit log =
    poll_told subscription limit log (receiving_of s client subscription log.source) (position_in log.whole subscription)

-- ---- an offer takes no memory

unlisted_cond : (b : Bool) (one other : Move) → is_listed one.answer ≡ false → is_listed other.answer ≡ false →
    is_listed (if b then one else other).answer ≡ false
unlisted_cond true one other none nor = none
unlisted_cond false one other none nor = nor

offers_unlisted : (now timeout : ℕ) (verdict : Verdict) (message : List ℕ) (log : WholeLog) (w : AnyWhole) →
    is_listed (offer_to now timeout verdict message log w).answer ≡ false
offers_unlisted now timeout verdict message log (whole kept) =
    unlisted_cond (not verdict.allow) _ _ refl
    (unlisted_cond (nat_lt (greatest_message kept.ident) (length message)) _ _ refl
    (unlisted_cond (not (is_connected kept now timeout)) _ _ refl refl))
offers_unlisted now timeout verdict message log (rebuilt kept) = refl

offer_unlisted : (s : State) (now : ℕ) (message : List ℕ) (log : WholeLog) (request : Option LogRequest) →
    is_listed (offer_under s.settings.connection_timeout request now message log).answer ≡ false
offer_unlisted s now message log None = refl
offer_unlisted s now message log (Some request) =
    unlisted_cond (not (request.source == log.source)) _ _ refl
    (offers_unlisted now s.settings.connection_timeout request.decision.verdict message log log.whole)

moved_unlisted : (e : RunEnd) (source : ℕ) (move : WholeLog → Move) (absent : Answer) (there : Option WholeLog) →
    is_listed absent ≡ false → ((log : WholeLog) → is_listed (move log).answer ≡ false) →
    is_listed (moved_on e source move absent there).answer ≡ false
moved_unlisted e source move absent None none some = none
moved_unlisted e source move absent (Some log) none some = some log

offered_unlisted : (s : State) (e : RunEnd) (now client registration : ℕ) (message : List ℕ) (request : Option LogRequest) →
    is_listed (on_offered s e now client registration message request).answer ≡ false
unfolding on_log offer_move
offered_unlisted s e now client registration message None = refl
offered_unlisted s e now client registration message (Some request) =
    moved_unlisted e request.source (offer_move s now client registration message) (OfferedAs Closed) (log_at e.logs request.source) refl
    (λ log. offer_unlisted s now message log (offering_of s client registration))

-- what comes of them is said in another way
pub served_as_well : (old new : HeldLogs) (what that : RunEnd → Moved) (answer : Answer) → ((e : RunEnd) → what e ≡ that e) →
    LogsServe old new what answer → LogsServe old new that answer
served_as_well old new what that answer goes serves = record {
  on = λ s. record {
    on = λ e stands.
        subst (λ (m : Moved). IsAnswerOf m answer × StandsForEnd (record { registry = s; logs = new.logs }) (after_by e m answer)) (goes e)
        ((serves.on s).on e stands);
    without_memory = λ e stands. subst (λ (m : Moved). HasMemoryBy (is_listed m.answer) answer) (goes e) ((serves.on s).without_memory e stands);
  };
}

-- ---- a driver

abbrev pub held_by : State → HeldLogs → Held
held_by s logs = record { registry = s; logs = logs.logs }

abbrev IsMoved : Held → RunEnd → Moved → Answer → Type 0
IsMoved new e what answer = IsAnswerOf what answer × StandsForEnd new (after_by e what answer)

pub served_as : (s : State) (old new : HeldLogs) (what that : RunEnd → Moved) (answer : Answer) →
    ((e : RunEnd) → s ≡ e.registry → what e ≡ that e) → LogsServe old new what answer → ServesAs (held_by s old) (held_by s new) that answer
served_as s old new what that answer goes serves = record {
  on = λ e stands. subst (λ (m : Moved). IsMoved (held_by s new) e m answer) (goes e stands.registry) ((serves.on s).on e stands);
  without_memory = λ e stands.
      subst (λ (m : Moved). HasMemoryBy (is_listed m.answer) answer) (goes e stands.registry) ((serves.on s).without_memory e stands);
}

-- a step by a registry, whichever is the newest
pub step_serves : (shown s : State) (old new : HeldLogs) (step : Step) (answer : Answer) →
    ((e : RunEnd) → HasMemoryBy (is_listed (moved_by shown e step).answer) answer → HasMemory shown e step answer) →
    LogsServe old new (λ e. moved_by shown e step) answer → Serves shown (held_by s old) (held_by s new) step answer
step_serves shown s old new step answer takes serves = record {
  on = λ e stands. (serves.on s).on e stands;
  without_memory = λ e stands. takes e ((serves.on s).without_memory e stands);
}

pub offer_serves : (shown s : State) (old new : HeldLogs) (now client registration : ℕ) (message : List ℕ) (answer : Answer) →
    LogsServe old new (λ e. on_offered shown e now client registration message (offering_of shown client registration)) answer →
    Serves shown (held_by s old) (held_by s new) (Offer now client registration message) answer
offer_serves shown s old new now client registration message answer serves =
    step_serves shown s old new (Offer now client registration message) answer
    (λ e has. subst (λ b. HasMemoryBy b answer) (offered_unlisted shown e now client registration message (offering_of shown client registration)) has)
    serves

-- ---- an image that is still there

pub there_now : (there : Bool) (older newest : Result ℕ Astray) (source : ℕ) → still_there there older newest ≡ Ok source → newest ≡ Ok source
there_now there (Err NoStream) newest source is = absurd (cc is)
there_now true (Err Stranger) newest source is = absurd (cc is)
there_now false (Err Stranger) newest source is = absurd (cc is)
there_now there (Ok one) (Err why) source is = absurd (cc is)
there_now there (Ok one) (Ok other) source is = by (one == other) refl is
  where
    by : (b : Bool) → (one == other) ≡ b → (let r : Result ℕ Astray = if b then Ok one else Err NoStream in r) ≡ Ok source →
        (let r : Result ℕ Astray = Ok other in r) ≡ Ok source
    by true equal is = let same : one ≡ other = eqb-true one other equal in ap Ok (sym same) ∙ is
    by false equal is = absurd (cc is)
