-- What an offer and a poll do with the log that is held, whichever whole log it stands for.
use Rattle.std.proofs.Common.{rules, ◌≡◌, ℕ, ◌==◌, nat_lt, true, false, List, length, Option, Some, None, refl, sym, ap, ap₂, subst, ◌∙◌}
use Rattle.log_traffic.specs.declared.any_log.AnyLog.{AnyLog}
use Rattle.log_traffic.specs.declared.any_log.AnyLog.TheVariants.{Term, Image}
use Rattle.learnt_addresses.specs.declared.learning.Learning.{Learning}
use Rattle.learnt_addresses.specs.declared.learning.Learning.TheVariants.{Full, Learnt, Renewed}
use Rattle.learnt_addresses.specs.declared.learnt_address.LearntAddress.{LearntAddress}
use Rattle.learnt_addresses.specs.LearntAddresses.{forgotten, learning as learning_of, learnt}
use Rattle.log_pairs.specs.Polling.{Fetched}
use Rattle.log_traffic.specs.Held.{Lies, position_held}
use Rattle.log_traffic.specs.Whole.{AnyWhole, whole, rebuilt, StandsFor, Carries, Fetches, Words, beaten, polled, position_in, received}
use Rattle.log_traffic.proofs.AnyLemmas.{position_stands}
use Rattle.driver_core.specs.declared.asked.log_request.LogRequest.{LogRequest}
use Rattle.driver_core.specs.LogRequests.{receiving_of}
use Rattle.driver_core.specs.State.{State}
use Rattle.log_steps.specs.declared.answer.Answer.{Answer}
use Rattle.log_steps.specs.declared.answer.Answer.TheVariants.{Dropped, Offered as OfferedAs, Heard, Polled, Denied, Received}
use Rattle.log_steps.specs.declared.answer.Offered.TheVariants.{Closed, TooLong, NotConnected}
use Rattle.log_steps.specs.declared.cause.Cause.TheVariants as cause
use Rattle.log_steps.specs.Answers.{offered_as}
use Rattle.log_steps.specs.Held.{HeldLog, LiesAsBefore, plot_on}
use Rattle.log_steps.specs.Memory.{Gives, is_listed}
use Rattle.log_traffic.specs.declared.asking.NakReply.{NakReply}
use Rattle.log_traffic.specs.declared.asking.NakReply.TheVariants as replies
use Rattle.log_traffic.specs.Asking.{Hears, IsToResend, Keeps, Replies, after_status, gate_behind, is_resent, nak_reply}
use Rattle.log_traffic.specs.Reporting.{IsToReport, Receives, Reports, after_report, is_report, receiver_behind, report_of}
use Rattle.channel_uri.specs.declared.address.Address.{Address}
use Rattle.log_steps.specs.Hearing.{answer_asked, answer_heard, heard_move, join_move, learn_move, nak_move, with_learnt}
use Rattle.log_steps.specs.Reporting.{answer_reported, report_move}
use Rattle.frame_codec.specs.declared.nak.Nak.{Nak}
use Rattle.frame_codec.specs.declared.status_message.StatusMessage.{StatusMessage}
use Rattle.log_traffic.specs.Receiver.{Receiving}
use Rattle.policy_core.specs.declared.decision.Decision.{Decision}
use Rattle.log_traffic.specs.declared.hearing.StatusAnswer.{StatusAnswer}
use Rattle.retransmit_gate.specs.Gate.{Resends}
use Rattle.log_steps.specs.Moves.{WholeLog, Move, StandsForLog, Does, answered, taken, given, offer_to, offer_under, offers, poll_move, term_held}
use Rattle.log_steps.specs.Receiving.{beat_move, receive_move}
use Rattle.log_steps.specs.Recovery.{Recovering}
use Rattle.frame_codec.specs.declared.header.TermPlace.{TermPlace}
use Rattle.frame_codec.specs.Frame.{Sent}
use Rattle.image_log.specs.declared.insert.Insert.{Insert}
use Rattle.image_log.specs.Log.{Log as ImageLog}
use Rattle.policy_core.specs.declared.verdict.Verdict.{Verdict}
use Rattle.term_log.specs.declared.offer.Offer.{Offer}
use Rattle.term_log.specs.Frames.{Frame}
use Rattle.term_log.specs.Kept.{after_frames}
use Rattle.term_log.specs.Log.{Log, greatest_message, connected_of}
use Rattle.term_log.specs.Whole.{Whole, Stands, Offers, is_connected}
use Rattle.term_log.proofs.Appending.{after_frames_home}
use Rattle.term_log.proofs.Standing.{connected_stands}

-- ---- where a log lies

-- a log that lies as before does so under its number
pub held_lies : (source : ℕ) (kept left : Recovering) (old new : AnyLog) → Lies old new →
    LiesAsBefore (record { source = source; log = old; recovery = kept }) (record { source = source; log = new; recovery = left })
held_lies source kept left old new lies = record { plot_is = ap (plot_on source) lies.place_is; made_is = lies.made_is }

-- frames that are appended leave the log where it lies
pub appended_lies : (l : Log) (frames : List Frame) → Lies (Term l) (Term (record l { kept = after_frames l.kept frames }))
appended_lies l frames =
    let same = after_frames_home l.kept frames in
    record { place_is = rw (same.1, same.2, same.3) refl; made_is = rw same.0 refl }

-- ---- an offer to a log of a publication

-- what the move makes of a log that is known as that, where it stands for frames that were appended
abbrev DoesTo : (WholeLog → Move) → ℕ → Recovering → Log → Answer → ℕ → AnyWhole → Recovering → Type 0
DoesTo move source kept new answer n w beside =
    let log : WholeLog = record { source = n; whole = w; recovery = beside } in
    (answer ≡ (move log).answer) × StandsForLog (term_held source kept new) (move log).after

abbrev DoesSo : (WholeLog → Move) → ℕ → Recovering → Log → Log → Answer → Type 0
DoesSo move source kept old new answer =
    (n : ℕ) (w : Whole) (beside : Recovering) → source ≡ n → Stands old w → kept ≡ beside
    → DoesTo move source kept new answer n (whole w) beside

does_by : (move : WholeLog → Move) (source : ℕ) (kept : Recovering) (old new : Log) (answer : Answer) →
    DoesSo move source kept old new answer → (n : ℕ) (w : AnyWhole) (beside : Recovering) →
    source ≡ n → StandsFor (Term old) w → kept ≡ beside → DoesTo move source kept new answer n w beside
does_by move source kept old new answer does n (whole w) beside same stands is = does n w beside same stands is
does_by move source kept old new answer does n (rebuilt r) beside same stands is = absurd stands

does_term : (move : WholeLog → Move) (source : ℕ) (kept : Recovering) (old new : Log) (answer : Answer) →
    DoesSo move source kept old new answer → Does move (term_held source kept old) (term_held source kept new) answer
does_term move source kept old new answer does = record {
  on = λ log stands.
      does_by move source kept old new answer does log.source log.whole log.recovery stands.source_is stands.whole stands.recovery_is;
}

-- it is denied
pub offer_denied : (now timeout : ℕ) (verdict : Verdict) (message : List ℕ) (l : Log) → verdict.allow ≡ false → (source : ℕ) (kept : Recovering) →
    Does (offers now timeout verdict message) (term_held source kept l) (term_held source kept l) (Denied verdict)
offer_denied now timeout verdict message l denied source kept =
    does_term (offers now timeout verdict message) source kept l l (Denied verdict) (λ n w beside same stands is.
    let log : WholeLog = record { source = n; whole = whole w; recovery = beside } in
    let left : offers now timeout verdict message log ≡ answered log (Denied verdict) = rw denied refl in
    rw left (refl, record { source_is = same; whole = stands; recovery_is = is }))

-- the message is too long
pub offer_too_long : (now timeout : ℕ) (verdict : Verdict) (message : List ℕ) (l : Log) → verdict.allow ≡ true →
    nat_lt (greatest_message l.kept.ident) (length message) ≡ true → (source : ℕ) (kept : Recovering) →
    Does (offers now timeout verdict message) (term_held source kept l) (term_held source kept l) (OfferedAs TooLong)
offer_too_long now timeout verdict message l allowed long source kept =
    does_term (offers now timeout verdict message) source kept l l (OfferedAs TooLong) (λ n w beside same stands is.
    let log : WholeLog = record { source = n; whole = whole w; recovery = beside } in
    let past : nat_lt (greatest_message w.ident) (length message) ≡ true = rw (← stands.ident) long in
    let left : offers now timeout verdict message log ≡ answered log (OfferedAs TooLong) = rw (allowed, past) refl in
    rw left (refl, record { source_is = same; whole = stands; recovery_is = is }))

-- nobody reads the log
pub offer_alone : (now timeout : ℕ) (verdict : Verdict) (message : List ℕ) (l : Log) → verdict.allow ≡ true →
    nat_lt (greatest_message l.kept.ident) (length message) ≡ false → connected_of l now timeout ≡ false → (source : ℕ) (kept : Recovering) →
    Does (offers now timeout verdict message) (term_held source kept l) (term_held source kept l) (OfferedAs NotConnected)
offer_alone now timeout verdict message l allowed short alone source kept =
    does_term (offers now timeout verdict message) source kept l l (OfferedAs NotConnected) (λ n w beside same stands is.
    let log : WholeLog = record { source = n; whole = whole w; recovery = beside } in
    let fits : nat_lt (greatest_message w.ident) (length message) ≡ false = rw (← stands.ident) short in
    let nobody : is_connected w now timeout ≡ false = rw (← connected_stands l w now timeout stands) alone in
    let left : offers now timeout verdict message log ≡ answered log (OfferedAs NotConnected) =
    rw (allowed, fits, nobody) refl in
    rw left (refl, record { source_is = same; whole = stands; recovery_is = is }))

-- the log itself is offered the message
pub offer_taken : (now timeout : ℕ) (verdict : Verdict) (message : List ℕ) (l after : Log) (answer : Offer) → verdict.allow ≡ true →
    nat_lt (greatest_message l.kept.ident) (length message) ≡ false → connected_of l now timeout ≡ true →
    Offers l after message answer → (source : ℕ) (kept : Recovering) →
    Does (offers now timeout verdict message) (term_held source kept l) (term_held source kept after) (OfferedAs (offered_as answer))
offer_taken now timeout verdict message l after answer allowed short read offers' source kept =
    does_term (offers now timeout verdict message) source kept l after (OfferedAs (offered_as answer)) (λ n w beside same stands is.
    let log : WholeLog = record { source = n; whole = whole w; recovery = beside } in
    let fits : nat_lt (greatest_message w.ident) (length message) ≡ false = rw (← stands.ident) short in
    let heard : is_connected w now timeout ≡ true = rw (← connected_stands l w now timeout stands) read in
    let left : offers now timeout verdict message log ≡ taken message log w = rw (allowed, fits, heard) refl in
    let made = offers'.on w stands in
    rw (left, made.0) (refl, record { source_is = same; whole = made.1; recovery_is = is }))

-- ---- an offer

-- what the log makes of it where the client has a registration with it
pub offer_passed : (timeout now : ℕ) (message : List ℕ) (held after : HeldLog) (request : LogRequest) (answer : Answer) →
    request.source ≡ held.source → Does (offers now timeout request.decision.verdict message) held after answer →
    Does (offer_under timeout (Some request) now message) held after answer
offer_passed timeout now message held after request answer own does =
    record {
      on = λ log stands.
          let source : request.source ≡ log.source = rw own stands.source_is in
          let same : (request.source == log.source) ≡ true = search rules in
          let left : offer_under timeout (Some request) now message log ≡ offers now timeout request.decision.verdict message log =
          rw same refl in
          rw left (does.on log stands);
    }

closed_by : (now timeout : ℕ) (verdict : Verdict) (message : List ℕ) (l : ImageLog) (log : WholeLog) (w : AnyWhole) →
    StandsFor (Image l) w → offer_to now timeout verdict message log w ≡ answered log (OfferedAs Closed)
closed_by now timeout verdict message l log (whole w) stands = absurd stands
closed_by now timeout verdict message l log (rebuilt r) stands = refl

-- a remote stream's log takes none
pub offer_closed : (now timeout : ℕ) (verdict : Verdict) (message : List ℕ) (held : HeldLog) (l : ImageLog) → held.log ≡ Image l →
    Does (offers now timeout verdict message) held held (OfferedAs Closed)
offer_closed now timeout verdict message held l is =
    record {
      on = λ log stands.
          let left : offers now timeout verdict message log ≡ answered log (OfferedAs Closed) =
          closed_by now timeout verdict message l log log.whole (subst (λ (h : AnyLog). StandsFor h log.whole) is stands.whole) in
          rw left (refl, stands);
    }

-- ---- a poll

-- it has one, where it is not without one
pub some_position : (position : Option ℕ) → ¬ (position ≡ None) → (at : ℕ) × (position ≡ Some at)
some_position None some = absurd (some refl)
some_position (Some at) some = (at, refl)

-- the log itself is polled
pub poll_given : (s : State) (client subscription limit : ℕ) (held after : HeldLog) (request : LogRequest) (position : ℕ) (fragments : List Fetched) →
    receiving_of s client subscription held.source ≡ Some request → position_held held.log subscription ≡ Some position →
    request.decision.verdict.allow ≡ true → Fetches held.log subscription limit fragments →
    after.source ≡ held.source → after.recovery ≡ held.recovery → Carries held.log after.log (λ w. (polled w subscription limit).after) →
    Does (poll_move s client subscription limit) held after (Polled fragments)
unfolding poll_move
poll_given s client subscription limit held after request position fragments is there allowed copies stays kept carries =
    record {
      on = λ log stands.
          let asked : receiving_of s client subscription log.source ≡ Some request = rw (← stands.source_is) is in
          let place : position_in log.whole subscription ≡ Some position =
          sym (position_stands held.log log.whole subscription stands.whole) ∙ there in
          let left : poll_move s client subscription limit log ≡ given subscription limit log =
          rw (asked, place, allowed) refl in
          let made = copies.on log.whole stands.whole in
          let moved = carries.on log.whole stands.whole in
          rw (left, made) (refl, record { source_is = rw stays stands.source_is; whole = moved; recovery_is = kept ∙ stands.recovery_is });
    }

-- so fragments are given, for which memory may be wanting
pub poll_gives : (s : State) (client subscription limit : ℕ) (held : HeldLog) (request : LogRequest) (position : ℕ) →
    receiving_of s client subscription held.source ≡ Some request → position_held held.log subscription ≡ Some position →
    request.decision.verdict.allow ≡ true → Gives (poll_move s client subscription limit) held
unfolding poll_move
poll_gives s client subscription limit held request position is there allowed =
    record {
      on = λ log stands.
          let asked : receiving_of s client subscription log.source ≡ Some request = rw (← stands.source_is) is in
          let place : position_in log.whole subscription ≡ Some position =
          sym (position_stands held.log log.whole subscription stands.whole) ∙ there in
          let left : poll_move s client subscription limit log ≡ given subscription limit log =
          rw (asked, place, allowed) refl in
          rw left refl;
    }

-- it has a position, where the log held gives one
pub gone_position : (held : HeldLog) (log : WholeLog) (subscription : ℕ) → StandsForLog held log →
    position_held held.log subscription ≡ None → position_in log.whole subscription ≡ None
gone_position held log subscription stands none = sym (position_stands held.log log.whole subscription stands.whole) ∙ none

-- ---- a datagram

pub frames_received : (now : ℕ) (sent : List Sent) (held after : HeldLog) (words : List Insert) → Words held.log sent words →
    after.source ≡ held.source → after.recovery ≡ held.recovery → Carries held.log after.log (received now sent) →
    Does (receive_move now sent) held after (Received words)
frames_received now sent held after words told stays kept carries = record {
  on = λ log stands.
      let given = told.on log.whole stands.whole in
      let moved = carries.on log.whole stands.whole in
      (ap Received given, record { source_is = rw stays stands.source_is; whole = moved; recovery_is = kept ∙ stands.recovery_is });
}

pub frames_give : (now : ℕ) (sent : List Sent) (held : HeldLog) → Gives (receive_move now sent) held
frames_give now sent held = record { on = λ log stands. refl }

pub beat_heard : (now : ℕ) (place : TermPlace) (held after : HeldLog) → after.source ≡ held.source →
    after.recovery ≡ held.recovery → Carries held.log after.log (beaten now place) → Does (beat_move now place) held after Heard
beat_heard now place held after stays kept carries = record {
  on = λ log stands. (
    refl,
    record {
      source_is = rw stays stands.source_is;
      whole = carries.on log.whole stands.whole;
      recovery_is = kept ∙ stands.recovery_is;
    },
  );
}

-- ---- what receivers ask, and what a publisher is told

recovery_from : (r : Recovering) (gate : Resends) (receiver : Receiving) (learnt : List LearntAddress) → r.gate ≡ gate →
    r.receiver ≡ receiver → r.learnt ≡ learnt → r ≡ record { gate = gate; receiver = receiver; learnt = learnt }
recovery_from r gate receiver learnt same told kept =
    ap₂ (λ (g : Resends) (t : Receiving). let x : Recovering = record { gate = g; receiver = t; learnt = r.learnt } in x) same told
    ∙ ap (λ (l : List LearntAddress). let x : Recovering = record { gate = gate; receiver = receiver; learnt = l } in x) kept

resent_listed : (from : Address) (reply : Option NakReply) → is_resent reply ≡ true → is_listed (answer_asked from reply) ≡ true
resent_listed from (Some (replies.Resent datagrams)) is = refl
resent_listed from (Some (replies.Denied verdict)) is = absurd (cc is)
resent_listed from (Some replies.Empty) is = absurd (cc is)
resent_listed from (Some replies.OutOfWindow) is = absurd (cc is)
resent_listed from (Some replies.Lingering) is = absurd (cc is)
resent_listed from (Some replies.Busy) is = absurd (cc is)
resent_listed from None is = absurd (cc is)

reported_listed : (to : Address) (report : Option (List (List ℕ))) → is_report report ≡ true → is_listed (answer_reported to report) ≡ true
reported_listed to None is = absurd (cc is)
reported_listed to (Some datagrams) is = is

pub status_heard : (now : ℕ) (message : StatusMessage) (held after : HeldLog) (answer : Option StatusAnswer) → Hears held.log message answer →
    after.source ≡ held.source → after.recovery ≡ held.recovery → Carries held.log after.log (after_status now message) →
    Does (heard_move now message) held after (answer_heard answer)
status_heard now message held after answer hears stays kept carries = record {
  on = λ log stands. (
    ap answer_heard (hears.on log.whole stands.whole),
    record {
      source_is = rw stays stands.source_is;
      whole = carries.on log.whole stands.whole;
      recovery_is = kept ∙ stands.recovery_is;
    },
  );
}

-- what is learnt changes, and no more
pub record LearnsOf (held after : HeldLog) (change : List LearntAddress → List LearntAddress) : Type 0 where
  pub source_is : after.source ≡ held.source
  pub log_is : after.log ≡ held.log
  pub recovery_is : after.recovery ≡ record held.recovery { learnt = change held.recovery.learnt }

pub learns_stand : (held after : HeldLog) (change : List LearntAddress → List LearntAddress) (log : WholeLog) → LearnsOf held after change →
    StandsForLog held log → StandsForLog after (with_learnt (change log.recovery.learnt) log)
learns_stand held after change log learns stands = record {
  source_is = learns.source_is ∙ stands.source_is;
  whole = subst (λ (l : AnyLog). StandsFor l log.whole) (sym learns.log_is) stands.whole;
  recovery_is =
      learns.recovery_is
      ∙ ap (λ (r : Recovering). let x : Recovering = record r { learnt = change r.learnt } in x) stands.recovery_is;
}

-- the policy does not let the address join
pub join_denied : (now : ℕ) (from : Address) (decision : Decision) (message : StatusMessage) (held after : HeldLog) →
    decision.verdict.allow ≡ false → LearnsOf held after (forgotten from) →
    Does (join_move now from decision message) held after (Dropped (cause.Denied decision.verdict))
join_denied now from decision message held after denies learns = record {
  on = λ log stands. rw denies (refl, learns_stand held after (forgotten from) log learns stands);
}

nothing_learnt : (now : ℕ) (from : Address) (rows : List LearntAddress) → learning_of rows from ≡ Full → learnt now from rows ≡ rows
unfolding learnt
nothing_learnt now from rows full = rw full refl

same_log : (log : WholeLog) (rows : List LearntAddress) → rows ≡ log.recovery.learnt → with_learnt rows log ≡ log
same_log log rows same = ap (λ (l : List LearntAddress). with_learnt l log) same

-- there is no room for it
pub join_full : (now : ℕ) (from : Address) (decision : Decision) (message : StatusMessage) (held after : HeldLog) →
    decision.verdict.allow ≡ true → learning_of held.recovery.learnt from ≡ Full → LearnsOf held after (learnt now from) →
    Does (join_move now from decision message) held after (Dropped cause.Full)
join_full now from decision message held after allows full learns = record {
  on = λ log stands.
      let there : learning_of log.recovery.learnt from ≡ Full =
      ap (λ (r : Recovering). learning_of r.learnt from) (sym stands.recovery_is) ∙ full in
      rw (allows, there) (
        refl,
        subst (StandsForLog after) (same_log log (learnt now from log.recovery.learnt) (nothing_learnt now from log.recovery.learnt there))
            (learns_stand held after (learnt now from) log learns stands),
      );
}

hears_after : (now : ℕ) (from : Address) (message : StatusMessage) (log : WholeLog) (answer : Learning) → (answer ≡ Full → ⊥) →
    learn_move now from message log answer ≡ heard_move now message (with_learnt (learnt now from log.recovery.learnt) log)
hears_after now from message log Full other = absurd (other refl)
hears_after now from message log Learnt other = refl
hears_after now from message log Renewed other = refl

-- it joins, and then the log hears the message
pub join_heard : (now : ℕ) (from : Address) (decision : Decision) (message : StatusMessage) (held between after : HeldLog) (answer : Answer) →
    decision.verdict.allow ≡ true → (learning_of held.recovery.learnt from ≡ Full → ⊥) → LearnsOf held between (learnt now from) →
    Does (heard_move now message) between after answer → Does (join_move now from decision message) held after answer
join_heard now from decision message held between after answer allows other learns hears = record {
  on = λ log stands.
      let there : learning_of held.recovery.learnt from ≡ learning_of log.recovery.learnt from =
      ap (λ (r : Recovering). learning_of r.learnt from) stands.recovery_is in
      let moves : learn_move now from message log (learning_of log.recovery.learnt from)
      ≡ heard_move now message (with_learnt (learnt now from log.recovery.learnt) log) =
      hears_after now from message log _ (λ full. other (there ∙ full)) in
      let told = hears.on (with_learnt (learnt now from log.recovery.learnt) log) (learns_stand held between (learnt now from) log learns stands) in
      rw (allows, moves) told;
}

pub nak_answered : (now : ℕ) (from : Address) (decision : Decision) (nak : Nak) (held after : HeldLog) (reply : Option NakReply) →
    Replies held.log decision now nak held.recovery.gate reply → Keeps held.log decision now nak held.recovery.gate after.recovery.gate →
    after.source ≡ held.source → after.log ≡ held.log → after.recovery.receiver ≡ held.recovery.receiver →
    after.recovery.learnt ≡ held.recovery.learnt → Does (nak_move now from decision nak) held after (answer_asked from reply)
nak_answered now from decision nak held after reply replies keeps stays same told kept = record {
  on = λ log stands.
      let gate = ap (λ (r : Recovering). r.gate) stands.recovery_is in
      let receiver = ap (λ (r : Recovering). r.receiver) stands.recovery_is in (
        ap (answer_asked from) (replies.on log.whole stands.whole ∙ ap (λ g. nak_reply decision now nak g log.whole) gate),
        record {
          source_is = rw stays stands.source_is;
          whole = subst (λ (l : AnyLog). StandsFor l log.whole) (sym same) stands.whole;
          recovery_is = recovery_from after.recovery _ _ _
              (keeps.on log.whole stands.whole ∙ ap (λ g. gate_behind decision now nak g log.whole) gate) (told ∙ receiver)
              (kept ∙ ap (λ (r : Recovering). r.learnt) stands.recovery_is);
        },
      );
}

pub nak_gives : (now : ℕ) (from : Address) (decision : Decision) (nak : Nak) (held : HeldLog) →
    IsToResend held.log decision now nak held.recovery.gate → Gives (nak_move now from decision nak) held
nak_gives now from decision nak held to = record {
  on = λ log stands.
      resent_listed from (nak_reply decision now nak log.recovery.gate log.whole)
      (ap (λ (r : Recovering). is_resent (nak_reply decision now nak r.gate log.whole)) (sym stands.recovery_is) ∙ to.on log.whole stands.whole);
}

pub report_told : (now id : ℕ) (to : Address) (held after : HeldLog) (report : Option (List (List ℕ))) →
    Reports held.log now id held.recovery.receiver report → Receives held.log now held.recovery.receiver after.recovery.receiver →
    Carries held.log after.log (after_report now held.recovery.receiver) →
    after.source ≡ held.source → after.recovery.gate ≡ held.recovery.gate → after.recovery.learnt ≡ held.recovery.learnt →
    Does (report_move now id to) held after (answer_reported to report)
report_told now id to held after report reports receives carries stays same kept = record {
  on = λ log stands.
      let gate = ap (λ (r : Recovering). r.gate) stands.recovery_is in
      let receiver = ap (λ (r : Recovering). r.receiver) stands.recovery_is in (
        ap (answer_reported to) (reports.on log.whole stands.whole ∙ ap (λ r. report_of now id r log.whole) receiver),
        record {
          source_is = rw stays stands.source_is;
          whole = subst (λ (r : Receiving). StandsFor after.log (after_report now r log.whole)) receiver (carries.on log.whole stands.whole);
          recovery_is = recovery_from after.recovery _ _ _ (same ∙ gate)
              (receives.on log.whole stands.whole ∙ ap (λ r. receiver_behind now r log.whole) receiver)
              (kept ∙ ap (λ (r : Recovering). r.learnt) stands.recovery_is);
        },
      );
}

pub report_gives : (now id : ℕ) (to : Address) (held : HeldLog) → IsToReport held.log now id held.recovery.receiver →
    Gives (report_move now id to) held
report_gives now id to held due = record {
  on = λ log stands.
      reported_listed to (report_of now id log.recovery.receiver log.whole)
      (ap (λ (r : Recovering). is_report (report_of now id r.receiver log.whole)) (sym stands.recovery_is) ∙ due.on log.whole stands.whole);
}
