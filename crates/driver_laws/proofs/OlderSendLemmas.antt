-- Turns of the sender by any registry of a run.
use Rattle.std.proofs.Common.{◌≡◌, ℕ, ◌<◌, ◌==◌, Bool, true, cond, List, take, Option, Some, None, ⊎_elim, refl, sym, ap, ◌∙◌, arith}
use Rattle.std.proofs.lemmas.Bool.{and_parts, eqb-true}
use Rattle.std.specs.Option.{is_some, option_map}
use Rattle.log_traffic.specs.Held.{for_publication}
use Rattle.log_traffic.specs.Sending.{after_turn, turn_of}
use Rattle.log_traffic.specs.Whole.{AnyWhole, whole, rebuilt, made_for as made_any}
use Rattle.channel_uri.specs.declared.media.Media.{Media}
use Rattle.channel_uri.specs.declared.media.Media.TheVariants.{Udp, Ipc, Counter}
use Rattle.driver_core.specs.declared.state.event.Event.{Event}
use Rattle.driver_core.specs.declared.state.event.Inputs.{Inputs}
use Rattle.driver_core.specs.declared.asked.send_request.Outlet.{Outlet}
use Rattle.driver_core.specs.declared.state.settings.Settings.{Settings}
use Rattle.driver_core.specs.Renewal.{source_at}
use Rattle.driver_core.specs.SendRequests.{is_sent, lingers_by, outlets_by, outlets_of, sending_of}
use Rattle.driver_core.specs.State.{State}
use Rattle.driver_core.proofs.VerdictLemmas.{by_policy}
use Rattle.driver_laws.specs.NumberLaws.{AreRising, ComesAbove}
use Rattle.driver_laws.specs.OlderLaws.{SendIsDecidedBy, SendsAreDecidedBy, SendsByAnyRegistryAreGrantedExactly, cut_by_log_seen, idle_by_log_seen, registry_in}
use Rattle.driver_laws.specs.PublishingLaws.{WasLive}
use Rattle.driver_laws.proofs.LoggedLemmas.{found_in}
use Rattle.driver_laws.proofs.NumberLemmas.{are_drawn, numbers_rise}
use Rattle.driver_laws.proofs.OlderLemmas.{above_of, row_of, same_published}
use Rattle.driver_laws.proofs.RisingLemmas.{rises_unique}
use Rattle.log_steps.specs.declared.answer.Answer.TheVariants.{Gone, Idle, Sent}
use Rattle.driver_steps.specs.declared.step.Step.TheVariants.{Send}
use Rattle.driver_steps.specs.Ends.{log_at, moved_by, moved_on, on_log, opening_end, RunEnd}
use Rattle.log_steps.specs.Idents.{ident_of, kind_over, made_by, made_of}
use Rattle.driver_steps.specs.Laws.{LogsFollow, stays, taken_from}
use Rattle.log_steps.specs.Moves.{Move, WholeLog}
use Rattle.driver_steps.specs.Runs.{end_of}
use Rattle.log_steps.specs.Sending.{answer_sent, expired, pace_of, send_by, send_move, standing_of}
use Rattle.driver_steps.proofs.SendLawLemmas.{outlets_learnt, outlets_named}
use Rattle.learnt_addresses.specs.declared.learnt_address.LearntAddress.{LearntAddress}
use Rattle.driver_steps.specs.SendLaws.{learnt_question, send_question}
use Rattle.driver_steps.proofs.DecisionLemmas.{left_by, log_moves, made_at, stays_left}
use Rattle.driver_steps.proofs.FollowLemmas.{logs_follow}
use Rattle.driver_steps.proofs.FoundLemmas.{found_source}
use Rattle.log_traffic.specs.declared.cutting.DatagramKind.{DatagramKind}
use Rattle.log_traffic.specs.declared.cutting.Pace.{Pace}
use Rattle.log_traffic.specs.Cutting.{after_due, bytes_as, cut_of, datagram_of, due_of}
use Rattle.stream_registry.specs.declared.row.Origin.{Origin}
use Rattle.stream_registry.specs.declared.row.Origin.TheVariants.{Published, Remote}
use Rattle.stream_registry.specs.declared.row.LogRow.{LogRow}
use Rattle.stream_registry.specs.Origins.{is_published, is_published_by, lingering_since}
use Rattle.stream_registry.specs.Places.{is_udp as is_udp_media}
use Rattle.term_log.specs.declared.ident.Ident.{Ident}
use Rattle.term_log.specs.Ident.{is_udp}
use Rattle.term_log.specs.Whole.{Whole}

-- ---- the log of a publication over datagrams is sent

udp_kind : (media : Media) → is_udp_media media ≡ true → is_udp (kind_over media) ≡ true
udp_kind Udp is = refl
udp_kind Ipc is = absurd (cc is)
udp_kind Counter is = absurd (cc is)

same_ident : (i j : Ident) → for_publication i ≡ for_publication j → i ≡ j
same_ident i j is = cc is

-- it is one of frames that were appended, of that kind
sent_made : (settings : Settings) (log : LogRow) (origin : Origin) (w : AnyWhole) → is_published_by origin ≡ true →
    made_any w ≡ made_by settings log origin → is_udp_media log.channel.media ≡ true →
    (frames : Whole) × (w ≡ whole frames) × (is_udp frames.ident.kind ≡ true)
sent_made settings log (Published exclusive since) (whole frames) published made udp =
    (frames, refl, ap (λ (i : Ident). is_udp i.kind) (same_ident frames.ident (ident_of settings log) made) ∙ udp_kind log.channel.media udp)
sent_made settings log (Published exclusive since) (rebuilt frames) published made udp = absurd (cc made)
sent_made settings log (Remote address initial_term join) w published made udp = absurd (cc published)

-- ---- what the registry says

lets : (s : State) (source : ℕ) (publication : LogRow) → source_at s.streams.sources source ≡ Some publication →
    is_sent publication ≡ true → sending_of s source ≡ Some (is_some (lingering_since publication))
unfolding sending_of
lets s source publication is sends = ap lingers_by is ∙ ap (λ (b : Bool). cond b (Some (is_some (lingering_since publication))) None) sends

goes : (s : State) (source : ℕ) (publication : LogRow) → source_at s.streams.sources source ≡ Some publication →
    (learnt : List LearntAddress) → outlets_of s learnt source ≡ outlets_by s learnt (Some publication)
unfolding outlets_of
goes s source publication is learnt = ap (outlets_by s learnt) is

-- ---- the move

-- what the log does, of which all frames are known
abbrev turned : State → ℕ → Bool → WholeLog → Whole → List Outlet → Move
turned s now lingers log frames outlets = record {
  after = record (expired s.settings now log) { whole = whole (cut_of (pace_of s.settings) now frames) };
  answer = answer_sent outlets (Some (datagram_of (pace_of s.settings) now lingers frames));
}

turn_is : (s : State) (now : ℕ) (lingers : Bool) (log : WholeLog) (frames : Whole) (outlets : List Outlet) →
    sending_of s log.source ≡ Some lingers → outlets_of s (standing_of s.settings now log) log.source ≡ outlets → log.whole ≡ whole frames →
    is_udp frames.ident.kind ≡ true → send_move s now log ≡ turned s now lingers log frames outlets
unfolding send_move
turn_is s now lingers log frames outlets lets' goes' is udp =
    let pace : Pace = pace_of s.settings in
    let turn : turn_of pace now lingers (whole frames) ≡ Some (datagram_of pace now lingers frames) =
    ap (λ (b : Bool). cond b (Some (datagram_of pace now lingers frames)) None) udp in
    let after : after_turn pace now (whole frames) ≡ whole (cut_of pace now frames) =
    ap (λ (b : Bool). cond b (whole (cut_of pace now frames)) (whole frames)) udp in
    ap (send_by s now log) lets'
    ∙ ap (λ (w : AnyWhole). let m : Move = record {
      after = record (expired s.settings now log) { whole = after_turn pace now w };
      answer = answer_sent (outlets_of s (standing_of s.settings now log) log.source) (turn_of pace now lingers w);
    } in m) is
    ∙ ap (λ (w : AnyWhole). let m : Move = record {
      after = record (expired s.settings now log) { whole = w };
      answer = answer_sent (outlets_of s (standing_of s.settings now log) log.source) (turn_of pace now lingers (whole frames));
    } in m) after
    ∙ ap (λ (t : Option (Option (List ℕ))). let m : Move = record {
      after = record (expired s.settings now log) { whole = whole (cut_of pace now frames) };
      answer = answer_sent (outlets_of s (standing_of s.settings now log) log.source) t;
    } in m) turn
    ∙ ap (λ (o : List Outlet). turned s now lingers log frames o) goes'

-- nothing is due where no datagram is
idle_due : (lingers : Bool) (frames : Whole) (due : Option DatagramKind) → option_map (bytes_as lingers frames) due ≡ None → due ≡ None
idle_due lingers frames None is = refl
idle_due lingers frames (Some kind) is = absurd (cc is)

idle_cut : (pace : Pace) (now : ℕ) (lingers : Bool) (frames : Whole) → datagram_of pace now lingers frames ≡ None → cut_of pace now frames ≡ frames
unfolding datagram_of cut_of
idle_cut pace now lingers frames none = ap (after_due now frames) (idle_due lingers frames (due_of pace now frames) none)

same_log : (log : WholeLog) (frames : Whole) → log.whole ≡ whole frames → record log { whole = whole frames } ≡ log
same_log log frames is = ap (λ (w : AnyWhole). let l : WholeLog = record log { whole = w } in l) (sym is)

turn_idle : (s : State) (e : RunEnd) (now source : ℕ) (lingers : Bool) (log : WholeLog) (frames : Whole) (outlets : List Outlet) →
    log_at e.logs source ≡ Some log → log.whole ≡ whole frames → datagram_of (pace_of s.settings) now lingers frames ≡ None →
    left_by e source (turned s now lingers log frames outlets) ≡ idle_by_log_seen s e now log
turn_idle s e now source lingers log frames outlets found is none =
    let pace : Pace = pace_of s.settings in
    ap (λ (w : Whole). left_by e source (record {
      after = record (expired s.settings now log) { whole = whole w };
      answer = answer_sent outlets (Some (datagram_of pace now lingers frames));
    })) (idle_cut pace now lingers frames none)
    ∙ ap (λ (d : Option (List ℕ)). left_by e source (record { after = record (expired s.settings now log) { whole = whole frames }; answer = answer_sent outlets (Some d) })) none
    ∙ ap (λ (l : WholeLog). left_by e source (record { after = l; answer = Idle })) (same_log (expired s.settings now log) frames is)
    ∙ ap (λ (n : ℕ). left_by e n (record { after = expired s.settings now log; answer = Idle }))
    (sym (found_source source log e.logs found))

turn_sent : (s : State) (e : RunEnd) (now source : ℕ) (lingers : Bool) (log : WholeLog) (frames : Whole) (outlets : List Outlet) (bytes : List ℕ) →
    log_at e.logs source ≡ Some log → datagram_of (pace_of s.settings) now lingers frames ≡ Some bytes →
    left_by e source (turned s now lingers log frames outlets) ≡ cut_by_log_seen s e now log frames bytes outlets
turn_sent s e now source lingers log frames outlets bytes found some =
    let pace : Pace = pace_of s.settings in
    ap (λ (d : Option (List ℕ)). left_by e source (record { after = record (expired s.settings now log) { whole = whole (cut_of pace now frames) }; answer = answer_sent outlets (Some d) })) some
    ∙ ap (λ (n : ℕ). left_by e n (record { after = record (expired s.settings now log) { whole = whole (cut_of pace now frames) }; answer = Sent bytes outlets }))
    (sym (found_source source log e.logs found))

-- ---- the publication that it is now

record IsStill (publication row : LogRow) : Type 0 where
  published : is_published row ≡ is_published publication
  media : row.channel.media ≡ publication.channel.media

-- whatever log has its number is that publication
still : (s after : State) → AreRising s → ComesAbove s after → (source : ℕ) (publication row : LogRow) →
    source_at s.streams.sources source ≡ Some publication → source_at after.streams.sources source ≡ Some row → IsStill publication row
still s after rises above source publication row is now =
    let here = found_in (λ (one : LogRow). one.number == source) s.streams.sources publication is in
    let there = found_in (λ (one : LogRow). one.number == source) after.streams.sources row now in
    let number : publication.number ≡ source = eqb-true publication.number source here.passes in
    let same_number : row.number ≡ source = eqb-true row.number source there.passes in
    ⊎_elim
    (λ (was : WasLive s.streams row).
    let alike : row.number ≡ was.before.number = ap (λ (one : LogRow). one.number) was.same in
    let same : was.before.number ≡ publication.number = sym alike ∙ same_number ∙ sym number in
    let one : was.before ≡ publication =
    rises_unique (λ (one : LogRow). one.number) 0 s.last_number s.streams.sources was.before publication rises.sources was.stood here.stands same in
    record {
      published = same_published row was.before was.same ∙ ap (λ (l : LogRow). is_published l) one;
      media = ap (λ (l : LogRow). l.channel.media) was.same ∙ ap (λ (l : LogRow). l.channel.media) one;
    })
    (λ (new : s.last_number < row.number).
    let drawn = (are_drawn s rises).sources publication here.stands in
    absurd (omega (arith, new, same_number, number, drawn.below)))
    (above.sources row there.stands)

send_there : (s : State) (e : RunEnd) → LogsFollow e → AreRising s → ComesAbove s e.registry →
    (now source : ℕ) (publication : LogRow) (log : WholeLog) →
    source_at s.streams.sources source ≡ Some publication → is_sent publication ≡ true → log_at e.logs source ≡ Some log →
    (frames : Whole) × (log.whole ≡ whole frames) × SendIsDecidedBy s e now publication log frames (moved_by s e (Send now source))
send_there s e follows rises above now source publication log is sends found =
    let settings : Settings = e.registry.settings in
    let lingers : Bool = is_some (lingering_since publication) in
    let learnt : List LearntAddress = standing_of s.settings now log in
    let outlets : List Outlet = outlets_by s learnt (Some publication) in
    let parts = and_parts (is_published publication) (is_udp_media publication.channel.media) sends in
    let row = row_of settings e.logs e.registry.streams.sources source log follows.made found in
    let now_is = still s e.registry rises above source publication row.0 is row.1 in
    let made : made_any log.whole ≡ made_of settings row.0 =
    made_at settings e.logs e.registry.streams.sources source log row.0 follows.made found row.1 in
    let of' =
    sent_made settings row.0 row.0.origin log.whole (now_is.published ∙ parts.0) made (ap is_udp_media now_is.media ∙ parts.1) in
    let here : log.source ≡ source = found_source source log e.logs found in
    let lets' : sending_of s log.source ≡ Some lingers = ap (sending_of s) here ∙ lets s source publication is sends in
    let goes' : outlets_of s (standing_of s.settings now log) log.source ≡ outlets = ap (outlets_of s learnt) here ∙ goes s source publication is learnt in
    let moves : moved_by s e (Send now source) ≡ left_by e source (turned s now lingers log of'.0 outlets) =
    log_moves e source (send_move s now) Gone log found
    ∙ ap (left_by e source) (turn_is s now lingers log of'.0 outlets lets' goes' of'.1 of'.2) in (
      of'.0,
      of'.1,
      record {
        outlets = outlets;
        named = λ by_name. outlets_named s publication learnt by_name;
        learnt = λ dynamic. outlets_learnt s publication learnt dynamic;
        decided = λ destination. record { to_is = refl; by = by_policy s (send_question publication destination) };
        decided_learnt = λ address. record { to_is = refl; by = by_policy s (learnt_question s publication address) };
        idle = λ none. moves ∙ turn_idle s e now source lingers log of'.0 outlets found of'.1 none;
        sent = λ bytes some. moves ∙ turn_sent s e now source lingers log of'.0 outlets bytes found some;
      },
    )

send_gone : (s : State) (e : RunEnd) (now source : ℕ) (o : Option WholeLog) → log_at e.logs source ≡ o → sending_of s source ≡ None →
    moved_on e source (send_move s now) Gone o ≡ stays e Gone
unfolding send_move
send_gone s e now source None found none = refl
send_gone s e now source (Some log) found none =
    let here : sending_of s log.source ≡ None = ap (sending_of s) (found_source source log e.logs found) ∙ none in
    ap (λ (o : Option Bool). left_by e source (send_by s now log o)) here ∙ stays_left e source log Gone found

send_closed : (s : State) (e : RunEnd) (now source : ℕ) → log_at e.logs source ≡ None → moved_by s e (Send now source) ≡ stays e Gone
unfolding on_log
send_closed s e now source none = ap (moved_on e source (send_move s now) Gone) none

sent_by_any : (s : State) (e : RunEnd) → LogsFollow e → AreRising s → ComesAbove s e.registry → SendsAreDecidedBy s e
unfolding on_log
sent_by_any s e follows rises above = record {
  there = send_there s e follows rises above;
  closed = send_closed s e;
  gone = λ now source none. send_gone s e now source (log_at e.logs source) refl none;
}

pub sends_by_any : SendsByAnyRegistryAreGrantedExactly
sends_by_any settings policy peers readings answers k sound are =
    let first : List (Event × Inputs) = take k (taken_from (opening_end settings policy peers) readings answers) in
    sent_by_any (registry_in settings policy peers readings answers k) (end_of (opening_end settings policy peers) readings answers) (logs_follow settings policy peers readings answers sound are)
    (numbers_rise settings policy peers first) (above_of settings policy peers readings answers k)
