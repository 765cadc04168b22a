-- The sender's turns go to each destination exactly where the policy in force allows it.
use Rattle.std.proofs.Common.{◌≡◌, ℕ, Bool, true, false, cond, List, map, Option, Some, None, refl, sym, ap, ◌∙◌}
use Rattle.std.proofs.lemmas.Bool.{and_parts}
use Rattle.std.specs.Option.{is_some, option_map}
use Rattle.log_traffic.specs.Held.{for_publication}
use Rattle.log_traffic.specs.Sending.{after_turn, turn_of}
use Rattle.log_traffic.specs.Whole.{AnyWhole, whole, rebuilt, made_for as made_any}
use Rattle.channel_uri.specs.declared.media.Media.{Media}
use Rattle.channel_uri.specs.declared.media.Media.TheVariants.{Udp, Ipc, Counter}
use Rattle.destinations.specs.Destinations.{of}
use Rattle.driver_core.specs.declared.asked.send_request.Outlet.{Outlet}
use Rattle.driver_core.specs.declared.state.settings.Settings.{Settings}
use Rattle.driver_core.specs.Renewal.{source_at}
use Rattle.driver_core.specs.SendRequests.{is_sent, learnt_outlet, lingers_by, outlet_of, outlets_by, outlets_of, sending_of}
use Rattle.driver_core.specs.State.{State}
use Rattle.driver_core.proofs.VerdictLemmas.{by_policy}
use Rattle.log_steps.specs.declared.answer.Answer.TheVariants.{Gone, Idle, Sent}
use Rattle.driver_steps.specs.declared.step.Step.TheVariants.{Send}
use Rattle.driver_steps.specs.Ends.{RunEnd, log_at, moved, moved_on, on_log}
use Rattle.log_steps.specs.Idents.{ident_of, kind_over, made_by, made_of}
use Rattle.driver_steps.specs.Laws.{LogsFollow, stays}
use Rattle.log_steps.specs.Moves.{Move, WholeLog}
use Rattle.log_steps.specs.Sending.{answer_sent, expired, pace_of, send_by, send_move, standing_of}
use Rattle.driver_steps.specs.SendLaws.{SendIsDecided, SendsAreDecided, SendsAreGrantedExactly, cut_by_log, idle_by_log, learnt_question, send_question}
use Rattle.learnt_addresses.specs.declared.learnt_address.LearntAddress.{LearntAddress}
use Rattle.driver_steps.proofs.DecisionLemmas.{left_by, log_moves, made_at, stays_left}
use Rattle.driver_steps.proofs.FollowLemmas.{logs_follow}
use Rattle.driver_steps.proofs.FoundLemmas.{found_source}
use Rattle.log_traffic.specs.declared.cutting.DatagramKind.{DatagramKind}
use Rattle.log_traffic.specs.declared.cutting.Pace.{Pace}
use Rattle.log_traffic.specs.Cutting.{after_due, bytes_as, cut_of, datagram_of, due_of}
use Rattle.stream_registry.specs.declared.row.Origin.{Origin}
use Rattle.stream_registry.specs.declared.row.Origin.TheVariants.{Published, Remote}
use Rattle.stream_registry.specs.declared.row.LogRow.{LogRow}
use Rattle.stream_registry.specs.Origins.{is_published, is_published_by, lingering_since}
use Rattle.stream_registry.specs.Places.{is_dynamic, is_udp as is_udp_media}
use Rattle.term_log.specs.declared.ident.Ident.{Ident}
use Rattle.term_log.specs.Ident.{is_udp}
use Rattle.term_log.specs.Whole.{Whole}

-- ---- the log of a publication over datagrams is sent

udp_kind : (media : Media) → is_udp_media media ≡ true → is_udp (kind_over media) ≡ true
udp_kind Udp is = refl
udp_kind Ipc is = absurd (cc is)
udp_kind Counter is = absurd (cc is)

same_ident : (i j : Ident) → for_publication i ≡ for_publication j → i ≡ j
same_ident i j is = cc is

-- it is one of frames that were appended, of that kind
sent_made : (settings : Settings) (log : LogRow) (origin : Origin) (w : AnyWhole) → is_published_by origin ≡ true →
    made_any w ≡ made_by settings log origin → is_udp_media log.channel.media ≡ true →
    (frames : Whole) × (w ≡ whole frames) × (is_udp frames.ident.kind ≡ true)
sent_made settings log (Published exclusive since) (whole frames) published made udp =
    (frames, refl, ap (λ (i : Ident). is_udp i.kind) (same_ident frames.ident (ident_of settings log) made) ∙ udp_kind log.channel.media udp)
sent_made settings log (Published exclusive since) (rebuilt frames) published made udp = absurd (cc made)
sent_made settings log (Remote address initial_term join) w published made udp = absurd (cc published)

-- ---- what the registry says

lets : (s : State) (source : ℕ) (publication : LogRow) → source_at s.streams.sources source ≡ Some publication →
    is_sent publication ≡ true → sending_of s source ≡ Some (is_some (lingering_since publication))
unfolding sending_of
lets s source publication is sends = ap lingers_by is ∙ ap (λ (b : Bool). cond b (Some (is_some (lingering_since publication))) None) sends

goes : (s : State) (source : ℕ) (publication : LogRow) → source_at s.streams.sources source ≡ Some publication →
    (learnt : List LearntAddress) → outlets_of s learnt source ≡ outlets_by s learnt (Some publication)
unfolding outlets_of
goes s source publication is learnt = ap (outlets_by s learnt) is

pub outlets_named : (s : State) (publication : LogRow) (learnt : List LearntAddress) → is_dynamic publication.channel ≡ false →
    outlets_by s learnt (Some publication) ≡ map (outlet_of s publication) (of s.destinations.rows publication.number)
outlets_named s publication learnt by_name =
    ap (λ (b : Bool). cond b (map (learnt_outlet s publication) learnt) (map (outlet_of s publication) (of s.destinations.rows publication.number))) by_name

pub outlets_learnt : (s : State) (publication : LogRow) (learnt : List LearntAddress) → is_dynamic publication.channel ≡ true →
    outlets_by s learnt (Some publication) ≡ map (learnt_outlet s publication) learnt
outlets_learnt s publication learnt dynamic =
    ap (λ (b : Bool). cond b (map (learnt_outlet s publication) learnt) (map (outlet_of s publication) (of s.destinations.rows publication.number))) dynamic

-- ---- the move

-- what the log does, of which all frames are known
abbrev turned : RunEnd → ℕ → Bool → WholeLog → Whole → List Outlet → Move
turned e now lingers log frames outlets = record {
  after = record (expired e.registry.settings now log) { whole = whole (cut_of (pace_of e.registry.settings) now frames) };
  answer = answer_sent outlets (Some (datagram_of (pace_of e.registry.settings) now lingers frames));
}

turn_is : (e : RunEnd) (now : ℕ) (lingers : Bool) (log : WholeLog) (frames : Whole) (outlets : List Outlet) →
    sending_of e.registry log.source ≡ Some lingers → outlets_of e.registry (standing_of e.registry.settings now log) log.source ≡ outlets → log.whole ≡ whole frames →
    is_udp frames.ident.kind ≡ true → send_move e.registry now log ≡ turned e now lingers log frames outlets
unfolding send_move
turn_is e now lingers log frames outlets lets' goes' is udp =
    let pace : Pace = pace_of e.registry.settings in
    let turn : turn_of pace now lingers (whole frames) ≡ Some (datagram_of pace now lingers frames) =
    ap (λ (b : Bool). cond b (Some (datagram_of pace now lingers frames)) None) udp in
    let after : after_turn pace now (whole frames) ≡ whole (cut_of pace now frames) =
    ap (λ (b : Bool). cond b (whole (cut_of pace now frames)) (whole frames)) udp in
    ap (send_by e.registry now log) lets'
    ∙ ap (λ (w : AnyWhole). let m : Move = record {
      after = record (expired e.registry.settings now log) { whole = after_turn pace now w };
      answer = answer_sent (outlets_of e.registry (standing_of e.registry.settings now log) log.source) (turn_of pace now lingers w);
    } in m) is
    ∙ ap (λ (w : AnyWhole). let m : Move = record {
      after = record (expired e.registry.settings now log) { whole = w };
      answer = answer_sent (outlets_of e.registry (standing_of e.registry.settings now log) log.source) (turn_of pace now lingers (whole frames));
    } in m) after
    ∙ ap (λ (t : Option (Option (List ℕ))). let m : Move = record {
      after = record (expired e.registry.settings now log) { whole = whole (cut_of pace now frames) };
      answer = answer_sent (outlets_of e.registry (standing_of e.registry.settings now log) log.source) t;
    } in m) turn
    ∙ ap (λ (o : List Outlet). turned e now lingers log frames o) goes'

-- nothing is due where no datagram is
idle_due : (lingers : Bool) (frames : Whole) (due : Option DatagramKind) → option_map (bytes_as lingers frames) due ≡ None → due ≡ None
idle_due lingers frames None is = refl
idle_due lingers frames (Some kind) is = absurd (cc is)

idle_cut : (pace : Pace) (now : ℕ) (lingers : Bool) (frames : Whole) → datagram_of pace now lingers frames ≡ None → cut_of pace now frames ≡ frames
unfolding datagram_of cut_of
idle_cut pace now lingers frames none = ap (after_due now frames) (idle_due lingers frames (due_of pace now frames) none)

same_log : (log : WholeLog) (frames : Whole) → log.whole ≡ whole frames → record log { whole = whole frames } ≡ log
same_log log frames is = ap (λ (w : AnyWhole). let l : WholeLog = record log { whole = w } in l) (sym is)

turn_idle : (e : RunEnd) (now source : ℕ) (lingers : Bool) (log : WholeLog) (frames : Whole) (outlets : List Outlet) →
    log_at e.logs source ≡ Some log → log.whole ≡ whole frames → datagram_of (pace_of e.registry.settings) now lingers frames ≡ None →
    left_by e source (turned e now lingers log frames outlets) ≡ idle_by_log e now log
turn_idle e now source lingers log frames outlets found is none =
    let pace : Pace = pace_of e.registry.settings in
    ap (λ (w : Whole). left_by e source (record {
      after = record (expired e.registry.settings now log) { whole = whole w };
      answer = answer_sent outlets (Some (datagram_of pace now lingers frames));
    })) (idle_cut pace now lingers frames none)
    ∙ ap (λ (d : Option (List ℕ)). left_by e source (record { after = record (expired e.registry.settings now log) { whole = whole frames }; answer = answer_sent outlets (Some d) })) none
    ∙ ap (λ (l : WholeLog). left_by e source (record { after = l; answer = Idle }))
    (same_log (expired e.registry.settings now log) frames is)
    ∙ ap (λ (n : ℕ). left_by e n (record { after = expired e.registry.settings now log; answer = Idle }))
    (sym (found_source source log e.logs found))

turn_sent : (e : RunEnd) (now source : ℕ) (lingers : Bool) (log : WholeLog) (frames : Whole) (outlets : List Outlet) (bytes : List ℕ) →
    log_at e.logs source ≡ Some log → datagram_of (pace_of e.registry.settings) now lingers frames ≡ Some bytes →
    left_by e source (turned e now lingers log frames outlets) ≡ cut_by_log e now log frames bytes outlets
turn_sent e now source lingers log frames outlets bytes found some =
    let pace : Pace = pace_of e.registry.settings in
    ap (λ (d : Option (List ℕ)). left_by e source (record { after = record (expired e.registry.settings now log) { whole = whole (cut_of pace now frames) }; answer = answer_sent outlets (Some d) })) some
    ∙ ap (λ (n : ℕ). left_by e n (record { after = record (expired e.registry.settings now log) { whole = whole (cut_of pace now frames) }; answer = Sent bytes outlets }))
    (sym (found_source source log e.logs found))

-- ---- the law

send_there : (e : RunEnd) → LogsFollow e → (now source : ℕ) (publication : LogRow) (log : WholeLog) →
    source_at e.registry.streams.sources source ≡ Some publication → is_sent publication ≡ true → log_at e.logs source ≡ Some log →
    (frames : Whole) × (log.whole ≡ whole frames) × SendIsDecided e now publication log frames (moved e (Send now source))
send_there e follows now source publication log is sends found =
    let settings : Settings = e.registry.settings in
    let lingers : Bool = is_some (lingering_since publication) in
    let learnt : List LearntAddress = standing_of settings now log in
    let outlets : List Outlet = outlets_by e.registry learnt (Some publication) in
    let parts = and_parts (is_published publication) (is_udp_media publication.channel.media) sends in
    let made : made_any log.whole ≡ made_of settings publication =
    made_at settings e.logs e.registry.streams.sources source log publication follows.made found is in
    let of' = sent_made settings publication publication.origin log.whole parts.0 made parts.1 in
    let here : log.source ≡ source = found_source source log e.logs found in
    let lets' : sending_of e.registry log.source ≡ Some lingers = ap (sending_of e.registry) here ∙ lets e.registry source publication is sends in
    let goes' : outlets_of e.registry (standing_of e.registry.settings now log) log.source ≡ outlets = ap (outlets_of e.registry learnt) here ∙ goes e.registry source publication is learnt in
    let moves : moved e (Send now source) ≡ left_by e source (turned e now lingers log of'.0 outlets) =
    log_moves e source (send_move e.registry now) Gone log found
    ∙ ap (left_by e source) (turn_is e now lingers log of'.0 outlets lets' goes' of'.1 of'.2) in (
      of'.0,
      of'.1,
      record {
        outlets = outlets;
        named = λ by_name. outlets_named e.registry publication learnt by_name;
        learnt = λ dynamic. outlets_learnt e.registry publication learnt dynamic;
        decided = λ destination. record { to_is = refl; by = by_policy e.registry (send_question publication destination) };
        decided_learnt = λ address. record { to_is = refl; by = by_policy e.registry (learnt_question e.registry publication address) };
        idle = λ none. moves ∙ turn_idle e now source lingers log of'.0 outlets found of'.1 none;
        sent = λ bytes some. moves ∙ turn_sent e now source lingers log of'.0 outlets bytes found some;
      },
    )

send_gone : (e : RunEnd) (now source : ℕ) (o : Option WholeLog) → log_at e.logs source ≡ o → sending_of e.registry source ≡ None →
    moved_on e source (send_move e.registry now) Gone o ≡ stays e Gone
unfolding send_move
send_gone e now source None found none = refl
send_gone e now source (Some log) found none =
    let here : sending_of e.registry log.source ≡ None = ap (sending_of e.registry) (found_source source log e.logs found) ∙ none in
    ap (λ (o : Option Bool). left_by e source (send_by e.registry now log o)) here ∙ stays_left e source log Gone found

sends_decided : (e : RunEnd) → LogsFollow e → SendsAreDecided e
unfolding on_log
sends_decided e follows = record {
  there = send_there e follows;
  gone = λ now source none. send_gone e now source (log_at e.logs source) refl none;
}

pub sends_exactly : SendsAreGrantedExactly
sends_exactly settings policy peers steps answers sound are =
    sends_decided _ (logs_follow settings policy peers steps answers sound are)
