-- What a turn of the sender cuts, and what a NAK is answered by, are frames of the log that is open.
use Rattle.std.proofs.Common.{◌≡◌, ℕ, ◌==◌, Bool, true, false, cond, List, [], ◌∷◌, Option, Some, None, Ok, refl, sym, ap, subst, ◌∙◌, arith}
use Rattle.std.specs.List.{All}
use Rattle.std.specs.Option.{is_some}
use Rattle.std.proofs.lemmas.Bool.{eq-eqb}
use Rattle.std.proofs.lemmas.List.Elements.{All-contains}
use Rattle.channel_uri.specs.declared.address.Address.{Address}
use Rattle.driver_core.specs.declared.asked.send_request.Outlet.{Outlet}
use Rattle.driver_core.specs.declared.state.settings.Settings.{Settings}
use Rattle.driver_core.specs.PublicationRequests.{publication_at}
use Rattle.driver_core.specs.Renewal.{source_at}
use Rattle.driver_core.specs.SendRequests.{is_sent, lingers_by, sending_of}
use Rattle.driver_core.specs.Soundness.{AreSizes}
use Rattle.driver_core.specs.State.{State}
use Rattle.driver_laws.specs.DatagramLaws.{CarryFramesOfTheLog, DatagramsCarryTheLogsFrames, IsCutOf, IsResentOf, StandsAt}
use Rattle.driver_laws.specs.OlderLaws.{AtEachRegistry, NakIsDecidedBy, NaksAreDecidedBy, SendIsDecidedBy, SendsAreDecidedBy, cut_by_log_seen}
use Rattle.driver_laws.specs.StepActs.{resend_verdict}
use Rattle.driver_laws.specs.Wire.{CarryExactly, frames_named}
use Rattle.driver_laws.proofs.LoggedLemmas.{found_in}
use Rattle.driver_laws.proofs.OlderLemmas.{row_of}
use Rattle.driver_laws.proofs.OlderNakLemmas.{naks_by_any}
use Rattle.driver_laws.proofs.OlderSendLemmas.{sends_by_any}
use Rattle.driver_laws.proofs.WellLemmas.{WellIf, WellLog, ends_well}
use Rattle.driver_laws.proofs.WholeLemmas.{IsWell}
use Rattle.driver_laws.proofs.WireLemmas.{Cuts, datagram_cuts, resends_frames}
use Rattle.driver_laws.proofs.WorldLemmas.{of_worlds}
use Rattle.log_steps.specs.declared.answer.Answer.TheVariants.{Resent, Sent}
use Rattle.driver_steps.specs.declared.step.Step.TheVariants.{Packet, Send}
use Rattle.driver_steps.specs.Ends.{log_at, Moved, moved_by, RunEnd, with_log}
use Rattle.log_steps.specs.Hearing.{answer_asked}
use Rattle.log_steps.specs.Idents.{ident_of, made_by, made_of}
use Rattle.log_steps.specs.Moves.{WholeLog}
use Rattle.log_steps.specs.Sending.{expired, pace_of}
use Rattle.driver_steps.proofs.DecisionLemmas.{made_at}
use Rattle.driver_steps.proofs.FollowLemmas.{Follows, ends_follow}
use Rattle.driver_steps.proofs.FoundLemmas.{found_source}
use Rattle.driver_steps.proofs.LiveLemmas.{found_log}
use Rattle.frame_codec.specs.declared.nak.Nak.{Nak}
use Rattle.frame_codec.specs.Datagram.{nak, packet_of}
use Rattle.log_traffic.specs.Asking.{reply_by}
use Rattle.log_traffic.specs.Held.{for_publication}
use Rattle.log_traffic.specs.Whole.{AnyWhole, whole, made_for as made_any}
use Rattle.log_traffic.specs.Cutting.{cut_of, datagram_of}
use Rattle.log_traffic.specs.Resending.{asking_in, resent_of}
use Rattle.retransmit_gate.specs.declared.answer.Answer.{Answer as Word}
use Rattle.retransmit_gate.specs.declared.answer.Answer.TheVariants as words
use Rattle.retransmit_gate.specs.ResendLaws.{answer_to}
use Rattle.stream_registry.specs.declared.row.Origin.{Origin}
use Rattle.stream_registry.specs.declared.row.Origin.TheVariants.{Published, Remote}
use Rattle.stream_registry.specs.declared.row.LogRow.{LogRow}
use Rattle.stream_registry.specs.Origins.{lingering_since}
use Rattle.term_log.specs.declared.ident.Ident.{Ident}
use Rattle.term_log.specs.Ident.{IsIdent}
use Rattle.term_log.specs.Whole.{Whole}

-- ---- the sizes of a live log are sound

sizes_sound : (settings : Settings) (log : LogRow) → AreSizes log.measures → IsIdent (ident_of settings log)
sizes_sound settings log sizes = record {
  term_low = sizes.term_low;
  term_high = sizes.term_high;
  term_aligned = omega (arith, sizes.term_whole);
  mtu_low = sizes.mtu_low;
  mtu_high = sizes.mtu_high;
  mtu_aligned = sizes.mtu_aligned;
  start_aligned = omega arith;
  start_below = omega (arith, sizes.term_low);
}

same_ident : (i j : Ident) → for_publication i ≡ for_publication j → i ≡ j
same_ident i j is = cc is

made_sound : (settings : Settings) (log : LogRow) (origin : Origin) (w : Whole) → AreSizes log.measures →
    made_any (whole w) ≡ made_by settings log origin → IsIdent w.ident
made_sound settings log (Published exclusive since) w sizes is =
    subst IsIdent (sym (same_ident w.ident (ident_of settings log) is)) (sizes_sound settings log sizes)
made_sound settings log (Remote address initial_term join) w sizes is = absurd (cc is)

live_sound : (e : RunEnd) → Follows e → (source : ℕ) (log : WholeLog) (w : Whole) → log_at e.logs source ≡ Some log →
    log.whole ≡ whole w → IsIdent w.ident
live_sound e follows source log w found is =
    let settings : Settings = e.registry.settings in
    let sources : List LogRow = e.registry.streams.sources in
    let row = row_of settings e.logs sources source log follows.logs.made found in
    let there = found_in (λ (one : LogRow). one.number == source) sources row.0 row.1 in
    let sizes : AreSizes row.0.measures =
    All-contains (λ (one : LogRow). AreSizes one.measures) sources row.0 follows.sound.sizes there.stands in
    let made : made_any log.whole ≡ made_of settings row.0 = made_at settings e.logs sources source log row.0 follows.logs.made found row.1 in
    made_sound settings row.0 row.0.origin w sizes (sym (ap (λ (any : AnyWhole). made_any any) is) ∙ made)

-- the frames of the log are sound too, and its sender stands where one begins
record AreSound (w : Whole) : Type 0 where
  ident : IsIdent w.ident
  well : IsWell w

live_well : (e : RunEnd) → Follows e → All WellLog e.logs → (source : ℕ) (log : WholeLog) (w : Whole) → log_at e.logs source ≡ Some log →
    log.whole ≡ whole w → AreSound w
live_well e follows all source log w found is =
    let sound = live_sound e follows source log w found is in
    let well : WellIf (whole w) = subst WellIf is (found_log WellLog source log e.logs all found).holds in
    record { ident = sound; well = well sound }

-- ---- a turn of the sender

-- the log that is put back is found
put_back : (source : ℕ) (log new : WholeLog) (logs : List WholeLog) → new.source ≡ source → log_at logs source ≡ Some log →
    log_at (with_log logs source new) source ≡ Some new
put_back source log new [] same found = absurd (cc found)
put_back source log new (first ∷ logs) same found =
    elim (first.source == source) as (λ b. (first.source == source) ≡ b → cond b (Some first) (log_at logs source) ≡ Some log →
    log_at (cond b (new ∷ logs) (first ∷ with_log logs source new)) source ≡ Some new) [
      | true ↦ λ here _. rw (eq-eqb new.source source same) refl
      | false ↦ λ other later. rw other (put_back source log new logs same later)
    ]
    refl found

cut_leaves : (s : State) (e : RunEnd) (now source : ℕ) (log : WholeLog) (w : Whole) (lingers : Bool) (bytes : List ℕ) (outlets : List Outlet) →
    log_at e.logs source ≡ Some log →
    (cuts : Cuts w (cut_of (pace_of s.settings) now w) lingers bytes) →
    StandsAt (cut_by_log_seen s e now log w bytes outlets).after source w cuts.to
cut_leaves s e now source log w lingers bytes outlets found cuts =
    let next : Whole = cut_of (pace_of s.settings) now w in
    let new : WholeLog = record (expired s.settings now log) { whole = whole next } in
    let here : log.source ≡ source = found_source source log e.logs found in
    record {
      log = new;
      live = subst (λ (n : ℕ). log_at (with_log e.logs n new) source ≡ Some new) (sym here) (put_back source log new e.logs here found);
      now = next;
      now_is = refl;
      ident = cuts.ident;
      frames = cuts.frames;
      position = cuts.position;
    }

-- the answer says so
same_bytes : (bytes others : List ℕ) (outlets more : List Outlet) → Sent bytes outlets ≡ Sent others more → others ≡ bytes
same_bytes bytes others outlets more is = cc is

cut_sent : (s : State) (e : RunEnd) → Follows e → All WellLog e.logs → (now source : ℕ) (publication : LogRow) (log : WholeLog) (w : Whole)
    (what : Moved) (bytes : List ℕ) (outlets : List Outlet) (o : Option (List ℕ)) →
    sending_of s source ≡ Some (is_some (lingering_since publication)) → log_at e.logs source ≡ Some log → log.whole ≡ whole w →
    datagram_of (pace_of s.settings) now (is_some (lingering_since publication)) w ≡ o →
    SendIsDecidedBy s e now publication log w what → Sent bytes outlets ≡ what.answer → IsCutOf s e what.after source bytes
cut_sent s e follows well now source publication log w what bytes outlets None lingers found is due decided told =
    let answer = ap (λ (m : Moved). m.answer) (decided.idle due) in
    absurd (cc (told ∙ answer))
cut_sent s e follows well now source publication log w what bytes outlets (Some others) lingers found is due decided told =
    let same = decided.sent others due in
    let answer = ap (λ (m : Moved). m.answer) same in
    let own : others ≡ bytes = same_bytes bytes others outlets decided.outlets (told ∙ answer) in
    let cuts =
    datagram_cuts (pace_of s.settings) now (is_some (lingering_since publication)) w others
    (live_well e follows well source log w found is).well.sent due in
    subst (λ (m : Moved). IsCutOf s e m.after source bytes) (sym same)
    (subst (IsCutOf s e (cut_by_log_seen s e now log w others decided.outlets).after source) own (record {
      log = log;
      live = found;
      frames = w;
      frames_are = is;
      lingers = is_some (lingering_since publication);
      lingers_is = lingers;
      to = cuts.to;
      holds = cuts.holds;
      leaves = cut_leaves s e now source log w (is_some (lingering_since publication)) others decided.outlets found cuts;
    }))

cut_there : (s : State) (e : RunEnd) → Follows e → All WellLog e.logs → SendsAreDecidedBy s e → (now source : ℕ) (publication : LogRow)
    (bytes : List ℕ) (outlets : List Outlet) (sends : Bool) (l : Option WholeLog) →
    source_at s.streams.sources source ≡ Some publication → is_sent publication ≡ sends → log_at e.logs source ≡ l →
    Sent bytes outlets ≡ (moved_by s e (Send now source)).answer →
    IsCutOf s e (moved_by s e (Send now source)).after source bytes
unfolding sending_of
cut_there s e follows well decides now source publication bytes outlets false l is sends found told =
    let none : sending_of s source ≡ None =
    ap lingers_by is ∙ ap (λ (b : Bool). cond b (Some (is_some (lingering_since publication))) None) sends in
    let answer = ap (λ (m : Moved). m.answer) (decides.gone now source none) in
    absurd (cc (told ∙ answer))
cut_there s e follows well decides now source publication bytes outlets true None is sends found told =
    let answer = ap (λ (m : Moved). m.answer) (decides.closed now source found) in
    absurd (cc (told ∙ answer))
cut_there s e follows well decides now source publication bytes outlets true (Some log) is sends found told =
    let there = decides.there now source publication log is sends found in
    let lingers : sending_of s source ≡ Some (is_some (lingering_since publication)) =
    ap lingers_by is ∙ ap (λ (b : Bool). cond b (Some (is_some (lingering_since publication))) None) sends in
    cut_sent s e follows well now source publication log there.0 (moved_by s e (Send now source)) bytes outlets _ lingers found there.1 refl
    there.2 told

cut_by : (s : State) (e : RunEnd) → Follows e → All WellLog e.logs → SendsAreDecidedBy s e → (now source : ℕ) (bytes : List ℕ)
    (outlets : List Outlet) (o : Option LogRow) → source_at s.streams.sources source ≡ o →
    Sent bytes outlets ≡ (moved_by s e (Send now source)).answer →
    IsCutOf s e (moved_by s e (Send now source)).after source bytes
unfolding sending_of
cut_by s e follows well decides now source bytes outlets None is told =
    let answer = ap (λ (m : Moved). m.answer) (decides.gone now source (ap lingers_by is)) in
    absurd (cc (told ∙ answer))
cut_by s e follows well decides now source bytes outlets (Some publication) is told =
    cut_there s e follows well decides now source publication bytes outlets (is_sent publication) (log_at e.logs source) is refl refl told

-- ---- a NAK

word_resends : (from to : Address) (fields : Nak) (w : Whole) (word : Word) (datagrams : List (List ℕ)) →
    Resent to datagrams ≡ answer_asked from (Some (reply_by fields w word)) → resent_of w fields ≡ datagrams
word_resends from to fields w words.Empty datagrams is = absurd (cc is)
word_resends from to fields w words.OutOfWindow datagrams is = absurd (cc is)
word_resends from to fields w words.Lingering datagrams is = absurd (cc is)
word_resends from to fields w words.Busy datagrams is = absurd (cc is)
word_resends from to fields w words.Resend datagrams is = cc is

nak_carries : (s : State) (e : RunEnd) (now : ℕ) (from to : Address) (fields : Nak) (publication : LogRow) (log : WholeLog) (w : Whole)
    (what : Moved) (datagrams : List (List ℕ)) (allow : Bool) → AreSound w → (resend_verdict s from publication).allow ≡ allow →
    NakIsDecidedBy s e now from fields publication log w what → Resent to datagrams ≡ what.answer →
    CarryExactly w.ident (frames_named w fields) datagrams
nak_carries s e now from to fields publication log w what datagrams false sound is decided told =
    let answer = ap (λ (m : Moved). m.answer) (decided.denied is) in
    absurd (cc (told ∙ answer))
nak_carries s e now from to fields publication log w what datagrams true sound is decided told =
    let answer = ap (λ (m : Moved). m.answer) (decided.granted is) in
    let own : resent_of w fields ≡ datagrams =
    word_resends from to fields w (answer_to log.recovery.gate (asking_in now w fields)) datagrams (told ∙ answer) in
    subst (CarryExactly w.ident (frames_named w fields)) own
    (resends_frames w fields (record { ident = sound.ident; run = sound.well.run }))

nak_there : (s : State) (e : RunEnd) → Follows e → All WellLog e.logs → NaksAreDecidedBy s e → (now : ℕ) (local from to : Address)
    (bytes : List ℕ) (datagrams : List (List ℕ)) (fields : Nak) (publication : LogRow) (l : Option WholeLog) →
    packet_of bytes ≡ Ok (nak fields) → publication_at s fields.session_id fields.stream_id ≡ Some publication →
    log_at e.logs publication.number ≡ l → Resent to datagrams ≡ (moved_by s e (Packet now local from bytes)).answer →
    IsResentOf s e bytes datagrams
nak_there s e follows well decides now local from to bytes datagrams fields publication None read is found told =
    let answer = ap (λ (m : Moved). m.answer) (decides.closed now local from bytes fields publication read is found) in
    absurd (cc (told ∙ answer))
nak_there s e follows well decides now local from to bytes datagrams fields publication (Some log) read is found told =
    let there = decides.there now local from bytes fields publication log read is found in
    let sound = live_well e follows well publication.number log there.0 found there.1 in
    record {
      fields = fields;
      read = read;
      publication = publication;
      publication_is = is;
      log = log;
      live = found;
      frames = there.0;
      frames_are = there.1;
      carry = nak_carries s e now from to fields publication log there.0 (moved_by s e (Packet now local from bytes)) datagrams
          (resend_verdict s from publication).allow sound refl there.2 told;
    }

nak_by : (s : State) (e : RunEnd) → Follows e → All WellLog e.logs → NaksAreDecidedBy s e → (now : ℕ) (local from to : Address)
    (bytes : List ℕ) (datagrams : List (List ℕ)) (fields : Nak) (o : Option LogRow) →
    packet_of bytes ≡ Ok (nak fields) → publication_at s fields.session_id fields.stream_id ≡ o →
    Resent to datagrams ≡ (moved_by s e (Packet now local from bytes)).answer → IsResentOf s e bytes datagrams
nak_by s e follows well decides now local from to bytes datagrams fields None read is told =
    let answer = ap (λ (m : Moved). m.answer) (decides.nobody now local from bytes fields read is) in
    absurd (cc (told ∙ answer))
nak_by s e follows well decides now local from to bytes datagrams fields (Some publication) read is told =
    nak_there s e follows well decides now local from to bytes datagrams fields publication (log_at e.logs publication.number) read is refl told

-- ---- the law

carry_by : (s : State) (e : RunEnd) → Follows e → All WellLog e.logs → SendsAreDecidedBy s e → NaksAreDecidedBy s e → CarryFramesOfTheLog s e
carry_by s e follows well sends naks = record {
  cut = λ now source bytes outlets told.
      cut_by s e follows well sends now source bytes outlets (source_at s.streams.sources source) refl told;
  resent = λ now local from to bytes datagrams told.
      (let nak' = naks.only now local from to bytes datagrams told in
      nak_by s e follows well naks now local from to bytes datagrams nak'.0
      (publication_at s nak'.0.session_id nak'.0.stream_id) nak'.1 refl told);
}

carried_by_any : AtEachRegistry CarryFramesOfTheLog
carried_by_any settings policy peers readings answers k sound are =
    carry_by _ _ (ends_follow settings policy peers readings answers sound are) (ends_well settings policy peers readings answers)
    (sends_by_any settings policy peers readings answers k sound are) (naks_by_any settings policy peers readings answers k sound are)

pub datagrams_carry : DatagramsCarryTheLogsFrames
datagrams_carry = record { of_drivers = carried_by_any; of_worlds = of_worlds CarryFramesOfTheLog carried_by_any }
