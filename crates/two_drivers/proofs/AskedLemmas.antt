-- A NAK is answered by a publication over datagrams alone, whichever registry of the past it goes by.
use Rattle.std.proofs.Common.{◌≡◌, ℕ, ℤ, ◌==◌, ◌&&◌, ◌<◌, Bool, true, false, cond, List, [], ◌∷◌, map, find, Option, Some, None, refl, sym, ap, ◌∙◌, subst, arith, ⊎_elim}
use Rattle.std.specs.List.{All, Contains}
use Rattle.std.proofs.lemmas.Bool.{and_parts, eqb-true}
use Rattle.std.proofs.lemmas.List.Elements.{All-head, All-contains_itself, Contains-append_right}
use Rattle.channel_uri.specs.declared.address.Address.{Address}
use Rattle.channel_uri.specs.declared.media.Media.{Media}
use Rattle.channel_uri.specs.declared.media.Media.TheVariants.{Udp, Ipc, Counter}
use Rattle.driver_core.specs.declared.state.event.Event.{Event}
use Rattle.driver_core.specs.declared.state.event.Inputs.{Inputs}
use Rattle.driver_core.specs.declared.asked.log_request.LogRequest.{LogRequest}
use Rattle.driver_core.specs.declared.state.settings.Settings.{Settings}
use Rattle.driver_core.specs.Conduct.{state_of}
use Rattle.driver_core.specs.PublicationRequests.{is_sent_as, publication_at, resending_of, resent_by}
use Rattle.driver_core.specs.State.{State, opened}
use Rattle.driver_laws.specs.NumberLaws.{AreRising}
use Rattle.driver_laws.specs.PublishingLaws.{WasLive}
use Rattle.driver_laws.proofs.NewNumberLemmas.{never_drawn_again}
use Rattle.driver_laws.proofs.NumberLemmas.{numbers_rise}
use Rattle.driver_laws.proofs.RisingLemmas.{between, rises_unique}
use Rattle.driver_steps.specs.Ends.{RunEnd, log_at}
use Rattle.log_steps.specs.Idents.{ident_of, kind_over, made_by, made_of}
use Rattle.driver_steps.specs.Laws.{made_as, made_for}
use Rattle.log_steps.specs.Moves.{WholeLog}
use Rattle.driver_steps.proofs.FollowLemmas.{Follows}
use Rattle.driver_steps.proofs.LiveLemmas.{found_log}
use Rattle.driver_steps.proofs.MatchLemmas.{made_as_log}
use Rattle.log_traffic.specs.Held.{Made, for_publication}
use Rattle.log_traffic.specs.Whole.{AnyWhole, whole, rebuilt, made_for as made_any}
use Rattle.stream_registry.specs.Origins.{is_published_by}
use Rattle.stream_registry.specs.Places.{is_udp as is_over_udp}
use Rattle.stream_registry.specs.declared.row.Origin.{Origin}
use Rattle.stream_registry.specs.declared.row.Origin.TheVariants.{Published, Remote}
use Rattle.stream_registry.specs.declared.row.LogRow.{LogRow}
use Rattle.term_log.specs.declared.ident.Ident.{Ident}
use Rattle.term_log.specs.Frames.{Frame}
use Rattle.term_log.specs.Ident.{is_udp}
use Rattle.term_log.specs.Whole.{Whole}
use Rattle.two_drivers.specs.Drivers.{Opening}
use Rattle.two_drivers.specs.Sent.{IsOnly}
use Rattle.two_drivers.proofs.SentLemmas.{IsAsked, IsOverUdp, OverUdp}

-- ---- what is found

record IsFoundBy (test : LogRow → Bool) (rows : List LogRow) (row : LogRow) : Type 0 where
  has : Contains rows row
  passes : test row ≡ true

found_step : (test : LogRow → Bool) (first row : LogRow) (rows : List LogRow) (b : Bool) → test first ≡ b → cond b (Some first) (find test rows) ≡ Some row →
    (find test rows ≡ Some row → IsFoundBy test rows row) → IsFoundBy test (first ∷ rows) row
found_step test first row rows true passes is rest =
    let same : first ≡ row = cc is in
    subst (IsFoundBy test (first ∷ rows)) same
    (record { has = All-head (Contains (first ∷ rows)) first rows (All-contains_itself (first ∷ rows)); passes = passes })
found_step test first row rows false passes is rest =
    let there = rest is in record { has = Contains-append_right (first ∷ []) rows row there.has; passes = there.passes }

found_by : (test : LogRow → Bool) (row : LogRow) (rows : List LogRow) → find test rows ≡ Some row → IsFoundBy test rows row
found_by test row [] is = absurd (cc is)
found_by test row (first ∷ rows) is = found_step test first row rows (test first) refl is (found_by test row rows)

-- ---- the row of a log

pub record IsRowOf (settings : Settings) (rows : List LogRow) (n : ℕ) (log : WholeLog) : Type 0 where
  pub row : LogRow
  pub has : Contains rows row
  pub number : row.number ≡ n
  pub made : made_any log.whole ≡ made_of settings row

row_step : (settings : Settings) (n : ℕ) (first log : WholeLog) (logs : List WholeLog) (row : LogRow) (rows : List LogRow) (b : Bool) → (first.source == n) ≡ b →
    made_for first ≡ made_as settings row → cond b (Some first) (log_at logs n) ≡ Some log → (log_at logs n ≡ Some log → IsRowOf settings rows n log) →
    IsRowOf settings (row ∷ rows) n log
row_step settings n first log logs row rows true same made is rest =
    let one : first ≡ log = cc is in
    subst (IsRowOf settings (row ∷ rows) n) one
    (record {
      row = row;
      has = All-head (Contains (row ∷ rows)) row rows (All-contains_itself (row ∷ rows));
      number = sym (ap (λ (m : ℕ × Made). m.0) made) ∙ eqb-true first.source n same;
      made = ap (λ (m : ℕ × Made). m.1) made;
    })
row_step settings n first log logs row rows false same made is rest =
    let there = rest is in
    record { row = there.row; has = Contains-append_right (row ∷ []) rows there.row there.has; number = there.number; made = there.made }

pub row_made : (settings : Settings) (n : ℕ) (log : WholeLog) (logs : List WholeLog) (rows : List LogRow) → map made_for logs ≡ map (made_as settings) rows →
    log_at logs n ≡ Some log → IsRowOf settings rows n log
row_made settings n log [] rows same is = absurd (cc is)
row_made settings n log (first ∷ logs) [] same is = absurd (cc same)
row_made settings n log (first ∷ logs) (row ∷ rows) same is =
    let one : made_for first ≡ made_as settings row = cc same in
    let more : map made_for logs ≡ map (made_as settings) rows = cc same in
    row_step settings n first log logs row rows (first.source == n) refl one is (row_made settings n log logs rows more)

-- ---- it is over datagrams

over_kind : (media : Media) → is_over_udp media ≡ true → is_udp (kind_over media) ≡ true
over_kind Udp is = refl
over_kind Ipc is = absurd (cc is)
over_kind Counter is = refl

over_made : (settings : Settings) (row : LogRow) (origin : Origin) (w : Whole) → is_published_by origin ≡ true → is_over_udp row.channel.media ≡ true →
    for_publication w.ident ≡ made_by settings row origin → is_udp w.ident.kind ≡ true
over_made settings row (Published exclusive since) w published over made =
    let same : w.ident ≡ ident_of settings row = cc made in
    ap (λ (i : Ident). is_udp i.kind) same ∙ over_kind row.channel.media over
over_made settings row (Remote address initial_term join) w published over made = absurd (cc published)

sent_parts : (session stream : ℤ) (row : LogRow) → is_sent_as session stream row ≡ true → (is_published_by row.origin ≡ true) × (is_over_udp row.channel.media ≡ true)
sent_parts session stream row is =
    let first = and_parts (is_published_by row.origin && is_over_udp row.channel.media && Rattle.std.specs.Ordering.int_eq row.session session) _ is in
    let second = and_parts (is_published_by row.origin && is_over_udp row.channel.media) _ first.0 in
    and_parts (is_published_by row.origin) (is_over_udp row.channel.media) second.0

-- ---- a registry of the past

-- what was live then is what it was, where its number is of a row that stood then
same_row : (s e : State) (row now : LogRow) → AreRising s → Contains s.streams.sources row → now.number ≡ row.number → (live : WasLive s.streams now) → live.before ≡ row
same_row s e row now rises has number live =
    rises_unique (λ (r : LogRow). r.number) 0 s.last_number s.streams.sources live.before row rises.sources live.stood has
    (ap (λ (r : LogRow). r.number) (sym live.same) ∙ number)

row_udp : (opening : Opening) (events later : List (Event × Inputs)) (e : RunEnd) (session stream : ℤ) (row : LogRow) (log : WholeLog) (w : Whole) → Follows e →
    e.registry ≡ state_of (state_of (opened opening.settings opening.policy opening.peers) events) later →
    Contains (state_of (opened opening.settings opening.policy opening.peers) events).streams.sources row → is_sent_as session stream row ≡ true →
    log_at e.logs row.number ≡ Some log → log.whole ≡ whole w → is_udp w.ident.kind ≡ true
row_udp opening events later e session stream row log w follows leads has sent found whole' =
    let s : State = state_of (opened opening.settings opening.policy opening.peers) events in
    let rises : AreRising s = numbers_rise opening.settings opening.policy opening.peers events in
    let now = row_made e.registry.settings row.number log e.logs e.registry.streams.sources follows.logs.made found in
    let there : Contains (state_of s later).streams.sources now.row = subst (λ (t : State). Contains t.streams.sources now.row) leads now.has in
    let parts = sent_parts session stream row sent in
    ⊎_elim
    (λ (live : WasLive s.streams now.row).
    (let same = same_row s e.registry row now.row rises has now.number live in
    let made : made_of e.registry.settings now.row ≡ made_of e.registry.settings row =
    sym (made_as_log e.registry.settings now.row) ∙ ap (made_of e.registry.settings) live.same ∙ made_as_log e.registry.settings live.before
    ∙ ap (made_of e.registry.settings) same in
    over_made e.registry.settings row row.origin w parts.0 parts.1 (ap made_any (sym whole') ∙ now.made ∙ made)))
    (λ (high : s.last_number < now.row.number).
    (let low = (between (λ (r : LogRow). r.number) 0 s.last_number s.streams.sources row rises.sources has).1 in
    let number = now.number in
    absurd (omega (arith, high, low, number))))
    ((never_drawn_again opening.settings opening.policy opening.peers events later).sources now.row there)

only_asked : (i : Ident) (all : List Frame) (a : AnyWhole) → OverUdp i all a → ((w : Whole) → a ≡ whole w → is_udp w.ident.kind ≡ true) → IsOnly i all a
only_asked i all (whole w) over udp = over (udp w refl)
only_asked i all (rebuilt r) over udp = tt

abbrev source_or : Option LogRequest → ℕ
source_or None = 0
source_or (Some request) = request.source

asked_by : (opening : Opening) (i : Ident) (all : List Frame) (events later : List (Event × Inputs)) (s : State) (e : RunEnd) (from : Address) (session stream : ℤ)
    (request : LogRequest) (log : WholeLog) (o : Option LogRow) → Follows e → All (IsOverUdp i all) e.logs →
    s ≡ state_of (opened opening.settings opening.policy opening.peers) events → e.registry ≡ state_of s later → publication_at s session stream ≡ o →
    resent_by s from o ≡ Some request → log_at e.logs request.source ≡ Some log → IsOnly i all log.whole
asked_by opening i all events later s e from session stream request log None follows over was leads at is found = absurd (cc is)
asked_by opening i all events later s e from session stream request log (Some row) follows over was leads at is found =
    let number : row.number ≡ request.source = ap (λ (o : Option LogRequest). source_or o) is in
    let one = found_by (is_sent_as session stream) row s.streams.sources at in
    let over' = found_log (IsOverUdp i all) request.source log e.logs over found in
    only_asked i all log.whole over'.holds.only
    (λ w whole'.
    row_udp opening events later e session stream row log w follows (leads ∙ ap (λ (t : State). state_of t later) was)
    (subst (λ (t : State). Contains t.streams.sources row) was one.has) one.passes (ap (log_at e.logs) number ∙ found) whole')

-- whatever a NAK asks for by a registry from which the newest came
pub asked : (opening : Opening) (i : Ident) (all : List Frame) (events later : List (Event × Inputs)) (s : State) (e : RunEnd) → Follows e →
    All (IsOverUdp i all) e.logs → s ≡ state_of (opened opening.settings opening.policy opening.peers) events → e.registry ≡ state_of s later →
    IsAsked i all s e
unfolding resending_of
asked opening i all events later s e follows over was leads from session stream request log is found =
    asked_by opening i all events later s e from session stream request log (publication_at s session stream) follows over was leads refl is found
