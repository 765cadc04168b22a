-- Images of a publication's session and stream have its first term and term length.
use Rattle.std.proofs.Common.{◌≡◌, ℕ, pos, Bool, true, false, cond, List, [], ◌∷◌, map, Option, Some, None, Result, Ok, Err, refl, sym, ap, ◌∙◌, subst, ⊎_elim}
use Rattle.std.specs.List.{All, Contains}
use Rattle.std.specs.Prelude.{nat_le}
use Rattle.std.specs.Int.{is_power_of_two}
use Rattle.std.proofs.lemmas.Bool.{cond_both}
use Rattle.std.proofs.lemmas.List.Elements.{All-nil, All-cons, All-head, All-map, All-tail, All-weaker, All-contains_itself}
use Rattle.log_traffic.specs.Held.{Made, for_publication, for_stream}
use Rattle.log_traffic.specs.Whole.{AnyWhole, whole, rebuilt, made_for as made_any}
use Rattle.channel_uri.specs.declared.address.Address.{Address}
use Rattle.driver_core.specs.declared.state.event.Event.{Event}
use Rattle.driver_core.specs.declared.state.event.Inputs.{Inputs}
use Rattle.driver_core.specs.declared.state.peer.Peer.{Peer}
use Rattle.driver_core.specs.declared.state.settings.Settings.{Settings}
use Rattle.driver_core.specs.Conduct.{coming_to, state_after, state_of}
use Rattle.driver_core.specs.State.{State, opened, ruled}
use Rattle.driver_core.proofs.ListLemmas.{contains_none}
use Rattle.driver_laws.specs.PublishingLaws.{IsImageMadeBy, IsLogMadeBy, WasLive}
use Rattle.driver_laws.proofs.PublishingOnlyLemmas.{published_only}
use Rattle.log_steps.specs.declared.answer.Answer.{Answer}
use Rattle.driver_steps.specs.declared.step.Step.{Step}
use Rattle.driver_steps.specs.declared.step.Step.TheVariants.{Conductor, Packet, Offer as Offers, Poll as Polls, Image, List as Lists, Send, Value}
use Rattle.driver_steps.specs.Ends.{RunEnd, opening_end}
use Rattle.log_steps.specs.Idents.{made_of}
use Rattle.driver_steps.specs.Laws.{event_in, event_of, made_as, made_for}
use Rattle.log_steps.specs.Moves.{WholeLog}
use Rattle.driver_steps.specs.Runs.{Reading, end_of, left_by, moved_to, read_by}
use Rattle.driver_steps.proofs.EndLemmas.{after_both, moved_takes}
use Rattle.driver_steps.proofs.FollowLemmas.{Follows, ends_follow}
use Rattle.driver_steps.proofs.MatchLemmas.{made_as_log}
use Rattle.frame_codec.specs.declared.fault.BadPacket.{BadPacket}
use Rattle.frame_codec.specs.declared.join.Join.{Join}
use Rattle.frame_codec.specs.declared.setup.Setup.{Setup}
use Rattle.frame_codec.specs.Datagram.{Content, frames, beat, nak, status, setup, packet_of}
use Rattle.frame_codec.specs.Join.{◌>>?◌, is_offset, is_recent, join_of, mtu_of, term_length_of}
use Rattle.frame_codec.specs.Position.{position_of}
use Rattle.image_log.specs.Frame.{Frame as Kept}
use Rattle.image_log.specs.declared.ident.Ident.{Ident as StreamIdent}
use Rattle.two_drivers.specs.Line.{stream_of}
use Rattle.policy_core.specs.RuleList.{Rules}
use Rattle.stream_registry.specs.declared.row.LogRow.{LogRow}
use Rattle.term_log.specs.declared.ident.Ident.{Ident}
use Rattle.two_drivers.specs.Streams.{ImagesAreOfTheStream, IsNamed}
use Rattle.two_drivers.specs.Given.{AreGood, IsGood, IsGoodEvent, IsGoodSetup, IsGoodStep}

-- ---- what a log is made for

abbrev IsNamedMade : Ident → Made → Type 0
IsNamedMade i (for_publication ident) = Unit {0}
IsNamedMade i (for_stream ident) = ident.session_id ≡ i.session → ident.stream_id ≡ i.stream → ident ≡ stream_of i

-- of each row
abbrev AreNamed : Ident → State → Type 0
AreNamed i s = (settings : Settings) (row : LogRow) → Contains s.streams.sources row → IsNamedMade i (made_of settings row)

-- ---- a SETUP

pub record IsBound {A B : Type 0} (o : Option A) (f : A → Option B) (y : B) : Type 0 where
  pub x : A
  pub is : o ≡ Some x
  pub then' : f x ≡ Some y

bound : {A B : Type 0} (o : Option A) (f : A → Option B) (y : B) → (o >>? f) ≡ Some y → IsBound o f y
bound None f y is = absurd (cc is)
bound (Some x) f y is = record { x = x; is = refl; then' = is }

same_size : (n size : ℕ) → term_length_of (pos n) ≡ Some size → size ≡ n
unfolding term_length_of
same_size n size =
    let P : Option ℕ → Type 0 = λ o. o ≡ Some size → size ≡ n in
    cond_both (nat_le 65536 n) _ _ P
    (λ _. cond_both (nat_le n 16777216) _ _ P
    (λ _. cond_both (is_power_of_two n) (Some n) None P (λ _ is. cc (sym is)) (λ _ is. absurd (cc is)))
    (λ _ is. absurd (cc is)))
    (λ _ is. absurd (cc is))

joined_size : (a b : Bool) (join made : Join) → cond a (cond b (Some made) None) None ≡ Some join → join ≡ made
joined_size true true join made is = cc (sym is)
joined_size true false join made is = absurd (cc is)
joined_size false b join made is = absurd (cc is)

-- an image's terms are as long as its SETUP says
join_size : (fields : Setup) (join : Join) (n : ℕ) → join_of fields ≡ Some join → fields.term_length ≡ pos n → join.term_length ≡ n
unfolding join_of
join_size fields join n is says =
    let sized = bound (term_length_of fields.term_length) _ join is in
    let cut = bound (mtu_of fields.mtu) _ join sized.then' in
    let made : Join = record {
      position = position_of fields.initial_term_id fields.active_term_id fields.term_offset sized.x;
      term_length = sized.x;
      mtu = cut.x;
    } in
    let same : join ≡ made = joined_size (is_offset fields.term_offset sized.x) (is_recent fields) join made cut.then' in
    let size : sized.x ≡ n = same_size n sized.x (ap term_length_of (sym says) ∙ sized.is) in
    ap (λ (j : Join). j.term_length) same ∙ size

-- ---- rows

stream_is : (i : Ident) (ident : StreamIdent) → ident.session_id ≡ i.session → ident.stream_id ≡ i.stream →
    ident.initial_term_id ≡ i.initial_term → ident.term_length ≡ i.term_length → ident ≡ stream_of i
stream_is i ident session stream initial size = rw (← session, ← stream, ← initial, ← size) refl

live_named : (i : Ident) (s : State) (settings : Settings) (row : LogRow) → AreNamed i s → WasLive s.streams row → IsNamedMade i (made_of settings row)
live_named i s settings row named live =
    let same : made_of settings live.before ≡ made_of settings row =
    sym (made_as_log settings live.before) ∙ ap (made_of settings) (sym live.same) ∙ made_as_log settings row in
    subst (IsNamedMade i) same (named settings live.before live.stood)

log_named : (i : Ident) (s : State) (event : Event) (settings : Settings) (row : LogRow) → IsLogMadeBy s event row → IsNamedMade i (made_of settings row)
log_named i s event settings row made = subst (λ (r : LogRow). IsNamedMade i (made_of settings r)) (sym made.made_is) tt

image_named : (i : Ident) (s : State) (event : Event) (settings : Settings) (row : LogRow) → IsGoodEvent i event → IsImageMadeBy s event row →
    IsNamedMade i (made_of settings row)
image_named i s event settings row good made =
    let fine : IsGoodSetup i made.setup = subst (IsGoodEvent i) made.event_is good in
    subst (λ (r : LogRow). IsNamedMade i (made_of settings r)) (sym made.log_is)
    (λ session stream.
    (let of = fine session stream in
    stream_is i _ session stream of.initial_term (join_size made.setup made.join i.term_length made.join_is of.term_length)))

event_named : (i : Ident) (s : State) (event : Event) (inputs : Inputs) → IsGoodEvent i event → AreNamed i s → AreNamed i (state_after s event inputs)
unfolding ruled
event_named i s event inputs good named settings row has =
    let at : State = coming_to s event in
    ⊎_elim (λ (live : WasLive s.streams row). live_named i s settings row named live)
    (λ made.
    ⊎_elim (λ (log : IsLogMadeBy at event row). log_named i at event settings row log)
    (λ (image : IsImageMadeBy at event row). image_named i at event settings row good image) made)
    ((published_only s event inputs).logs row has)

-- ---- runs

abbrev AreGoodEvents : Ident → List (Event × Inputs) → Type 0
AreGoodEvents i [] = Unit {0}
AreGoodEvents i (one ∷ more) = IsGoodEvent i one.0 × AreGoodEvents i more

events_named : (i : Ident) (s : State) (events : List (Event × Inputs)) → AreGoodEvents i events → AreNamed i s → AreNamed i (state_of s events)
events_named i s [] good named = named
events_named i s (one ∷ more) good named =
    events_named i (state_after s one.0 one.1) more good.1 (event_named i s one.0 one.1 good.0 named)

read_good : (i : Ident) (line : List Kept) (e : RunEnd) (now : ℕ) (local from : Address) (bytes : List ℕ) (read : Result Content BadPacket) →
    packet_of bytes ≡ read → IsGood i line bytes → AreGoodEvents i (event_in e now local from read)
read_good i line e now local from bytes (Err fault) is good = tt
read_good i line e now local from bytes (Ok (frames sent)) is good = tt
read_good i line e now local from bytes (Ok (beat header)) is good = tt
read_good i line e now local from bytes (Ok (setup fields)) is good = (good.setup fields is, tt)
read_good i line e now local from bytes (Ok (nak fields)) is good = tt
read_good i line e now local from bytes (Ok (status fields)) is good = tt

step_good : (i : Ident) (line : List Kept) (e : RunEnd) (step : Step) → IsGoodStep i line step → AreGoodEvents i (event_of e step)
step_good i line e (Conductor event) good = (good, tt)
step_good i line e (Packet now local from bytes) good = read_good i line e now local from bytes (packet_of bytes) refl good
step_good i line e (Offers now client registration message) good = tt
step_good i line e (Polls now client subscription source limit) good = tt
step_good i line e (Send now source) good = tt
step_good i line e (Image now source) good = tt
step_good i line e (Lists now client) good = tt
step_good i line e (Value now client number) good = tt

left_named : (i : Ident) (line : List Kept) (e : RunEnd) (reading : Reading) (answer : Answer) → IsGoodStep i line reading.step →
    AreNamed i e.registry → AreNamed i (left_by e reading answer).registry
left_named i line e reading answer good named =
    after_both (λ end. AreNamed i end.registry) e (moved_to e reading) answer named
    (subst (AreNamed i) (sym (moved_takes (read_by e reading.older) e reading.step))
    (events_named i e.registry (event_of e reading.step) (step_good i line e reading.step good) named))

run_named : (i : Ident) (line : List Kept) (e : RunEnd) (readings : List Reading) (answers : List Answer) → AreGood i line readings →
    AreNamed i e.registry → AreNamed i (end_of e readings answers).registry
run_named i line e [] answers good named = named
run_named i line e (reading ∷ readings) [] good named = named
run_named i line e (reading ∷ readings) (answer ∷ answers) good named =
    run_named i line (left_by e reading answer) readings answers good.1 (left_named i line e reading answer good.0 named)

opening_named : (i : Ident) (settings : Settings) (policy : Rules) (peers : List Peer) → AreNamed i (opening_end settings policy peers).registry
unfolding opening_end opened
opening_named i settings policy peers others row has = absurd (contains_none row has)

-- ---- logs

unmapped : {X Y : Type 0} (P : Y → Type 0) (f : X → Y) (xs : List X) → All P (map f xs) → All (λ x. P (f x)) xs
unmapped P f [] all = All-nil (λ x. P (f x))
unmapped P f (x ∷ xs) all =
    All-cons (λ x. P (f x)) x xs (All-head P (f x) (map f xs) all) (unmapped P f xs (All-tail P (f x) (map f xs) all))

whole_named : (i : Ident) (w : AnyWhole) → IsNamedMade i (made_any w) → IsNamed i w
whole_named i (whole w) named = tt
whole_named i (rebuilt r) named = named

pub logs_named : (i : Ident) (e : RunEnd) → Follows e → AreNamed i e.registry → All (λ (log : WholeLog). IsNamed i log.whole) e.logs
logs_named i e follows named =
    let Q : ℕ × Made → Type 0 = λ made. IsNamedMade i made.1 in
    let s : State = e.registry in
    let rows : All Q (map (made_as s.settings) s.streams.sources) =
    All-map Q (made_as s.settings) s.streams.sources
    (All-weaker (Contains s.streams.sources) (λ row. Q (made_as s.settings row)) (λ row has. named s.settings row has) s.streams.sources
    (All-contains_itself s.streams.sources)) in
    All-weaker (λ (log : WholeLog). Q (made_for log)) (λ (log : WholeLog). IsNamed i log.whole) (λ log is. whole_named i log.whole is) e.logs
    (unmapped Q made_for e.logs (subst (All Q) (sym follows.logs.made) rows))

pub images_named : ImagesAreOfTheStream
images_named i line settings policy peers readings answers sound good are =
    let first : RunEnd = opening_end settings policy peers in
    logs_named i (end_of first readings answers) (ends_follow settings policy peers readings answers sound are)
    (run_named i line first readings answers good (opening_named i settings policy peers))
