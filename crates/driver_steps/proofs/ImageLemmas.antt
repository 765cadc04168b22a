-- The log of the image that a datagram is for.
use Rattle.std.proofs.Common.{◌≡◌, ℕ, ℤ, ◌==◌, Bool, true, false, cond, List, [], ◌∷◌, map, Option, Some, None, Result, Ok, Err, refl, sym, subst}
use Rattle.std.specs.List.{All}
use Rattle.std.specs.Prelude.{IfSome}
use Rattle.std.proofs.lemmas.Bool.{and_parts, eqb-true}
use Rattle.std.proofs.lemmas.Bool.Decides.{Decides-int_eq}
use Rattle.std.proofs.lemmas.List.Elements.{All-head, All-map, All-tail}
use Rattle.channel_uri.specs.declared.address.Address.{Address}
use Rattle.channel_uri.specs.Address.{is_same}
use Rattle.channel_uri.specs.Channel.{Shape, endpoint_shape}
use Rattle.driver_core.specs.declared.asked.image_request.Astray.{Astray}
use Rattle.driver_core.specs.declared.asked.image_request.Astray.TheVariants.{Stranger}
use Rattle.driver_core.specs.ImageRequests.{image_for, received_by, sent_to}
use Rattle.driver_core.specs.declared.state.settings.Settings.{Settings}
use Rattle.driver_core.specs.State.{State}
use Rattle.driver_steps.specs.OpenLogs.{AreForFirst, HeldLogs, held_at}
use Rattle.log_steps.specs.Held.{HeldLog}
use Rattle.log_steps.specs.Idents.{made_by, made_of}
use Rattle.driver_steps.specs.Standing.{LogPlot, Match, row_for, row_held}
use Rattle.driver_steps.proofs.SourceLemmas.{Found, found_only}
use Rattle.frame_codec.specs.Frame.{Sent}
use Rattle.frame_codec.specs.Sound.{AreOfOneTerm, AreTold}
use Rattle.log_traffic.specs.Held.{AreFor, Made, for_publication, for_stream, made_held}
use Rattle.log_traffic.proofs.ReceivingLemmas.{frames_are}
use Rattle.stream_registry.specs.declared.row.Origin.{Origin}
use Rattle.stream_registry.specs.declared.row.Origin.TheVariants.{Published, Remote}
use Rattle.stream_registry.specs.declared.row.LogRow.{LogRow}
use Rattle.stream_registry.specs.Images.{image_at, is_image_at}
use Rattle.stream_registry.specs.Origins.{address_of}

-- where it is for an image, it is of that session and stream
abbrev pub IsOfStream : ℤ → ℤ → Made → Type 0
IsOfStream session stream (for_publication ident) = Unit {0}
IsOfStream session stream (for_stream ident) = (ident.session_id ≡ session) × (ident.stream_id ≡ stream)

made_of_stream : (settings : Settings) (session stream : ℤ) (log : LogRow) (origin : Origin) → log.session ≡ session →
    log.stream ≡ stream → IsOfStream session stream (made_by settings log origin)
made_of_stream settings session stream log (Published exclusive since) same_session same_stream = tt
made_of_stream settings session stream log (Remote address initial_term join) same_session same_stream =
    (same_session, same_stream)

-- an image that was found is of that stream
found_of_stream : (settings : Settings) (channel : Shape) (session stream : ℤ) (log : LogRow) →
    is_image_at channel session stream log ≡ true → IsOfStream session stream (made_of settings log)
unfolding is_image_at
found_of_stream settings channel session stream log is =
    let first = and_parts _ _ is in
    let second = and_parts _ _ first.0 in
    let third = and_parts _ _ second.0 in
    made_of_stream settings session stream log log.origin ((Decides-int_eq log.session session).0 third.1)
    ((Decides-int_eq log.stream stream).0 second.1)

-- ---- its number

number_sent : (from : Address) (image : LogRow) (publisher : Option Address) (source : ℕ) →
    sent_to from image publisher ≡ Ok source → image.number ≡ source
number_sent from image None source is = absurd (cc is)
number_sent from image (Some publisher) source is = number_by (is_same publisher from) is
  where
    number_by : (b : Bool) → cond {A = Result ℕ Astray} b (Ok image.number) (Err Stranger) ≡ Ok source → image.number ≡ source
    number_by true same = cc same
    number_by false same = absurd (cc same)

-- ---- the log that is held

-- a row of that number is of the stream
abbrev IsRowOf : ℤ → ℤ → ℕ → LogPlot → Type 0
IsRowOf session stream source row = row.source ≡ source → IsOfStream session stream row.made

row_step : (session stream : ℤ) (source : ℕ) (b : Bool) (first : HeldLog) (found : Option HeldLog) →
    (first.source == source) ≡ b → IsRowOf session stream source (row_held first) →
    IfSome found (λ held. IsOfStream session stream (made_held held.log)) →
    IfSome (cond b (Some first) found) (λ held. IsOfStream session stream (made_held held.log))
row_step session stream source true first found same holds rest = holds (eqb-true first.source source same)
row_step session stream source false first found same holds rest = rest

rows_of_stream : (session stream : ℤ) (source : ℕ) (logs : List HeldLog) →
    All (IsRowOf session stream source) (map row_held logs) →
    IfSome (held_at logs source) (λ held. IsOfStream session stream (made_held held.log))
rows_of_stream session stream source [] all = tt
rows_of_stream session stream source (first ∷ logs) all =
    row_step session stream source (first.source == source) first (held_at logs source) refl
    (All-head (IsRowOf session stream source) (row_held first) (map row_held logs) all)
    (rows_of_stream session stream source logs
    (All-tail (IsRowOf session stream source) (row_held first) (map row_held logs) all))

of_stream : (s : State) (held : HeldLogs) (channel : Shape) (session stream : ℤ) (image : LogRow) → Match s held →
    image_at s.streams channel session stream ≡ Some image →
    IfSome (held_at held.logs image.number) (λ one. IsOfStream session stream (made_held one.log))
of_stream s held channel session stream image match is =
    let Q : LogPlot → Type 0 = IsRowOf session stream image.number in
    let R : LogRow → Type 0 = λ log. IsOfStream session stream (made_of s.settings log) in
    let found : Found R 0 s.last_number s.streams.sources image =
    found_only R (is_image_at channel session stream) 0 s.last_number s.streams.sources image
    (found_of_stream s.settings channel session stream) match.sound.numbered is in
    rows_of_stream session stream image.number held.logs
    (subst (All Q) (sym match.rows) (All-map Q (row_for s.settings) s.streams.sources found.only))

-- ---- its frames

frames_for : (made : Made) (frame : Sent) (later : List Sent) →
    IsOfStream frame.header.place.session_id frame.header.place.stream_id made → AreTold (frame ∷ later) →
    AreOfOneTerm (frame ∷ later) → AreFor made (frame ∷ later)
frames_for (for_publication ident) frame later of told one = tt
frames_for (for_stream ident) frame later of told one =
    frames_are ident (frame ∷ later) (record { session = sym of.0; stream = sym of.1 }) told one

if_frames_for : (held : Option HeldLog) (frame : Sent) (later : List Sent) →
    IfSome held (λ one. IsOfStream frame.header.place.session_id frame.header.place.stream_id (made_held one.log)) →
    AreTold (frame ∷ later) → AreOfOneTerm (frame ∷ later) →
    IfSome held (λ one. AreFor (made_held one.log) (frame ∷ later))
if_frames_for None frame later of told one = tt
if_frames_for (Some held) frame later of told one = frames_for (made_held held.log) frame later of told one

first_for : (s : State) (held : HeldLogs) (from : Address) (channel : Shape) (frame : Sent) (later : List Sent) (source : ℕ)
    (found : Option LogRow) → Match s held →
    image_at s.streams channel frame.header.place.session_id frame.header.place.stream_id ≡ found →
    received_by from found ≡ Ok source → AreTold (frame ∷ later) → AreOfOneTerm (frame ∷ later) →
    AreForFirst held.logs source (frame ∷ later)
first_for s held from channel frame later source None match is received told one = absurd (cc received)
first_for s held from channel frame later source (Some image) match is received told one =
    subst (λ n. AreForFirst held.logs n (frame ∷ later)) (number_sent from image (address_of image) source received)
    (if_frames_for (held_at held.logs image.number) frame later
    (of_stream s held channel frame.header.place.session_id frame.header.place.stream_id image match is) told one)

-- the frames may be handed to the log of the image that they are for
pub are_for_first : (s : State) (held : HeldLogs) (local from : Address) (sent later : List Sent) (frame : Sent) (source : ℕ) →
    Match s held → sent ≡ frame ∷ later →
    image_for s local from frame.header.place.session_id frame.header.place.stream_id ≡ Ok source → AreTold sent →
    AreOfOneTerm sent → AreForFirst held.logs source sent
unfolding image_for
are_for_first s held local from sent later frame source match is for told one =
    subst (λ (all : List Sent). AreForFirst held.logs source all) (sym is)
    (first_for s held from (endpoint_shape local) frame later source
    (image_at s.streams (endpoint_shape local) frame.header.place.session_id frame.header.place.stream_id) match refl for
    (subst AreTold is told) (subst AreOfOneTerm is one))
