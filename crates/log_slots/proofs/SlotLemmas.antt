-- What a step on the log that is open makes of its slot.
use Rattle.std.proofs.Common.{◌≡◌, ℕ, ℤ, Bool, true, false, ◌&&◌, List, [], ◌∷◌, Result, Ok, Err, IfOk, OnErr, refl, sym, ap, subst, ◌∙◌}
use Rattle.std.specs.Ordering.{int_eq}
use Rattle.std.proofs.lemmas.Bool.Decides.{Decides-int_eq}
use Rattle.log_steps.specs.Held.{HeldLog, LiesAsBefore}
use Rattle.log_steps.specs.Packets.{IsFor, IsSoundContent}
use Rattle.frame_codec.specs.Datagram.{Content, frames, beat, nak, status, setup}
use Rattle.frame_codec.specs.Frame.{Sent}
use Rattle.log_arena.specs.Homes.{Home}
use Rattle.log_slots.specs.Slots.{IsMadeFor, IsOwn, is_of}
use Rattle.log_traffic.specs.Held.{Made, for_publication, for_stream}
use Rattle.log_traffic.proofs.ReceivingLemmas.{frames_are}

-- it is the slot's still
pub own_moved : (home : Home) (source : ℕ) (session stream : ℤ) (old new : HeldLog) → LiesAsBefore old new → IsOwn home source session stream old →
    IsOwn home source session stream new
own_moved home source session stream old new lies own = record {
  source_is = ap (λ p. p.source) lies.plot_is ∙ own.source_is;
  made_is = subst (λ (made : Made). IsMadeFor session stream made) (sym lies.made_is) own.made_is;
  home_is = ap (λ p. p.home) lies.plot_is ∙ own.home_is;
}

-- what holds of each answer holds where there is one; and where there is none, nothing was changed
pub each_ok : {T E : Type 0} (P Q : T → Type 0) → ((x : T) → P x → Q x) → (r : Result T E) → IfOk r P → IfOk r Q
each_ok P Q f (Ok x) p = f x p
each_ok P Q f (Err e) p = p

pub each_err : {T E : Type 0} (A B : Type 0) → (A → B) → (r : Result T E) → OnErr r A → OnErr r B
each_err A B f (Ok x) a = a
each_err A B f (Err e) a = f a

pub either_way : {T E : Type 0} (P : T → Type 0) (A B : Type 0) → ((x : T) → P x → B) → (A → B) → (r : Result T E) → IfOk r P → OnErr r A → B
either_way P A B f g (Ok x) p a = f x p
either_way P A B f g (Err e) p a = g a

-- ---- a datagram

both_true : (a b : Bool) → (a && b) ≡ true → (a ≡ true) × (b ≡ true)
both_true true b is = (refl, is)
both_true false b is = absurd (cc is)

frames_for : (made : Made) (session stream : ℤ) (frame : Sent) (later : List Sent) → IsMadeFor session stream made →
    IsSoundContent (frames (frame ∷ later)) → frame.header.place.session_id ≡ session → frame.header.place.stream_id ≡ stream →
    IsFor made (frames (frame ∷ later))
frames_for (for_publication ident) session stream frame later for sound one two = tt
frames_for (for_stream ident) session stream frame later for sound one two =
    frames_are ident (frame ∷ later) (record { session = one ∙ sym for.0; stream = two ∙ sym for.1 }) sound.0 sound.1

-- frames of the log's session and stream may be handed to it
pub is_for : (made : Made) (session stream : ℤ) (content : Content) → IsMadeFor session stream made → IsSoundContent content →
    is_of session stream content ≡ true → IsFor made content
is_for made session stream (frames []) for sound of = absurd (cc of)
is_for made session stream (frames (frame ∷ later)) for sound of =
    let both = both_true (int_eq frame.header.place.session_id session) (int_eq frame.header.place.stream_id stream) of in
    frames_for made session stream frame later for sound ((Decides-int_eq frame.header.place.session_id session).0 both.0)
    ((Decides-int_eq frame.header.place.stream_id stream).0 both.1)
is_for made session stream (beat header) for sound of = tt
is_for made session stream (nak fields) for sound of = tt
is_for made session stream (status fields) for sound of = tt
is_for made session stream (setup fields) for sound of = tt
