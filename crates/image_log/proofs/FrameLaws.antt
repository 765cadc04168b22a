-- Frames that were read may be handed in, and what polls give are frames.
use Rattle.std.proofs.Common.{◌≡◌, ℕ, ℤ, ◌-◌, Bool, eqb, List, [], ◌∷◌, Option, None, Some, refl, sym, ap, ap₂, ◌∙◌}
use Rattle.std.specs.Prelude.{filter, map}
use Rattle.frame_codec.specs.declared.header.Header.{Header}
use Rattle.frame_codec.specs.Frame.{Sent}
use Rattle.frame_codec.specs.Header.{header_of}
use Rattle.frame_codec.specs.Position.{position_of as position_at}
use Rattle.frame_codec.specs.Sound.{IsTold}
use Rattle.image_log.specs.Frame.{Frame}
use Rattle.image_log.specs.Handed.{IsFor, position_in}
use Rattle.image_log.specs.PollLaws.{AreFragmentsOf, IsFragmentOf, PollsGiveFrames}
use Rattle.image_log.specs.Polling.{fetched, polled, polled_frame, polled_from}
use Rattle.image_log.specs.Reading.{is_pad}
use Rattle.image_log.specs.Rebuilt.{Rebuilt}
use Rattle.image_log.specs.declared.ident.Ident.{Ident}
use Rattle.log_pairs.specs.Pairs.{position_of}
use Rattle.log_pairs.specs.Polling.{Fetched, fragments_of, passed}
use Rattle.image_log.proofs.Tests.{by_test}

pub handed : (ident : Ident) (frame : Sent) → IsTold frame → frame.header.place.session_id ≡ ident.session_id → frame.header.place.stream_id ≡ ident.stream_id
    → IsFor ident (position_in ident frame.header.place) frame.bytes
unfolding header_of
handed ident frame told session stream =
    let h = told.header in
    record {
      sound = told.sound;
      session = sym (ap (λ (x : Header). x.place.session_id) h) ∙ session;
      stream = sym (ap (λ (x : Header). x.place.stream_id) h) ∙ stream;
      at = ap₂ (λ (t : ℤ) (o : ℕ). position_at ident.initial_term_id t o ident.term_length) (ap (λ (x : Header). x.place.term_id) h) (ap (λ (x : Header). x.place.term_offset) h);
    }

-- ---- polls

more_one : (g : Frame) (fs : List Frame) (f : Fetched) → IsFragmentOf fs f → IsFragmentOf (g ∷ fs) f
more_one g fs f x = record {
  before = g ∷ x.before;
  frame = x.frame;
  after = x.after;
  is = ap (λ (l : List Frame). g ∷ l) x.is;
  fragment = x.fragment;
  given = x.given;
}

more_all : (g : Frame) (fs : List Frame) (given : List Fetched) → AreFragmentsOf fs given → AreFragmentsOf (g ∷ fs) given
more_all g fs [] are = tt
more_all g fs (f ∷ given) are = (more_one g fs f are.0, more_all g fs given are.1)

fragments_are : (u : Frame → Bool) (limit : ℕ) (fs : List Frame) → AreFragmentsOf fs (fragments_of (passed limit (map polled_frame (filter u fs))))
fragments_are u limit [] = tt
fragments_are u limit (f ∷ fs) =
    let rest : (n : ℕ) → AreFragmentsOf (f ∷ fs) (fragments_of (passed n (map polled_frame (filter u fs)))) = λ n. more_all f fs (fragments_of (passed n (map polled_frame (filter u fs)))) (fragments_are u n fs) in
    by_test (u f)
    (λ e. by_test (eqb limit 0)
    (λ z. rw (e, z) tt)
    (λ z. by_test (is_pad f)
    (λ t. rw (e, z, t) (rest (limit - 0)))
    (λ t.
    let first : IsFragmentOf (f ∷ fs) (fetched f) = record { before = []; frame = f; after = fs; is = refl; fragment = t; given = refl } in
    rw (e, z, t) (first, rest (limit - 1)))))
    (λ e. rw e (rest limit))

polls_by : (r : Rebuilt) (subscription limit : ℕ) (at : Option ℕ) → AreFragmentsOf r.frames (polled_from r subscription limit at).fragments
polls_by r subscription limit None = tt
polls_by r subscription limit (Some p) = fragments_are _ limit r.frames

pub polls_give : PollsGiveFrames
unfolding polled
polls_give = λ r subscription limit. polls_by r subscription limit (position_of r.pairs subscription)
