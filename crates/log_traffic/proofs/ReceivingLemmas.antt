-- Frames of a datagram that a log is given.
use Rattle.std.proofs.Common.{◌≡◌, ℕ, ◌+◌, ◌≤◌, List, [], ◌∷◌, ◌++◌, length, refl, sym, subst, ◌∙◌, append_assoc, length-append, arith}
use Rattle.frame_codec.specs.declared.header.TermPlace.{TermPlace}
use Rattle.frame_codec.specs.Frame.{Sent}
use Rattle.frame_codec.specs.Sound.{AreBeside, AreOfOneTerm, AreTold}
use Rattle.image_log.specs.Log.{Log}
use Rattle.image_log.specs.Rebuilt.{Rebuilt, after_insert}
use Rattle.image_log.specs.Stored.{Held}
use Rattle.image_log.specs.declared.ident.Ident.{Ident}
use Rattle.image_log.specs.declared.insert.Insert.{Insert}
use Rattle.log_traffic.specs.Receiving.{AreOf, BeginsIn, IsIn, after_frame, after_frames, word_of, words_of}

-- a frame changes no stream
pub ident_stays : (r : Rebuilt) (frame : Sent) → (after_frame r frame).ident ≡ r.ident
unfolding after_frame after_insert
ident_stays r frame = refl

beside_are : (ident : Ident) (place : TermPlace) (frames : List Sent) → IsIn ident place → AreTold frames → AreBeside place frames → AreOf ident frames
beside_are ident place [] here told beside = tt
beside_are ident place (frame ∷ later) here told beside =
    let one : IsIn ident frame.header.place = record { session = beside.0.session_id ∙ here.session; stream = beside.0.stream_id ∙ here.stream } in
    (told.0, one, beside_are ident place later here told.1 beside.1)

pub frames_are : (ident : Ident) (frames : List Sent) → BeginsIn ident frames → AreTold frames → AreOfOneTerm frames → AreOf ident frames
frames_are ident [] begins told one = tt
frames_are ident (frame ∷ later) begins told one =
    (told.0, begins, beside_are ident frame.header.place later begins told.1 one)

-- what holds while frames are handed in: the words so far, and then those for the frames that are still to come
abbrev pub IsHanding : Log → List Sent → List Insert → ℕ → List Insert → Rebuilt → Held → List ℕ → Type 0
IsHanding log left words room all end held beside =
    (words ++ words_of log.rebuilt left ≡ all)
    × (after_frames log.rebuilt left ≡ end)
    × (log.held ≡ held)
    × AreOf log.rebuilt.ident left
    × (length words + length left ≤ room)
    × (log.beside ≡ beside)

pub one_more : (log : Log) (frame : Sent) (left : List Sent) (words : List Insert) (room : ℕ) (all : List Insert) (end : Rebuilt) (held : Held) (beside : List ℕ)
    → IsHanding log (frame ∷ left) words room all end held beside
    → IsHanding (record log { rebuilt = after_frame log.rebuilt frame }) left (words ++ word_of log.rebuilt frame ∷ []) room all end held beside
one_more log frame left words room all end held beside is =
    let one : length (words ++ word_of log.rebuilt frame ∷ []) ≡ length words + 1 = length-append words (word_of log.rebuilt frame ∷ []) in
    let count = is.4 in (
      append_assoc words (word_of log.rebuilt frame ∷ []) (words_of (after_frame log.rebuilt frame) left) ∙ is.0,
      is.1,
      is.2,
      subst (λ (ident : Ident). AreOf ident left) (sym (ident_stays log.rebuilt frame)) is.3.2,
      omega (arith, one, count),
      is.5,
    )
