-- What holds of whole logs and of what polls give of them.
use Rattle.std.proofs.Common.{◌≡◌, ℕ, ◌+◌, List, [], ◌∷◌, ◌++◌, Option, Some, None, refl, sym, ap, ◌∙◌, subst, arith, append_assoc}
use Rattle.log_pairs.specs.Pairs.{position_of}
use Rattle.log_pairs.specs.Polling.{Polled, fragments_of}
use Rattle.term_log.specs.Frames.{Frame, fragment, pad, span, total}
use Rattle.term_log.specs.Log.{Log}
use Rattle.term_log.specs.Polling.{polled_run}
use Rattle.term_log.specs.Whole.{Whole, frames_behind, Poll, polled_from, Stands}
use Rattle.term_log.specs.PollLaws.{AreFragmentsOf, PollsGiveFrames}
use Rattle.term_log.proofs.Cuts.{total-append}
use Rattle.term_log.proofs.Polls.{taken}
use Rattle.term_log.proofs.Standing.{reads_from, polled_is}

-- ---- each fragment that a poll gives is a frame of the log

pub fragments_are : (w : Whole) (at : ℕ) (before fs rest : List Frame) → w.frames ≡ before ++ (fs ++ rest)
    → at ≡ w.ident.start + total before → AreFragmentsOf w (fragments_of (polled_run at fs))
fragments_are w at before [] rest is place = tt
fragments_are w at before (fragment flags payload ∷ fs) rest is place =
    let f : Frame = fragment flags payload in
    let next : w.frames ≡ (before ++ f ∷ []) ++ (fs ++ rest) = is ∙ sym (append_assoc before (f ∷ []) (fs ++ rest)) in
    let sum = total-append before f in
    let end : at + span f ≡ w.ident.start + total before + span f = omega (arith, place) in (
      record { before = before; after = fs ++ rest; is = is; place = end },
      fragments_are w (at + span f) (before ++ f ∷ []) fs rest next (omega (arith, place, sum)),
    )
fragments_are w at before (pad size ∷ fs) rest is place =
    let f : Frame = pad size in
    let next : w.frames ≡ (before ++ f ∷ []) ++ (fs ++ rest) = is ∙ sym (append_assoc before (f ∷ []) (fs ++ rest)) in
    let sum = total-append before f in
    fragments_are w (at + size) (before ++ f ∷ []) fs rest next (omega (arith, place, sum))

polled_by : (l : Log) (w : Whole) (subscription limit : ℕ) (o : Option ℕ) → Stands l w → position_of l.pairs subscription ≡ o
    → AreFragmentsOf w (polled_from w subscription limit o).fragments
polled_by l w subscription limit None s is = tt
polled_by l w subscription limit (Some at) s is =
    let from = reads_from l w subscription at s is in
    let behind : List Frame = frames_behind at w.ident.start w.frames in
    let t = taken at limit behind in
    let split : w.frames ≡ from.before ++ (t.front ++ t.rest) = from.whole ∙ ap (λ (fs : List Frame). from.before ++ fs) (sym from.behind ∙ t.is) in
    subst (λ (fs : List Polled). AreFragmentsOf w (fragments_of fs)) (sym t.passes) (fragments_are w at from.before t.front t.rest split from.place)

pub polled_are_frames : PollsGiveFrames
polled_are_frames l w subscription limit s =
    subst (λ (p : Poll). AreFragmentsOf w p.fragments) (sym (polled_is w l subscription limit (position_of l.pairs subscription) s refl))
    (polled_by l w subscription limit (position_of l.pairs subscription) s refl)
