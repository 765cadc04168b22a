-- The next frame was given, and the others are still to come, or it was a pad.
use Rattle.std.proofs.Common.{rules, ◌≡◌, ℕ, suc, ◌+◌, ◌-◌, ◌≤◌, List, [], ◌∷◌, length, take, drop, sym, ap, ap₂, ◌∙◌, arith}
use Rattle.image_log.specs.Frame.{Frame}
use Rattle.image_log.specs.Reading.{cut_to, sent_size}
use Rattle.image_log.proofs.Between.{cut-more, cut-pad, first-between, none-between}
use Rattle.image_log.proofs.Naming.{headed_at}
use Rattle.image_log.proofs.reading.FramesIterator.next.Goals as goal
use Rattle.image_log.proofs.reading.FramesIterator.next.Goals.{then-is_pad, else-is_pad}

pub frame-frame-requires-clause-header : goal.frame-frame-requires-clause-header
frame-frame-requires-clause-header c =
    headed_at c.self.inside.store.now.frames c.self.inside.index c.self.invariant.1 (omega (arith, c.if-self.false, c.self.invariant.0))

pub returns-clause-steps : goal.returns-clause-steps
returns-clause-steps c =
    let s = c.self.inside in
    let fs : List Frame = s.store.now.frames in
    let f : Frame = c.frame-frame.result in
    let rest : List Frame = drop (s.index + 1) (take s.last fs) in
    let next : suc s.index ≡ s.index + 1 = omega arith in
    let first : drop s.index (take s.last fs) ≡ f ∷ rest =
    first-between fs s.index s.last (omega (arith, c.if-self.false)) c.self.invariant.0
    ∙ ap₂ (λ (g : Frame) (k : ℕ). g ∷ drop k (take s.last fs)) (sym c.frame-frame.ensures) next in
    let fit : sent_size f ≤ s.bytes = omega (arith, c.sent_size-size.ensures, c.if-self-size.false) in
    let now = sym c.self.view_is ∙ ap (λ (gs : List Frame). cut_to s.bytes gs) first in
    elim c.if-is_pad.branch [
      | then-is_pad w ↦ (
          let none : drop (s.index + 1) (take 0 fs) ≡ [] = none-between fs (s.index + 1) 0 (omega arith) in
          now ∙ cut-pad s.bytes f rest fit (sym c.is_pad.ensures ∙ w.if-is_pad.true)
          ∙ ap (λ (gs : List Frame). f ∷ gs) (sym (w.self-is ∙ ap (λ (gs : List Frame). cut_to (s.bytes - c.sent_size-size.result) gs) none)))
      | else-is_pad w ↦ (
          now ∙ cut-more s.bytes f rest fit (sym c.is_pad.ensures ∙ w.if-is_pad.false)
          ∙ ap (λ (gs : List Frame). f ∷ gs) (ap (λ (k : ℕ). cut_to (s.bytes - k) rest) (sym c.sent_size-size.ensures) ∙ sym w.self-is))
    ]

pub returns-clause-goes : goal.returns-clause-goes
returns-clause-goes c =
    let shorter = ap length (returns-clause-steps c) in search rules
