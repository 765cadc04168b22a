use Rattle.std.proofs.Common.{rules, ◌≡◌, ℕ, suc, ◌+◌, List, ◌∷◌, length, take, drop, sym, ap, ap₂, ◌∙◌, arith}
use Rattle.image_log.specs.Frame.{Frame}
use Rattle.image_log.proofs.Between.{first-between}
use Rattle.image_log.proofs.Naming.{headed_at}
use Rattle.image_log.proofs.reading.RunIterator.next.Goals as goal

pub frame-frame-requires-clause-header : goal.frame-frame-requires-clause-header
frame-frame-requires-clause-header c =
    headed_at c.self.inside.store.now.frames c.self.inside.index c.self.invariant.1 (omega (arith, c.if-self.false, c.self.invariant.0))

pub returns-clause-steps : goal.returns-clause-steps
returns-clause-steps c =
    let s = c.self.inside in
    let fs : List Frame = s.store.now.frames in
    let next : suc s.index ≡ s.index + 1 = omega arith in
    sym c.self.view_is ∙ first-between fs s.index s.last (omega (arith, c.if-self.false)) c.self.invariant.0
    ∙ ap₂ (λ (g : Frame) (k : ℕ). g ∷ drop k (take s.last fs)) (sym c.frame-frame.ensures) next

pub returns-clause-goes : goal.returns-clause-goes
returns-clause-goes c =
    let shorter = ap length (returns-clause-steps c) in search rules
