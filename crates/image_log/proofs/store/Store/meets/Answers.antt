use Rattle.std.proofs.Common.{◌≡◌, ℕ, suc, ◌+◌, ◌-◌, ◌%◌, ◌<◌, ◌≤◌, List, length, take, get_or, sym, ap, ap₂, ◌∙◌, subst, arith, length-append}
use Rattle.image_log.specs.Frame.{Frame, end_of}
use Rattle.image_log.specs.Order.{Ordered, rank}
use Rattle.image_log.specs.Stored.{Stored, frame_at}
use Rattle.image_log.proofs.Found.{counted, meets_before, meets_next, meets_last}
use Rattle.image_log.proofs.Orders.{rank-le}
use Rattle.image_log.proofs.Tests.{lt_no}
use Rattle.image_log.proofs.store.Store.meets.Goals as goal
use Rattle.image_log.proofs.store.Store.meets.Goals.{else-at-gt0-via-then-at-gt0+else-end_of-position, else-at-gt0-via-else-at-gt0}

pub end_of-requires : goal.end_of-requires
end_of-requires c = omega (arith, rank-le c.args.position c.args.self.now.frames, c.requires.rank, c.if-at-gt0.true)

pub returns-then-end_of-position : goal.returns-then-end_of-position
returns-then-end_of-position c =
    meets_before c.args.position c.args.end c.args.self.now.frames c.args.at c.requires.some c.requires.rank c.if-at-gt0.true
    (omega (arith, rank-le c.args.position c.args.self.now.frames, c.requires.rank))
    (omega (arith, c.end_of.ensures, c.if-end_of-position.true))

pub returns-then-at-len : goal.returns-then-at-len
returns-then-at-len c =
    let fs : List Frame = c.args.self.now.frames in
    let p : ℕ = c.args.position in
    let n = counted _ _ _ _ (ap (λ (s : Stored). s.frames) c.self.view_is) in
    let order = subst (λ (s : Stored). Ordered s.low (s.low + s.held.len) s.frames) c.self.view_is c.self.invariant.0.order in
    let before : (k : ℕ) → rank p fs ≡ suc k → end_of (frame_at fs k) ≤ p = λ k r.
    elim c.else-at-gt0.branch [
      | else-at-gt0-via-then-at-gt0+else-end_of-position w ↦ (
          let at : c.args.at - 1 ≡ k = omega (arith, r, c.requires.rank) in
          subst (λ (m : ℕ). end_of (frame_at fs m) ≤ p) at (omega (arith, w.end_of.ensures, w.if-end_of-position.false)))
      | else-at-gt0-via-else-at-gt0 w ↦ absurd (omega (arith, r, c.requires.rank, w.if-at-gt0.false))
    ] in
    ap (λ (s : ℕ). Rattle.std.proofs.Common.ltb s c.args.end) c.start_of.ensures
    ∙ meets_next _ _ _ _ _ _ order c.requires.some c.requires.rank (omega (arith, n, c.len.ensures, c.if-at-len.true, c.self.inside.places.ok)) before

pub returns-else-at-len : goal.returns-else-at-len
returns-else-at-len c =
    let fs : List Frame = c.args.self.now.frames in
    let p : ℕ = c.args.position in
    let n = counted _ _ _ _ (ap (λ (s : Stored). s.frames) c.self.view_is) in
    let order = subst (λ (s : Stored). Ordered s.low (s.low + s.held.len) s.frames) c.self.view_is c.self.invariant.0.order in
    let before : (k : ℕ) → rank p fs ≡ suc k → end_of (frame_at fs k) ≤ p = λ k r.
    elim c.else-at-gt0.branch [
      | else-at-gt0-via-then-at-gt0+else-end_of-position w ↦ (
          let at : c.args.at - 1 ≡ k = omega (arith, r, c.requires.rank) in
          subst (λ (m : ℕ). end_of (frame_at fs m) ≤ p) at (omega (arith, w.end_of.ensures, w.if-end_of-position.false)))
      | else-at-gt0-via-else-at-gt0 w ↦ absurd (omega (arith, r, c.requires.rank, w.if-at-gt0.false))
    ] in
    lt_no _ _ c.if-at-len.false
    ∙ meets_last _ _ _ _ _ _ order c.requires.some c.requires.rank (omega (arith, n, c.len.ensures, c.if-at-len.false, c.self.inside.places.ok)) before
