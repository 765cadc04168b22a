use Rattle.std.proofs.Common.{◌≡◌, ℕ, ◌+◌, ◌%◌, ◌<◌, ◌≤◌, List, length, sym, ap, ap₂, ◌∙◌, subst, arith}
use Rattle.std.specs.Prelude.{filter}
use Rattle.image_log.specs.Frame.{Frame}
use Rattle.image_log.specs.Kept.{contents}
use Rattle.image_log.specs.Order.{Ordered, begins_from}
use Rattle.image_log.specs.Stored.{Held, Stored, bytes_beside, frame_at}
use Rattle.image_log.proofs.Cleared.{raised}
use Rattle.image_log.proofs.Dropping.{kept_rest, ordered_from}
use Rattle.image_log.proofs.store.Store.drop_below.Goals as goal
use Rattle.image_log.proofs.store.Store.drop_below.Goals.{then-loop-self-test+else-start_of-low, else-loop-self-test}

pub invariant_of-self : goal.invariant_of-self
invariant_of-self c =
    let s = c.self.inside in
    let n : ℕ = s.lease.bytes.len in
    let fs : List Frame = contents n s.lease.bytes.items s.places.items in
    let same : fs ≡ c.loop-self.self.frames = ap (λ (x : Stored). x.frames) c.self.view_is in
    let first : 0 < length c.loop-self.self.frames → c.args.low ≤ (frame_at c.loop-self.self.frames 0).position = λ some.
    elim c.loop-self-test.branch [
      | then-loop-self-test+else-start_of-low w ↦ omega (arith, w.start_of.ensures, w.if-start_of-low.false)
      | else-loop-self-test w ↦ absurd (omega (arith, c.len.ensures, some, w.loop-self-test.false))
    ] in
    let all : filter (begins_from c.args.low) fs ≡ fs =
    kept_rest c.args.low s.low (s.low + n) fs c.self.invariant.0.order (subst (λ (gs : List Frame). 0 < length gs → c.args.low ≤ (frame_at gs 0).position) (sym same) first) in
    let low : s.low ≡ c.args.self.now.low = ap (λ (x : Stored). x.low) c.self.view_is ∙ c.loop-self.invariant.1 in
    let len : n ≡ c.args.self.now.held.len = ap (λ (x : Stored). x.held.len) c.self.view_is ∙ ap (λ (h : Held). h.len) c.loop-self.invariant.0 in
    let up : s.low ≤ c.args.low = omega (arith, c.requires.up, low) in (
      raised s.lease s.low c.args.low _ s.places.items c.self.invariant.0 up (omega (arith, c.requires.high, len))
          (subst (λ (gs : List Frame). Ordered c.args.low (c.args.low + n) gs) all
          (ordered_from c.args.low s.low (s.low + n) (c.args.low + n) fs c.self.invariant.0.order (omega (arith, up)))),
      c.start_in-self-inside.ensures ∙ ap (λ (k : ℕ). c.args.low % k) c.len-2.ensures,
    )

pub returns : goal.returns
returns c =
    let s = c.self.inside in
    let n : ℕ = s.lease.bytes.len in
    let fs : List Frame = contents n s.lease.bytes.items s.places.items in
    let same : fs ≡ c.loop-self.self.frames = ap (λ (x : Stored). x.frames) c.self.view_is in
    let first : 0 < length c.loop-self.self.frames → c.args.low ≤ (frame_at c.loop-self.self.frames 0).position = λ some.
    elim c.loop-self-test.branch [
      | then-loop-self-test+else-start_of-low w ↦ omega (arith, w.start_of.ensures, w.if-start_of-low.false)
      | else-loop-self-test w ↦ absurd (omega (arith, c.len.ensures, some, w.loop-self-test.false))
    ] in
    let all : filter (begins_from c.args.low) fs ≡ fs =
    kept_rest c.args.low s.low (s.low + n) fs c.self.invariant.0.order (subst (λ (gs : List Frame). 0 < length gs → c.args.low ≤ (frame_at gs 0).position) (sym same) first) in
    let left : fs ≡ filter (begins_from c.args.low) c.args.self.now.frames =
    sym all ∙ ap (λ (gs : List Frame). filter (begins_from c.args.low) gs) same ∙ c.loop-self.invariant.2 in
    let held : Rattle.image_log.specs.Stored.held_of s.lease ≡ c.args.self.now.held = ap (λ (x : Stored). x.held) c.self.view_is ∙ c.loop-self.invariant.0 in
    let same_bytes = ap (λ (x : Stored). x.beside) c.self.view_is ∙ c.loop-self.invariant.3 in
    ap₂ (λ (h : Held) (gs : List Frame). let x : Stored = record { held = h; low = c.args.low; frames = gs; beside = bytes_beside n fs s.lease.bytes.items } in x) held left
    ∙ ap (λ (bytes : List ℕ). let x : Stored = record { held = c.args.self.now.held; low = c.args.low; frames = filter (begins_from c.args.low) c.args.self.now.frames; beside = bytes } in x) same_bytes
