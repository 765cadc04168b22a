use Rattle.std.proofs.Common.{◌+◌, ◌<◌, ◌≤◌, length, ap, arith, eqb-true}
use borrow.Author.Tests.{eqb-false}
use Rattle.log_arena.specs.Layout.{Layout}
use Rattle.log_arena.proofs.Matches.{counted, span_is, touch_told}
use Rattle.log_arena.proofs.Tables.{seamed-end, seamed-apart}
use Rattle.log_arena.proofs.holes.Holes.touch.Goals as goal
use Rattle.log_arena.proofs.holes.Holes.touch.Goals.{then-at-count-via-then-at-count, then-at-count-via-else-at-count+then-count-at-lt2}

pub returns-then-at-count-clause-apart : goal.returns-then-at-count-clause-apart
returns-then-at-count-clause-apart c =
    let n = counted _ _ _ _ (ap (λ (l : Layout). l.spans) c.self.view_is) c.self.invariant.1 in
    let last : length c.args.self.now.spans ≤ c.args.at + 1 =
    elim c.then-at-count.branch [
      | then-at-count-via-then-at-count w ↦ omega (arith, n.0, c.self.inside.spans.ok)
      | then-at-count-via-else-at-count+then-count-at-lt2 w ↦ omega (arith, n.0, c.self.inside.spans.ok)
    ] in
    λ e. seamed-end c.args.at c.args.self.now.spans last

pub overflow_add-result : goal.overflow_add-result
overflow_add-result c =
    let here : c.args.at < length c.self.inside.spans.items = omega (arith, c.self.inside.spans.ok) in
    let f = span_is _ c.args.at _ _ c.index-front.result.now here c.self.invariant.1 c.index-front.ensures in
    omega (arith, f.1)

pub returns-clause-touching : goal.returns-clause-touching
returns-clause-touching c =
    let spans = ap (λ (l : Layout). l.spans) c.self.view_is in
    let n = counted _ _ _ _ spans c.self.invariant.1 in
    let next : c.args.at + 1 < length c.self.inside.spans.items = omega (arith, c.self.inside.spans.ok) in
    let told = touch_told _ c.args.at _ _ _ c.index-front.result.now c.index.result.now spans c.self.invariant.1 next c.index-front.ensures c.index.ensures in
    λ e. (omega (arith, n.0), omega (arith, c.self.inside.spans.ok, c.self.inside.spans.small), told.0 (eqb-true _ _ e))

pub returns-clause-apart : goal.returns-clause-apart
returns-clause-apart c =
    let spans = ap (λ (l : Layout). l.spans) c.self.view_is in
    let n = counted _ _ _ _ spans c.self.invariant.1 in
    let next : c.args.at + 1 < length c.self.inside.spans.items = omega (arith, c.self.inside.spans.ok) in
    let told = touch_told _ c.args.at _ _ _ c.index-front.result.now c.index.result.now spans c.self.invariant.1 next c.index-front.ensures c.index.ensures in
    λ e. seamed-apart c.args.at c.args.self.now.spans (omega (arith, n.0)) (λ t. eqb-false _ _ e (told.1 t))
