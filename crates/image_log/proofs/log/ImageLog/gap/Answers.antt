use Rattle.std.proofs.Common.{◌≡◌, ℕ, ◌-◌, ◌<◌, ◌≤◌, min, Some, ap, ap₂, ◌∙◌, subst}
use Rattle.image_log.specs.Log.{Log}
use Rattle.image_log.specs.Order.{chain, next_from}
use Rattle.image_log.specs.Rebuilt.{Rebuilt, contiguous_of, gap_end}
use Rattle.image_log.proofs.Taken.{gap_some, gap_none}
use Rattle.image_log.proofs.log.ImageLog.gap.Goals as goal

pub returns-then-self-end : goal.returns-then-self-end
returns-then-self-end c =
    let at : c.self.inside.contiguous ≡ contiguous_of c.args.self.now.rebuilt =
    c.self.invariant.chained ∙ ap (λ (k : ℕ). chain k c.self.inside.store.frames) c.self.invariant.low ∙ ap (λ (r : Rebuilt). contiguous_of r) (ap (λ (l : Log). l.rebuilt) c.self.view_is) in
    let next : c.next_from-next.result ≡ next_from c.args.self.now.rebuilt.greatest (contiguous_of c.args.self.now.rebuilt) c.args.self.now.rebuilt.frames =
    c.next_from-next.ensures ∙ ap (λ (k : ℕ). next_from c.self.inside.greatest k c.self.inside.store.frames) at
    ∙ ap (λ (r : Rebuilt). next_from r.greatest (contiguous_of c.args.self.now.rebuilt) r.frames) (ap (λ (l : Log). l.rebuilt) c.self.view_is) in
    let end : c.min-end.result ≡ gap_end c.args.self.now.rebuilt = c.min-end.ensures ∙ ap₂ (λ (a b : ℕ). min a b) next c.reach.ensures.value in
    ap₂ (λ (a b : ℕ). Some (a, b - a)) at end
    ∙ gap_some c.args.self.now.rebuilt (subst (λ (k : ℕ). contiguous_of c.args.self.now.rebuilt < k) end (subst (λ (k : ℕ). k < c.min-end.result) at c.if-self-end.true))

pub returns-else-self-end : goal.returns-else-self-end
returns-else-self-end c =
    let at : c.self.inside.contiguous ≡ contiguous_of c.args.self.now.rebuilt =
    c.self.invariant.chained ∙ ap (λ (k : ℕ). chain k c.self.inside.store.frames) c.self.invariant.low ∙ ap (λ (r : Rebuilt). contiguous_of r) (ap (λ (l : Log). l.rebuilt) c.self.view_is) in
    let next : c.next_from-next.result ≡ next_from c.args.self.now.rebuilt.greatest (contiguous_of c.args.self.now.rebuilt) c.args.self.now.rebuilt.frames =
    c.next_from-next.ensures ∙ ap (λ (k : ℕ). next_from c.self.inside.greatest k c.self.inside.store.frames) at
    ∙ ap (λ (r : Rebuilt). next_from r.greatest (contiguous_of c.args.self.now.rebuilt) r.frames) (ap (λ (l : Log). l.rebuilt) c.self.view_is) in
    let end : c.min-end.result ≡ gap_end c.args.self.now.rebuilt = c.min-end.ensures ∙ ap₂ (λ (a b : ℕ). min a b) next c.reach.ensures.value in
    gap_none c.args.self.now.rebuilt (subst (λ (k : ℕ). k ≤ contiguous_of c.args.self.now.rebuilt) end (subst (λ (k : ℕ). c.min-end.result ≤ k) at c.if-self-end.false))
