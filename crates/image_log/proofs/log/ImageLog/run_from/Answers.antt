-- The frames between two ranks are those that are whole from a position on.
use Rattle.std.proofs.Common.{◌≡◌, ℕ, ◌+◌, ◌≤◌, List, take, drop, sym, ap, ap₂, ◌∙◌, subst, arith}
use Rattle.std.specs.Prelude.{filter, map}
use Rattle.image_log.specs.Frame.{Frame}
use Rattle.image_log.specs.Log.{Log, rebuilt_of}
use Rattle.image_log.specs.Order.{Begins, begins_within, chain}
use Rattle.image_log.specs.Polling.{polled_frame, whole_from}
use Rattle.image_log.specs.Rebuilt.{IsStart, Rebuilt, contiguous_of}
use Rattle.log_pairs.specs.Polling.{behind, passed}
use Rattle.image_log.proofs.Between.{between-ranks}
use Rattle.image_log.proofs.Naming.{headed}
use Rattle.image_log.proofs.Orders.{rank-le}
use Rattle.image_log.proofs.Polls.{EndsWithin, poll_ends}
use Rattle.image_log.proofs.log.ImageLog.run_from.Goals as goal

pub new-requires-clause-last : goal.new-requires-clause-last
new-requires-clause-last c =
    let within = rank-le c.self.inside.contiguous c.self.inside.store.frames in
    omega (arith, within, c.rank.ensures)

pub new-requires-clause-headers : goal.new-requires-clause-headers
new-requires-clause-headers c = headed c.self.inside.ident c.self.inside.store.frames c.self.invariant.named

pub returns-clause-frames : goal.returns-clause-frames
returns-clause-frames c =
    let s = c.self.inside in
    let p : ℕ = c.args.position in
    let fs : List Frame = s.store.frames in
    let view : Rebuilt = rebuilt_of s.ident s.join s.base s.greatest s.moment s.status s.pairs s.store in
    let seen : view ≡ c.args.self.now.rebuilt = ap (λ (l : Log). l.rebuilt) c.self.view_is in
    let at : s.contiguous ≡ contiguous_of view = c.self.invariant.chained ∙ ap (λ (k : ℕ). chain k fs) c.self.invariant.low in
    let to : p ≤ s.contiguous = subst (λ (k : ℕ). p ≤ k) (sym at) (subst (λ (r : Rebuilt). p ≤ contiguous_of r) (sym seen) c.requires) in
    c.new.ensures
    ∙ ap₂ (λ (j k : ℕ). drop j (take k fs)) c.rank-index.ensures c.rank.ensures
    ∙ sym (between-ranks p s.contiguous s.store.low (s.store.low + s.store.held.len) fs c.self.invariant.order to)
    ∙ ap (λ (q : ℕ). filter (begins_within p q) fs) at
    ∙ ap (λ (r : Rebuilt). whole_from r p) seen

pub returns-clause-ends : goal.returns-clause-ends
returns-clause-ends c = λ start limit.
    let s = c.self.inside in
    let p : ℕ = c.args.position in
    let fs : List Frame = s.store.frames in
    let view : Rebuilt = rebuilt_of s.ident s.join s.base s.greatest s.moment s.status s.pairs s.store in
    let seen : view ≡ c.args.self.now.rebuilt = ap (λ (l : Log). l.rebuilt) c.self.view_is in
    let at : s.contiguous ≡ contiguous_of view = c.self.invariant.chained ∙ ap (λ (k : ℕ). chain k fs) c.self.invariant.low in
    let to : p ≤ s.contiguous = subst (λ (k : ℕ). p ≤ k) (sym at) (subst (λ (r : Rebuilt). p ≤ contiguous_of r) (sym seen) c.requires) in
    let begins : Begins s.contiguous fs p = subst (λ (k : ℕ). Begins k fs p) (sym at) (subst (λ (r : Rebuilt). IsStart r p) (sym seen) start) in
    let same : c.new.result ≡ filter (begins_within p s.contiguous) fs =
    c.new.ensures
    ∙ ap₂ (λ (j k : ℕ). drop j (take k fs)) c.rank-index.ensures c.rank.ensures
    ∙ sym (between-ranks p s.contiguous s.store.low (s.store.low + s.store.held.len) fs c.self.invariant.order to) in
    let q : ℕ = behind p (passed limit (map polled_frame c.new.result)) in
    let ends : EndsWithin p s.contiguous fs q =
    subst (λ (gs : List Frame). EndsWithin p s.contiguous fs (behind p (passed limit (map polled_frame gs)))) (sym same)
    (poll_ends p s.contiguous s.store.low (s.store.low + s.store.held.len) limit fs c.self.invariant.order c.self.invariant.chained to begins) in
    record {
      ahead = ends.0;
      within = subst (λ (r : Rebuilt). q ≤ contiguous_of r) seen (subst (λ (k : ℕ). q ≤ k) at ends.1);
      start = subst (λ (r : Rebuilt). IsStart r q) seen (subst (λ (k : ℕ). Begins k fs q) at ends.2);
    }
