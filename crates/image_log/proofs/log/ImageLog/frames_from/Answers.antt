-- The frames between two ranks are those between two positions.
use Rattle.std.proofs.Common.{◌≡◌, ℕ, ◌+◌, ◌≤◌, min, List, take, drop, sym, ap, ap₂, ◌∙◌, subst, arith}
use Rattle.std.specs.Prelude.{filter}
use Rattle.image_log.specs.Frame.{Frame}
use Rattle.image_log.specs.Handed.{AreFor}
use Rattle.image_log.specs.Log.{rebuilt_of, Log}
use Rattle.image_log.specs.Order.{begins_within, chain}
use Rattle.image_log.specs.Reading.{Adjoin, AreBetween, cut_to}
use Rattle.image_log.specs.Rebuilt.{IsStart, Rebuilt, contiguous_of, frames_of, term_end}
use Rattle.image_log.proofs.Between.{adjoin-cut, adjoin-from, before-end, between-cut, between-ranks, run-between}
use Rattle.image_log.proofs.Naming.{for_cut, for_filter, headed}
use Rattle.image_log.proofs.Orders.{rank-le}
use Rattle.image_log.proofs.log.ImageLog.frames_from.Goals as goal

pub new-requires-clause-last : goal.new-requires-clause-last
new-requires-clause-last c =
    let within = rank-le c.min-end.result c.self.inside.store.frames in
    omega (arith, within, c.rank.ensures)

pub new-requires-clause-headers : goal.new-requires-clause-headers
new-requires-clause-headers c = headed c.self.inside.ident c.self.inside.store.frames c.self.invariant.named

pub returns-clause-frames : goal.returns-clause-frames
unfolding frames_of
returns-clause-frames c =
    let s = c.self.inside in
    let p : ℕ = c.args.position in
    let fs : List Frame = s.store.frames in
    let view : Rebuilt = rebuilt_of s.ident s.join s.base s.greatest s.moment s.status s.pairs s.store in
    let at : s.contiguous ≡ contiguous_of view = c.self.invariant.chained ∙ ap (λ (k : ℕ). chain k fs) c.self.invariant.low in
    let to : p ≤ s.contiguous =
    subst (λ (k : ℕ). p ≤ k) (sym at) (subst (λ (r : Rebuilt). p ≤ contiguous_of r) (sym (ap (λ (l : Log). l.rebuilt) c.self.view_is)) c.requires) in
    let end : c.min-end.result ≡ min (contiguous_of view) (term_end s.ident.term_length p) =
    c.min-end.ensures ∙ ap₂ (λ (j k : ℕ). min j k) at c.term_end.ensures in
    let before = before-end s.ident.term_length p (omega (arith, c.self.invariant.terms)) in
    let up : p ≤ c.min-end.result = omega (arith, c.min-end.ensures, c.term_end.ensures, to, before) in
    c.new.ensures
    ∙ ap₂ (λ (j k : ℕ). cut_to c.args.bytes (drop j (take k fs))) c.rank-index.ensures c.rank.ensures
    ∙ ap (λ (gs : List Frame). cut_to c.args.bytes gs) (sym (between-ranks p c.min-end.result s.store.low (s.store.low + s.store.held.len) fs c.self.invariant.order up))
    ∙ ap (λ (q : ℕ). cut_to c.args.bytes (filter (begins_within p q) fs)) end
    ∙ ap (λ (r : Rebuilt). frames_of r p c.args.bytes) (ap (λ (l : Log). l.rebuilt) c.self.view_is)

pub returns-clause-named : goal.returns-clause-named
unfolding frames_of
returns-clause-named c =
    let now : Rebuilt = c.args.self.now.rebuilt in
    let named : AreFor now.ident now.frames = subst (λ (r : Rebuilt). AreFor r.ident r.frames) (ap (λ (l : Log). l.rebuilt) c.self.view_is) c.self.invariant.named in
    subst (λ (fs : List Frame). AreFor now.ident fs) (sym (returns-clause-frames c))
    (for_cut now.ident c.args.bytes _ (for_filter now.ident (begins_within c.args.position (min (contiguous_of now) (term_end now.ident.term_length c.args.position))) now.frames named))

pub returns-clause-within : goal.returns-clause-within
unfolding frames_of
returns-clause-within c =
    let s = c.self.inside in
    let p : ℕ = c.args.position in
    let fs : List Frame = s.store.frames in
    let view : Rebuilt = rebuilt_of s.ident s.join s.base s.greatest s.moment s.status s.pairs s.store in
    let on : contiguous_of view ≡ chain s.store.low fs = ap (λ (k : ℕ). chain k fs) (sym c.self.invariant.low) in
    let all = run-between p (min (contiguous_of view) (term_end s.ident.term_length p)) (contiguous_of view) s.store.low (s.store.low + s.store.held.len) fs c.self.invariant.order (omega arith) on in
    let cut = between-cut p (contiguous_of view) c.args.bytes _ all in
    subst (λ (gs : List Frame). AreBetween p (contiguous_of c.args.self.now.rebuilt) gs) (sym (returns-clause-frames c))
    (subst (λ (r : Rebuilt). AreBetween p (contiguous_of r) (frames_of r p c.args.bytes)) (ap (λ (l : Log). l.rebuilt) c.self.view_is) cut)

pub returns-clause-run : goal.returns-clause-run
unfolding frames_of
returns-clause-run c = λ start.
    let s = c.self.inside in
    let p : ℕ = c.args.position in
    let fs : List Frame = s.store.frames in
    let view : Rebuilt = rebuilt_of s.ident s.join s.base s.greatest s.moment s.status s.pairs s.store in
    let on : contiguous_of view ≡ chain s.store.low fs = ap (λ (k : ℕ). chain k fs) (sym c.self.invariant.low) in
    let to : p ≤ contiguous_of view = subst (λ (r : Rebuilt). p ≤ contiguous_of r) (sym (ap (λ (l : Log). l.rebuilt) c.self.view_is)) c.requires in
    let begins : IsStart view p = subst (λ (r : Rebuilt). IsStart r p) (sym (ap (λ (l : Log). l.rebuilt) c.self.view_is)) start in
    let all = adjoin-from p (min (contiguous_of view) (term_end s.ident.term_length p)) (contiguous_of view) s.store.low (s.store.low + s.store.held.len) fs c.self.invariant.order on to (omega arith) begins in
    let cut = adjoin-cut p c.args.bytes _ all in
    subst (λ (gs : List Frame). Adjoin p gs) (sym (returns-clause-frames c))
    (subst (λ (r : Rebuilt). Adjoin p (frames_of r p c.args.bytes)) (ap (λ (l : Log). l.rebuilt) c.self.view_is) cut)
