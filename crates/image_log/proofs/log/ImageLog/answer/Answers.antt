use Rattle.std.proofs.Common.{◌≡◌, ℕ, ◌+◌, ◌<◌, ◌≤◌, List, sym, ap, ap₂, ◌∙◌, subst, arith}
use Rattle.image_log.specs.Log.{Log}
use Rattle.image_log.specs.Answer.{answer_among}
use Rattle.image_log.specs.Frame.{Frame}
use Rattle.image_log.specs.Order.{rank}
use Rattle.image_log.specs.Rebuilt.{Rebuilt, low_of}
use Rattle.image_log.proofs.Taken.{is_below, is_past, is_crossing, is_among, span_fits, position_fits}
use Rattle.image_log.proofs.log.ImageLog.answer.Goals as goal

pub returns-then-position-low-clause-answer : goal.returns-then-position-low-clause-answer
returns-then-position-low-clause-answer c =
    let low : c.low.result ≡ low_of c.args.self.now.rebuilt = c.low.ensures ∙ c.self.invariant.low ∙ ap (λ (r : Rebuilt). low_of r) (ap (λ (l : Log). l.rebuilt) c.self.view_is) in
    is_below c.args.self.now.rebuilt c.args.position c.args.frame.now (subst (λ (k : ℕ). c.args.position < k) low c.if-position-low.true)

pub returns-then-position-low-clause-fits : goal.returns-then-position-low-clause-fits
returns-then-position-low-clause-fits c =
    position_fits c.args.self.now.rebuilt.ident c.args.position c.args.frame.now c.requires.of (omega (arith, c.self.invariant.terms, ap (λ (r : Rebuilt). r.ident.term_length) (ap (λ (l : Log). l.rebuilt) c.self.view_is)))

pub returns-then-position-reach-clause-answer : goal.returns-then-position-reach-clause-answer
returns-then-position-reach-clause-answer c =
    let low : c.low.result ≡ low_of c.args.self.now.rebuilt = c.low.ensures ∙ c.self.invariant.low ∙ ap (λ (r : Rebuilt). low_of r) (ap (λ (l : Log). l.rebuilt) c.self.view_is) in
    is_past c.args.self.now.rebuilt c.args.position c.args.frame.now (subst (λ (k : ℕ). k ≤ c.args.position) low c.if-position-low.false)
    (subst (λ (k : ℕ). k ≤ c.args.position) c.reach.ensures.value c.if-position-reach.true)

pub returns-then-position-reach-clause-fits : goal.returns-then-position-reach-clause-fits
returns-then-position-reach-clause-fits c =
    position_fits c.args.self.now.rebuilt.ident c.args.position c.args.frame.now c.requires.of (omega (arith, c.self.invariant.terms, ap (λ (r : Rebuilt). r.ident.term_length) (ap (λ (l : Log). l.rebuilt) c.self.view_is)))

pub overflow_add-from : goal.overflow_add-from
overflow_add-from c =
    let span = span_fits c.args.self.now.rebuilt.ident c.args.position c.args.frame.now c.requires.of in
    omega (arith, span.2, c.span_of-span.ensures, c.from.ensures, c.offset_of.type_inv)

pub returns-then-from-span-clause-answer : goal.returns-then-from-span-clause-answer
returns-then-from-span-clause-answer c =
    let low : c.low.result ≡ low_of c.args.self.now.rebuilt = c.low.ensures ∙ c.self.invariant.low ∙ ap (λ (r : Rebuilt). low_of r) (ap (λ (l : Log). l.rebuilt) c.self.view_is) in
    let size : c.self.inside.ident.term_length ≡ c.args.self.now.rebuilt.ident.term_length = ap (λ (r : Rebuilt). r.ident.term_length) (ap (λ (l : Log). l.rebuilt) c.self.view_is) in
    is_crossing c.args.self.now.rebuilt c.args.position c.args.frame.now (subst (λ (k : ℕ). k ≤ c.args.position) low c.if-position-low.false)
    (omega (arith, size, c.from.ensures, c.from-2.ensures, c.offset_of.ensures, c.span_of-span.ensures, c.if-from-span.true))

pub returns-then-from-span-clause-fits : goal.returns-then-from-span-clause-fits
returns-then-from-span-clause-fits c =
    position_fits c.args.self.now.rebuilt.ident c.args.position c.args.frame.now c.requires.of (omega (arith, c.self.invariant.terms, ap (λ (r : Rebuilt). r.ident.term_length) (ap (λ (l : Log). l.rebuilt) c.self.view_is)))

pub answer-requires-clause-rank : goal.answer-requires-clause-rank
answer-requires-clause-rank c = c.requires.rank ∙ ap (λ (l : Log). rank c.args.position l.rebuilt.frames) (sym c.self.view_is)

pub answer-requires-clause-some : goal.answer-requires-clause-some
answer-requires-clause-some c =
    let span = span_fits c.args.self.now.rebuilt.ident c.args.position c.args.frame.now c.requires.of in
    omega (arith, span.0, c.span_of-span.ensures)

pub returns-clause-answer : goal.returns-clause-answer
returns-clause-answer c =
    let low : c.low.result ≡ low_of c.args.self.now.rebuilt = c.low.ensures ∙ c.self.invariant.low ∙ ap (λ (r : Rebuilt). low_of r) (ap (λ (l : Log). l.rebuilt) c.self.view_is) in
    let size : c.self.inside.ident.term_length ≡ c.args.self.now.rebuilt.ident.term_length = ap (λ (r : Rebuilt). r.ident.term_length) (ap (λ (l : Log). l.rebuilt) c.self.view_is) in
    c.answer.ensures
    ∙ ap₂ (λ (s : ℕ) (fs : List Frame). answer_among c.args.position (c.args.position + s) c.args.frame.now fs) c.span_of-span.ensures (ap (λ (r : Rebuilt). r.frames) (ap (λ (l : Log). l.rebuilt) c.self.view_is))
    ∙ is_among c.args.self.now.rebuilt c.args.position c.args.frame.now (subst (λ (k : ℕ). k ≤ c.args.position) low c.if-position-low.false)
    (subst (λ (k : ℕ). c.args.position < k) c.reach.ensures.value c.if-position-reach.false)
    (omega (arith, size, c.from.ensures, c.from-2.ensures, c.offset_of.ensures, c.span_of-span.ensures, c.if-from-span.false))

pub returns-clause-fits : goal.returns-clause-fits
returns-clause-fits c =
    position_fits c.args.self.now.rebuilt.ident c.args.position c.args.frame.now c.requires.of (omega (arith, c.self.invariant.terms, ap (λ (r : Rebuilt). r.ident.term_length) (ap (λ (l : Log). l.rebuilt) c.self.view_is)))
