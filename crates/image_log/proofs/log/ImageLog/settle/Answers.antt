use Rattle.std.proofs.Common.{◌≡◌, ℕ, max, sym, ap, ◌∙◌, subst, arith}
use Rattle.image_log.specs.Log.{IsLog}
use Rattle.log_pairs.specs.Pairs.{least_or}
use Rattle.image_log.specs.Rebuilt.{term_start}
use Rattle.image_log.proofs.Settled.{log_settled, up_to}
use Rattle.image_log.proofs.log.ImageLog.settle.Goals as goal

pub drop_below-requires-clause-up : goal.drop_below-requires-clause-up
drop_below-requires-clause-up c =
    let s = c.self.inside in
    let low : c.max-low.result ≡ max (term_start s.ident.term_length (least_or s.base s.pairs)) s.join =
    c.max-low.ensures ∙ ap (λ (k : ℕ). max k s.join) (c.term_start.ensures ∙ ap (λ (b : ℕ). term_start s.ident.term_length b) c.least_or-base.ensures) in
    (up_to s.ident s.join s.base s.contiguous c.max-low.result s.pairs s.store c.self.invariant low).0

pub drop_below-requires-clause-high : goal.drop_below-requires-clause-high
drop_below-requires-clause-high c =
    let s = c.self.inside in
    let low : c.max-low.result ≡ max (term_start s.ident.term_length (least_or s.base s.pairs)) s.join =
    c.max-low.ensures ∙ ap (λ (k : ℕ). max k s.join) (c.term_start.ensures ∙ ap (λ (b : ℕ). term_start s.ident.term_length b) c.least_or-base.ensures) in
    let up = up_to s.ident s.join s.base s.contiguous c.max-low.result s.pairs s.store c.self.invariant low in
    omega (arith, up.4, c.self.invariant.room, c.self.invariant.terms)

pub invariant_of-self : goal.invariant_of-self
invariant_of-self c =
    let s = c.self.inside in
    let low : c.max-low.result ≡ max (term_start s.ident.term_length (least_or s.base s.pairs)) s.join =
    c.max-low.ensures ∙ ap (λ (k : ℕ). max k s.join) (c.term_start.ensures ∙ ap (λ (b : ℕ). term_start s.ident.term_length b) c.least_or-base.ensures) in
    subst (λ (b : ℕ). IsLog s.ident s.join b s.contiguous s.pairs c.drop_below.new.self) (sym c.least_or-base.ensures)
    (log_settled s.ident s.join s.base s.contiguous c.max-low.result s.pairs s.store c.drop_below.new.self c.self.invariant low c.drop_below.ensures)
