use Rattle.std.proofs.Common.{◌≡◌, ℕ, ◌≤◌, Option, sym, ap, ◌∙◌, subst}
use Rattle.std.specs.Prelude.{IfSome}
use Rattle.image_log.specs.Log.{rebuilt_of, Log}
use Rattle.image_log.specs.Order.{Begins, chain}
use Rattle.image_log.specs.Rebuilt.{IsStart, Rebuilt, contiguous_of}
use Rattle.image_log.specs.Pairs.{IsWithin}
use Rattle.log_pairs.proofs.Pairing.{at_found}
use Rattle.image_log.proofs.log.ImageLog.pair_position.Goals as goal

pub returns-clause-within : goal.returns-clause-within
returns-clause-within c =
    let s = c.self.inside in
    let view : Rebuilt = rebuilt_of s.ident s.join s.base s.greatest s.moment s.status s.pairs s.store in
    let at : s.contiguous ≡ contiguous_of view = c.self.invariant.chained ∙ ap (λ (k : ℕ). chain k s.store.frames) c.self.invariant.low in
    subst (λ (r : Rebuilt). IfSome c.position.result (λ (position : ℕ). (r.base ≤ position) × (position ≤ contiguous_of r))) (ap (λ (l : Log). l.rebuilt) c.self.view_is)
    (subst (λ (k : ℕ). IfSome c.position.result (λ (position : ℕ). (s.base ≤ position) × (position ≤ k))) at
    (subst (λ (o : Option ℕ). IfSome o (λ (position : ℕ). (s.base ≤ position) × (position ≤ s.contiguous))) (sym c.position.ensures)
    (at_found (IsWithin s.base s.contiguous) c.args.subscription s.pairs c.self.invariant.paired)))

pub returns-clause-starts : goal.returns-clause-starts
returns-clause-starts c =
    let s = c.self.inside in
    let view : Rebuilt = rebuilt_of s.ident s.join s.base s.greatest s.moment s.status s.pairs s.store in
    let at : s.contiguous ≡ contiguous_of view = c.self.invariant.chained ∙ ap (λ (k : ℕ). chain k s.store.frames) c.self.invariant.low in
    subst (λ (r : Rebuilt). IfSome c.position.result (λ (position : ℕ). IsStart r position)) (ap (λ (l : Log). l.rebuilt) c.self.view_is)
    (subst (λ (k : ℕ). IfSome c.position.result (λ (position : ℕ). Begins k s.store.frames position)) at
    (subst (λ (o : Option ℕ). IfSome o (λ (position : ℕ). Begins s.contiguous s.store.frames position)) (sym c.position.ensures)
    (at_found (Begins s.contiguous s.store.frames) c.args.subscription s.pairs c.self.invariant.starts)))
