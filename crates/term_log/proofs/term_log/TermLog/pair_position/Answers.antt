use Rattle.std.proofs.Common.{◌≡◌, ℕ, ◌≤◌, Option, sym, ap, subst}
use Rattle.std.specs.Prelude.{IfSome}
use Rattle.term_log.specs.Kept.{Kept}
use Rattle.term_log.specs.Log.{Log, low_of}
use Rattle.term_log.proofs.Nears.{pair_held}
use Rattle.term_log.proofs.term_log.TermLog.pair_position.Goals as goal

pub returns-clause-held : goal.returns-clause-held
returns-clause-held c =
    let s = c.self.inside in
    let i = s.appender.ident in
    let kept : s.appender ≡ c.args.self.now.kept = ap (λ (l : Log). l.kept) c.self.view_is in
    subst (λ (k : Kept). IfSome c.position.result (λ (position : ℕ). (low_of k ≤ position) × (position ≤ k.tail))) kept
    (subst (λ (o : Option ℕ). IfSome o (λ (position : ℕ). (low_of s.appender ≤ position) × (position ≤ s.appender.tail))) (sym c.position.ensures)
    (pair_held i.start s.appender.tail i.term_length c.args.subscription s.pairs c.self.invariant.near))
