use Rattle.std.proofs.Common.{◌≡◌, ◌∙◌, List, ℕ, ap, eqb, false, sym, subst}
use Rattle.policy_core.specs.declared.rule.Principals.{Principals}
use Rattle.policy_diff.specs.Askers.{AddsNamed, is_among}
use Rattle.policy_diff.specs.Scope.{names}
use Rattle.policy_diff.proofs.NamedLemmas.{named_one}
use Rattle.policy_diff.proofs.askers.push_one.Goals as goal

pub returns-in_ok-push : goal.returns-in_ok-push
returns-in_ok-push c =
    let old = c.args.named.now.items in
    let number = c.in-One.number in
    let none : is_among old number ≡ false = ap (λ (l : List ℕ). is_among l number) (sym c.deref.ensures.value) ∙ sym c.is_among.ensures ∙ c.if-not-is_among.true in
    subst (λ (p : Principals). AddsNamed old c.push.new.self.items (λ principal. names principal p)) (sym c.in-One.is)
    (subst (λ (l : List ℕ). AddsNamed old l (λ other. eqb number other)) (sym c.in_ok-push.ensures.items) (named_one old number))
