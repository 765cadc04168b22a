use Rattle.std.proofs.Common.{◌∙◌, ℕ, List, [], ◌∷◌, ◌++◌, ap, subst, sym}
use Rattle.policy_lint.specs.Hiding.{IsHiddenBy}
use Rattle.policy_lint.proofs.HiderLemmas.{hidden_by_one}
use Rattle.policy_lint.proofs.hiding.hidden_by.Goals as goal

pub returns-clause-sound : goal.returns-clause-sound
returns-clause-sound c = λ rules hider.
    subst (λ (places : List ℕ). IsHiddenBy rules c.args.at places)
    (sym (c.in_ok-push.ensures.items ∙ ap (λ (items : List ℕ). items ++ c.args.place ∷ []) c.new-by.ensures.items))
    (hidden_by_one rules c.args.place c.args.at hider)
