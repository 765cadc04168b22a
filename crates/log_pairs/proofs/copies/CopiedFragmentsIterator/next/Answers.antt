use Rattle.std.proofs.Common.{◌≡◌, ℕ, List, [], ◌∷◌, length, ap, ap₂, subst, sym, ◌∙◌, rules}
use Rattle.log_pairs.specs.Copies.{AreWritten, read_all}
use Rattle.log_pairs.specs.Polling.{Fetched}
use Rattle.log_pairs.proofs.CopyLemmas.{has_first, nothing_read}
use Rattle.log_pairs.proofs.copies.CopiedFragmentsIterator.next.Goals as goal

pub returns-then-is_empty-clause-steps : goal.returns-then-is_empty-clause-steps
returns-then-is_empty-clause-steps c =
    let none : c.args.self.now ≡ [] = sym c.self.view_is ∙ nothing_read c.self.inside.rest.now (search rules) in
    (none, none)

pub first-requires-clause-head : goal.first-requires-clause-head
first-requires-clause-head c = (has_first c.self.inside.rest.now c.self.invariant (search rules)).head

pub first-requires-clause-payload : goal.first-requires-clause-payload
first-requires-clause-payload c = (has_first c.self.inside.rest.now c.self.invariant (search rules)).payload

pub invariant_of-self : goal.invariant_of-self
invariant_of-self c = subst AreWritten (sym c.first.ensures.behind) (has_first c.self.inside.rest.now c.self.invariant (search rules)).rest

pub returns-clause-steps : goal.returns-clause-steps
returns-clause-steps c =
    sym c.self.view_is ∙ (has_first c.self.inside.rest.now c.self.invariant (search rules)).read
    ∙ ap₂ (λ (f : Fetched) (bytes : List ℕ). f ∷ read_all bytes) (sym c.first.ensures.first) (sym c.first.ensures.behind)

pub returns-clause-goes : goal.returns-clause-goes
returns-clause-goes c =
    let shorter = ap length (returns-clause-steps c) in search rules
