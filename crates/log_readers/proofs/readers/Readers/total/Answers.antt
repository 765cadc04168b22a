use Rattle.std.proofs.Common.{ℕ, List, length, take, ap, ◌∙◌}
use Rattle.std.specs.List.{sum_by}
use Rattle.log_readers.proofs.CountLemmas.{readers_are_pairs}
use Rattle.log_readers.proofs.readers.Readers.total.Goals as goal

pub returns-clause-pairs : goal.returns-clause-pairs
returns-clause-pairs c s clients policy epoch exact =
    c.total_of.ensures.exact
    ∙ ap (λ (slots : List (List ℕ)). sum_by (λ (numbers : List ℕ). length numbers) (take c.self.inside.used slots)) c.deref.ensures.value
    ∙ ap (sum_by (λ (numbers : List ℕ). length numbers)) c.self.view_is
    ∙ ap (sum_by (λ (numbers : List ℕ). length numbers)) exact
    ∙ readers_are_pairs clients policy epoch s
