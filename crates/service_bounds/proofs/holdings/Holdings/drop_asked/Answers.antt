use Rattle.std.proofs.Common.{subst, sym}
use Rattle.service_bounds.specs.Changes.{was_not_asked}
use Rattle.service_bounds.specs.Counts.{IsWithin}
use Rattle.service_bounds.proofs.CountLemmas.{within_filter}
use Rattle.service_bounds.proofs.holdings.Holdings.drop_asked.Goals as goal

pub returns-clause-within : goal.returns-clause-within
returns-clause-within c = λ within.
    subst (IsWithin c.args.self.now.bounds) (sym c.take_back.ensures) (within_filter c.args.self.now.bounds (was_not_asked c.args.client c.args.correlation) c.args.self.now.rows.items within)
