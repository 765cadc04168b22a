use Rattle.std.proofs.Common.{subst, sym}
use Rattle.service_bounds.specs.Changes.{left}
use Rattle.service_bounds.specs.Counts.{IsWithin}
use Rattle.service_bounds.proofs.CountLemmas.{left_kind, within_map}
use Rattle.service_bounds.proofs.holdings.Holdings.leave.Goals as goal

pub returns-clause-within : goal.returns-clause-within
returns-clause-within c = λ within.
    subst (IsWithin c.args.self.now.bounds) (sym c.remove_all.ensures) (within_map c.args.self.now.bounds (left c.args.now c.args.client) (left_kind c.args.now c.args.client) c.args.self.now.rows.items within)
