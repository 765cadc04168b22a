use Rattle.std.proofs.Common.{subst, sym}
use Rattle.service_bounds.specs.Counts.{IsWithin}
use Rattle.service_bounds.proofs.CountLemmas.{answered_within}
use Rattle.service_bounds.proofs.holdings.Holdings.answered.Goals as goal

pub returns-clause-within : goal.returns-clause-within
returns-clause-within c = λ within.
    let bounds = c.args.self.now.bounds in
    let settled = answered_within bounds c.args.now c.args.client c.args.correlation c.args.outcome c.args.self.now.flights.items c.args.self.now.rows.items within in
    let rows = subst (IsWithin bounds) (sym c.settle.ensures.rows) settled in
    subst (λ bounds. IsWithin bounds c.settle.new.self.rows.items) (sym c.settle.ensures.bounds) rows
