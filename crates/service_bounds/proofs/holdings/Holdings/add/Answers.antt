use Rattle.service_bounds.proofs.CountLemmas.{added_within}
use Rattle.service_bounds.proofs.holdings.Holdings.add.Goals as goal

pub returns-clause-within : goal.returns-clause-within
returns-clause-within c = λ within.
    added_within c.args.self.now.bounds c.args.now c.args.self.now.rows.items c.args.row c.add_row.new.rows.items c.add_row.result c.add_row.ensures within
