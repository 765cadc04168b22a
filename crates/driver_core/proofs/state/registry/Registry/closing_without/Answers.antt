use Rattle.std.proofs.Common.{rules}
use Rattle.driver_core.proofs.TickLemmas.{closing_same}
use Rattle.driver_core.proofs.state.registry.Registry.closing_without.Goals as goal

pub returns : goal.returns
returns c = λ clients. rw (closing_same c.args.self.now c.args.now c.args.silent.now clients) (search rules)
