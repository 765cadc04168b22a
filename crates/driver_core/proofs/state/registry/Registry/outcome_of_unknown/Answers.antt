use Rattle.std.proofs.Common.{rules}
use Rattle.driver_core.proofs.PairLemmas.{refused_kept}
use Rattle.driver_core.proofs.state.registry.Registry.outcome_of_unknown.Goals as goal

pub returns : goal.returns
returns c =
    λ inputs. rw (refused_kept c.args.self.now c.args.now inputs c.args.handle c.args.correlation c.args.refusal) (search rules)
