use Rattle.std.proofs.Common.{rules}
use Rattle.driver_core.proofs.PairLemmas.{request_kept}
use Rattle.driver_core.proofs.state.registry.Registry.outcome_of_quiet.Goals as goal

-- no pair goes or comes
pub returns : goal.returns
returns c =
    λ inputs.
    rw (request_kept c.args.self.now c.args.asking.now c.args.asking.handle inputs c.args.asking.client c.args.command.now
    c.requires.quiet) (search rules)
