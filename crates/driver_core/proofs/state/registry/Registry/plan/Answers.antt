use Rattle.driver_core.proofs.SoundnessLemmas.{moves_logs}
use Rattle.driver_core.proofs.state.registry.Registry.plan.Goals as goal

-- each event moves the logs
pub returns-clause-moves : goal.returns-clause-moves
returns-clause-moves c = moves_logs c.args.self.now c.args.event.now c.args.inputs.now
