use Rattle.std.proofs.Common.{[], sym, subst}
use Rattle.driver_core.proofs.SoundnessLemmas.{registries_sound}
use Rattle.driver_core.specs.Soundness.{IsSound}
use Rattle.media_agents_tests.proofs.parts.opened_with.Goals as goal

pub returns : goal.returns
returns c = subst IsSound (sym c.in_ok-registry.ensures) (registries_sound c.args.settings c.in_ok-policy.policy c.args.peers.now [] c.requires)
