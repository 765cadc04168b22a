use Rattle.driver_laws.proofs.RefusedLemmas.{refused_take}
use Rattle.driver_laws.proofs.refused_events_take_only_what_the_moment_takes.Goals as goal

pub returns : goal.returns
returns c settings policy peers events = refused_take _
