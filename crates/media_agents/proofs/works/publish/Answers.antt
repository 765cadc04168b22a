use Rattle.std.proofs.Common.{subst, sym}
use Rattle.driver_core.specs.Soundness.{IsSound}
use Rattle.media_agents.proofs.RowLemmas.{sound_more}
use Rattle.media_agents.proofs.works.publish.Goals as goal

pub open_next-requires : goal.open_next-requires
open_next-requires g c =
    subst IsSound (sym c.newest.ensures.newest) (sound_more c.args.publisher c.in-Ok.begun c.args.entry c.in-Ok.ensures c.requires.sound)
