use Rattle.std.proofs.Common.{rules}
use Rattle.media_wire.proofs.Oldest.{is_oldest_of_all}
use Rattle.media_wire.proofs.doors.oldest_of.Goals as goal

pub returns-clause-oldest : goal.returns-clause-oldest
returns-clause-oldest g c = is_oldest_of_all c.args.doors.now c.loop-place.oldest c.loop-place.place c.loop-place.invariant (search rules)
