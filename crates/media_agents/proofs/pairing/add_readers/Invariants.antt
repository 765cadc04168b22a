use Rattle.std.proofs.Common.{◌≡◌, ◌++◌, take}
use Rattle.driver_core.specs.Readers.{readers_of}
use Rattle.media_agents.proofs.pairing.add_readers.Given as goal

abbrev pub invariant-loop-pair : goal.invariant-loop-pair
invariant-loop-pair l = l.room ≡ take 512 (l.fn.room ++ readers_of (take l.pair-index l.come) l.source)
