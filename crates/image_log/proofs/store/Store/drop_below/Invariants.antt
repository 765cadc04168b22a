use Rattle.std.proofs.Common.{◌≡◌, length}
use Rattle.std.specs.Prelude.{filter}
use Rattle.image_log.specs.Order.{begins_from}
use Rattle.image_log.proofs.store.Store.drop_below.Given as goal

-- no frame has gone that has to stay
abbrev pub invariant-loop-self : goal.invariant-loop-self
invariant-loop-self l =
    (l.self.held ≡ l.initial.self.held) × (l.self.low ≡ l.initial.self.low) × (filter (begins_from l.low) l.self.frames ≡ filter (begins_from l.low) l.initial.self.frames)
    × (l.self.beside ≡ l.initial.self.beside)

abbrev pub decreases-loop-self : goal.decreases-loop-self
decreases-loop-self l = length l.self.frames
