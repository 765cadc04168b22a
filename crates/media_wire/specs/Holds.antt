-- A wire under a lock.
use Rattle.std.specs.Prelude.{List, [], ◌∷◌, ◌++◌}
use Rattle.media_wire.specs.Events.{Event}

-- in one hold of the lock a call of the wire did this: what the wire was then, what it was made, and that one event more went
pub record IsHeld {W : Type 0} (went : W → List Event → Type 0) (event : Event) : Type 0 where
  pub found : W
  pub left : W
  pub goes : (events : List Event) → went found events → went left (events ++ event ∷ [])
