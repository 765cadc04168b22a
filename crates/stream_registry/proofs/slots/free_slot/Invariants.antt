use Rattle.std.proofs.Common.{◌≡◌, drop}
use Rattle.stream_registry.specs.Slots.{slot_from}
use Rattle.stream_registry.proofs.slots.free_slot.Given as goal

-- one try for each log so far, and the tries that are left find it
abbrev pub invariant-loop-other : goal.invariant-loop-other
invariant-loop-other l =
    (l.slot ≡ l._other-index)
    × (slot_from l.published (drop l._other-index l.logs) l.logs l.slot ≡ slot_from l.published l.logs l.logs 0)
