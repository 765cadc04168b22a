use Rattle.std.proofs.Common.{◌≡◌, ◌+◌, ◌*◌, ◌^◌}
use Rattle.media_driver.proofs.starting.publication_slots.Given as goal

abbrev pub invariant-loop-made : goal.invariant-loop-made
invariant-loop-made g l = (l.amount.parts + l._made ≡ 321) × (l.amount.number + l._made * 2 ^ 55 ≡ 256 * 2 ^ 55)
