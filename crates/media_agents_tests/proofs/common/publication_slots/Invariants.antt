use Rattle.std.proofs.Common.{◌≡◌, ◌+◌, ◌*◌, ◌^◌}
use Rattle.media_agents_tests.proofs.common.publication_slots.Given as goal

abbrev pub invariant-loop-made : goal.invariant-loop-made
invariant-loop-made g l = (l.amount.parts + l._made ≡ 4) × (l.amount.number + l._made * 2 ^ 55 ≡ 3 * 2 ^ 55)
