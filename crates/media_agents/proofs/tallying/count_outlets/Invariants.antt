use Rattle.std.proofs.Common.{◌≡◌, fold, take}
use Rattle.media_agents.specs.Tallying.{after_outlet}
use Rattle.media_agents.proofs.tallying.count_outlets.Given as goal

abbrev pub invariant-loop-outlet : goal.invariant-loop-outlet
invariant-loop-outlet l = l.tallies ≡ fold after_outlet l.fn.tallies (take l.outlet-index l.outlets)
