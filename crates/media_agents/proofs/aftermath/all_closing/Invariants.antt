use Rattle.std.proofs.Common.{◌≡◌, take}
use Rattle.media_agents.specs.Asking.{closing}
use Rattle.media_agents.proofs.aftermath.all_closing.Given as goal

abbrev pub invariant-loop-place : goal.invariant-loop-place
invariant-loop-place l = l.logs ≡ closing l.registry (take l.place-index l.closes)
