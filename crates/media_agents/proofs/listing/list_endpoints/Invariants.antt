use Rattle.std.proofs.Common.{take}
use Rattle.media_agents.specs.Finding.{AreNamed, named_by}
use Rattle.media_agents.proofs.listing.list_endpoints.Given as goal

abbrev pub invariant-loop-subscription : goal.invariant-loop-subscription
invariant-loop-subscription l = AreNamed (named_by (take l.subscription-index l.subscription-items)) l.endpoints
