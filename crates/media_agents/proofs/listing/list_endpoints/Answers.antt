use Rattle.std.proofs.Common.{List, [], subst, sym, ◌∙◌}
use Rattle.std.proofs.lemmas.List.{take_all}
use Rattle.stream_registry.specs.declared.row.Subscription.{Subscription}
use Rattle.media_agents.specs.Finding.{AreNamed, endpoint_in, named_by}
use Rattle.media_agents.proofs.FindingLemmas.{addresses_more, none_named}
use Rattle.media_agents.proofs.listing.list_endpoints.Goals as goal

pub loop-subscription-init : goal.loop-subscription-init
loop-subscription-init c = subst (AreNamed []) (sym c.clear.ensures) none_named

pub loop-subscription-preserved : goal.loop-subscription-preserved
loop-subscription-preserved c =
    addresses_more endpoint_in c.subscriptions-subscription-items.result.now c.loop-subscription.subscription-index c.subscription-item.result c.loop-subscription.endpoints
    c.add_endpoint_of.new.endpoints c.loop-subscription-test.true c.subscription-item.is c.loop-subscription.invariant c.add_endpoint_of.ensures

pub returns : goal.returns
returns c =
    subst (λ (all : List Subscription). AreNamed (named_by all) c.loop-subscription.endpoints)
    (take_all c.loop-subscription.subscription-index c.subscriptions-subscription-items.result.now c.loop-subscription-test.false ∙ c.subscriptions-subscription-items.ensures)
    c.loop-subscription.invariant
