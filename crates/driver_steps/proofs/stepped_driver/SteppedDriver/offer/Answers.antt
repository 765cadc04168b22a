use Rattle.std.proofs.Common.{rules}
use Rattle.driver_steps.proofs.CachingLemmas.{cached_at, cached_set}
use Rattle.driver_steps.proofs.ServingLemmas.{offer_serves}
use Rattle.driver_steps.proofs.stepped_driver.SteppedDriver.offer.Goals as goal

pub invariant_of-self : goal.invariant_of-self
invariant_of-self c = (
  c.offer_by.ensures.kept.on c.self.inside.registry c.self.invariant.0,
  cached_set c.self.inside.registry c.self.inside.caches.items _ c.offer_by.new.asker c.self.invariant.1 c.offer_by.ensures.right,
)

pub offer_by-requires : goal.offer_by-requires
offer_by-requires c =
    let few = c.self.invariant.1.count in
    cached_at c.self.inside.registry c.self.inside.caches.items _ c.index_mut.result.now c.self.invariant.1 (search (rules, few))
    c.index_mut.ensures.value

pub returns-in-None-clause-serves : goal.returns-in-None-clause-serves
returns-in-None-clause-serves c =
    rw (← c.self.view_is, c.in-None.is)
    (offer_serves c.self.inside.registry c.self.inside.registry c.self.inside.logs c.offer_by.new.logs c.args.now c.args.client
    c.args.registration c.args.message.now c.offer_by.result.answer c.offer_by.ensures.serves)

pub returns-in-Some-clause-serves : goal.returns-in-Some-clause-serves
returns-in-Some-clause-serves c =
    rw (← c.self.view_is, c.in-Some.is)
    (offer_serves c.in-Some.older.now c.self.inside.registry c.self.inside.logs c.offer_by-in-Some.new.logs c.args.now c.args.client
    c.args.registration c.args.message.now c.offer_by-in-Some.result.answer c.offer_by-in-Some.ensures.serves)
