use Rattle.std.proofs.Common.{rules}
use Rattle.driver_steps.specs.declared.step.Step.TheVariants.{Poll}
use Rattle.driver_steps.proofs.CachingLemmas.{cached_at, cached_set}
use Rattle.driver_steps.proofs.ServingLemmas.{step_serves}
use Rattle.driver_steps.proofs.stepped_driver.SteppedDriver.poll.Goals as goal

pub invariant_of-self : goal.invariant_of-self
invariant_of-self c = (
  c.poll_by.ensures.kept.on c.self.inside.registry c.self.invariant.0,
  cached_set c.self.inside.registry c.self.inside.caches.items _ c.poll_by.new.asker c.self.invariant.1 c.poll_by.ensures.right,
)

pub poll_by-requires : goal.poll_by-requires
poll_by-requires c =
    let few = c.self.invariant.1.count in
    cached_at c.self.inside.registry c.self.inside.caches.items _ c.index_mut.result.now c.self.invariant.1 (search (rules, few))
    c.index_mut.ensures.value

pub returns-in-None-clause-serves : goal.returns-in-None-clause-serves
returns-in-None-clause-serves c =
    rw (← c.self.view_is, c.in-None.is)
    (step_serves c.self.inside.registry c.self.inside.registry c.self.inside.logs c.poll_by.new.logs
    (Poll c.args._now c.args.client c.args.subscription c.args.source c.args.limit) c.poll_by.result.answer (λ e has. has)
    c.poll_by.ensures.serves)

pub returns-in-Some-clause-serves : goal.returns-in-Some-clause-serves
returns-in-Some-clause-serves c =
    rw (← c.self.view_is, c.in-Some.is)
    (step_serves c.in-Some.older.now c.self.inside.registry c.self.inside.logs c.poll_by-in-Some.new.logs
    (Poll c.args._now c.args.client c.args.subscription c.args.source c.args.limit) c.poll_by-in-Some.result.answer (λ e has. has)
    c.poll_by-in-Some.ensures.serves)
