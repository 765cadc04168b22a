use Rattle.std.proofs.Common.{rules}
use Rattle.driver_core.proofs.OpeningLemmas.{joined_is, made_is, numbered_before}
use Rattle.driver_core.proofs.state.registry.Registry.outcome_of_published.Goals as goal

pub next_number-requires : goal.next_number-requires
next_number-requires c =
    numbered_before c.args.self.now c.args.asking.now c.args.asking.handle c.args.asking.client.number c.args.wanted.now
    c.args.granted.adding c.requires.room

pub outcome_of_made-requires : goal.outcome_of_made-requires
outcome_of_made-requires c =
    numbered_before c.args.self.now c.args.asking.now c.args.asking.handle c.args.asking.client.number c.args.wanted.now
    c.args.granted.adding c.requires.room

-- a log that is joined brings no image
pub returns-in-Join : goal.returns-in-Join
returns-in-Join c =
    rw (
      joined_is c.args.self.now c.args.asking.now c.args.asking.handle c.args.inputs.now c.args.asking.client
          c.args.asking.correlation c.args.wanted.now c.args.granted.adding c.in-Join.source c.in-Join.session (search rules),
      ← c.requires.decided,
      ← c.next_number.ensures.number,
    ) (search rules)

-- one that is made brings its own alone
pub returns-in-Make : goal.returns-in-Make
returns-in-Make c =
    rw (
      made_is c.args.self.now c.args.asking.now c.args.asking.handle c.args.inputs.now c.args.asking.client
          c.args.asking.correlation c.args.wanted.now c.args.granted.adding c.in-Make.session c.next_number.ensures.in_order
          (search rules),
      ← c.requires.decided,
      ← c.next_number.ensures.number,
    ) (search rules)
