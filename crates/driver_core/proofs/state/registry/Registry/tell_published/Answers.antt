use Rattle.std.proofs.Common.{rules}
use Rattle.driver_core.proofs.RuledLemmas.{published_joined, published_made}
use Rattle.driver_core.proofs.state.registry.Registry.tell_published.Goals as goal

-- a log that is joined is there already
pub returns-in-Join : goal.returns-in-Join
returns-in-Join c =
    rw (
      published_joined c.args.self.now c.args.client c.args.correlation c.args.wanted.now c.args.granted.adding c.in-Join.source
          c.in-Join.session (search rules),
      ← c.requires.decided,
      ← c.next_number-number.ensures.number,
    ) (search rules)

-- one that is made opens
pub returns-in-Make : goal.returns-in-Make
returns-in-Make c =
    rw (
      published_made c.args.self.now c.args.client c.args.correlation c.args.wanted.now c.args.granted.adding c.in-Make.session
          (search rules),
      ← c.requires.decided,
      ← c.next_number-number.ensures.number,
    ) (search rules)
