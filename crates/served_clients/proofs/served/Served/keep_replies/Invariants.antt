use Rattle.served_clients.specs.Acts.{Tends, sitting}
use Rattle.served_clients.proofs.served.Served.keep_replies.Given as goal

abbrev pub invariant-loop : goal.invariant-loop
invariant-loop g l = Tends (sitting l.fn.self.client l.fn.self.kept.items) (sitting l.self.client l.self.kept.items)
