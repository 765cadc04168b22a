use Rattle.std.proofs.Common.{rules}
use Rattle.driver_core.proofs.KeptLemmas.{found_owned, heard_owned}
use Rattle.driver_core.proofs.state.registry.Registry.do_asked.Goals as goal

-- the client is there, once it was heard of too
pub do_requested-requires-clause-owned : goal.do_requested-requires-clause-owned
do_requested-requires-clause-owned c =
    rw c.hear.ensures
    (heard_owned c.args.self.now c.args.handle c.in-Some.client.number
    (found_owned c.args.self.now.clients.rows c.args.handle c.in-Some.client (search rules)))
