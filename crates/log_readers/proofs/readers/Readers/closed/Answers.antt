use Rattle.std.proofs.Common.{rules}
use Rattle.log_readers.proofs.ClosedLemmas.{closed_places}
use Rattle.log_readers.proofs.readers.Readers.closed.Goals as goal

pub returns : goal.returns
returns c clients policy epoch low last up exact =
    rw (← closed_places clients policy epoch c.args.streams.now c.args.closes.now c.args.gone.now c.args.come.now low last up, ← exact)
    (search rules)
