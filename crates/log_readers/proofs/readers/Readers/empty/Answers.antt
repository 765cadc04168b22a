use Rattle.std.proofs.Common.{◌∙◌, arith}
use Rattle.log_readers.proofs.NoteLemmas.{emptied}
use Rattle.log_readers.proofs.readers.Readers.empty.Goals as goal

pub returns : goal.returns
returns c =
    c.empty_used.ensures.emptied
    ∙ emptied c.args.logs.now c.self.inside.slots.items (omega (arith, c.requires, c.self.invariant))
