use Rattle.std.proofs.Common.{sym, ◌∙◌}
use Rattle.log_readers.proofs.UnreadLemmas.{read_on}
use Rattle.log_readers.proofs.unread.are_all_read.Goals as goal

pub loop-at-preserved : goal.loop-at-preserved
loop-at-preserved c =
    let goes = rw c.as_slice.ensures.value at (sym c.is_unread.ensures ∙ c.if-is_unread.false) in
    read_on c.args.logs.now c.args.slots.now c.loop-at.at c.index-logs-at.result c.index-slots-at.result c.index-slots-at.result
    c.requires c.loop-at-test.true c.index-logs-at.is c.index-slots-at.is goes
    ∙ c.loop-at.invariant
