use Rattle.std.proofs.Common.{sym}
use Rattle.log_readers.proofs.CountLemmas.{pairs_with_subscription}
use Rattle.log_readers.proofs.readers.Readers.pair_count_with_subscription.Goals as goal

pub returns : goal.returns
returns c =
    rw (
      c.total.ensures.pairs c.args.streams.now c.args.clients.now.rows c.args.policy.now c.args.epoch c.requires,
      c.logs_read.ensures.exact,
    )
    (sym (pairs_with_subscription c.args.clients.now.rows c.args.policy.now c.args.epoch c.args.streams.now
    c.args.wish.now.number c.args.wish.now.client c.args.wish.now.channel.now c.args.wish.now.stream))
