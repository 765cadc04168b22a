use Rattle.std.proofs.Common.{sym}
use Rattle.policy_core.specs.Moments.{at, coming}
use Rattle.log_readers.proofs.ProspectLemmas.{prospects_with_subscription}
use Rattle.log_readers.proofs.prospects.prospect_count_with_subscription.Goals as goal

pub returns : goal.returns
returns c =
    rw (
      c.prospect_count.ensures.exact,
      c.logs_ever_read.ensures.exact,
    )
    (sym (prospects_with_subscription c.args.clients.now.rows (at c.args.policy.now c.args.moment) (coming c.args.policy.now c.args.moment) c.args.epoch c.args.streams.now
    c.args.wish.now.number c.args.wish.now.client c.args.wish.now.channel.now c.args.wish.now.stream))
