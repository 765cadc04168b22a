use Rattle.std.proofs.Common.{sym, ◌∙◌}
use Rattle.stream_registry.specs.Wish.{row_of}
use Rattle.log_readers.proofs.FittingLemmas.{reads_none}
use Rattle.log_readers.proofs.coming.pairs_of_subscription.Goals as goal

pub returns-then-not-is_allowed : goal.returns-then-not-is_allowed
returns-then-not-is_allowed c =
    c.new-pairs.ensures
    ∙ sym (reads_none c.args.clients.now.rows c.args.policy.now c.args.epoch (row_of c.args.wish.now) c.args.streams.now.sources
    (sym c.is_allowed.ensures ∙ c.if-not-is_allowed.true))
