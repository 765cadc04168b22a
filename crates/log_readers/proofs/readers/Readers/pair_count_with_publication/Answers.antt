use Rattle.std.proofs.Common.{◌≡◌, rules, sym, ap, length, ◌∙◌}
use Rattle.stream_registry.specs.Adding.{log_of}
use Rattle.log_readers.proofs.CountLemmas.{pairs_with_log}
use Rattle.log_readers.proofs.SameLemmas.{joined_alike}
use Rattle.log_readers.proofs.readers.Readers.pair_count_with_publication.Goals as goal

-- a log that is joined has its pairs already
pub returns-in-Join : goal.returns-in-Join
returns-in-Join c =
    rw c.in-Join.is
    (c.total-total.ensures.pairs c.args.streams.now c.args.clients.now.rows c.args.policy.now c.args.epoch c.requires
    ∙ sym (ap length (joined_alike c.args.policy.now c.args.epoch c.args.streams.now c.args.clients.now.rows c.args.number
    c.args.client c.args.wanted.now c.args.place c.in-Join.source c.in-Join.session).pairs))

-- a new log brings its own
pub returns-in-Make : goal.returns-in-Make
returns-in-Make c =
    let log : c.log-log.result ≡ log_of c.args.streams.now c.args.number c.args.wanted.now c.args.place c.in-Make.session = search rules in
    rw (
      c.in-Make.is,
      c.total-total.ensures.pairs c.args.streams.now c.args.clients.now.rows c.args.policy.now c.args.epoch c.requires,
      c.readers_of.ensures.exact,
      log,
    )
    (sym (pairs_with_log c.args.clients.now.rows c.args.policy.now c.args.epoch c.args.streams.now c.args.number c.args.client
    c.args.wanted.now c.args.place c.in-Make.session))
