use Rattle.std.proofs.Common.{◌≡◌, rules, sym, ap, length, ◌∙◌}
use Rattle.policy_core.specs.Moments.{at, coming}
use Rattle.stream_registry.specs.Adding.{log_of}
use Rattle.log_readers.proofs.ProspectLemmas.{prospects_joined, prospects_with_log}
use Rattle.log_readers.proofs.prospects.prospect_count_with_publication.Goals as goal

-- a log that is joined has its pairs already
pub returns-in-Join : goal.returns-in-Join
returns-in-Join c =
    rw c.in-Join.is
    (c.prospect_count-count.ensures.exact
    ∙ sym (ap length (prospects_joined c.args.clients.now.rows (at c.args.policy.now c.args.moment) (coming c.args.policy.now c.args.moment) c.args.epoch c.args.streams.now c.args.number
    c.args.client c.args.wanted.now c.args.place c.in-Join.source c.in-Join.session)))

-- a new log brings its own
pub returns-in-Make : goal.returns-in-Make
returns-in-Make c =
    let log : c.log-log.result ≡ log_of c.args.streams.now c.args.number c.args.wanted.now c.args.place c.in-Make.session = search rules in
    rw (
      c.in-Make.is,
      c.prospect_count-count.ensures.exact,
      c.ever_readers_of.ensures.exact,
      log,
    )
    (sym (prospects_with_log c.args.clients.now.rows (at c.args.policy.now c.args.moment) (coming c.args.policy.now c.args.moment) c.args.epoch c.args.streams.now c.args.number c.args.client
    c.args.wanted.now c.args.place c.in-Make.session))
