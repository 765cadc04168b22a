use Rattle.std.proofs.Common.{◌≡◌, rules, sym}
use Rattle.policy_core.specs.Moments.{at, coming}
use Rattle.stream_registry.specs.Images.{image_of}
use Rattle.log_readers.proofs.ProspectLemmas.{prospects_with_image}
use Rattle.log_readers.proofs.prospects.prospect_count_with_image.Goals as goal

pub returns : goal.returns
returns c =
    let log : c.image-log.result ≡ image_of c.args.streams.now c.args.number c.args.wanted.now c.args.place = search rules in
    rw (
      c.prospect_count.ensures.exact,
      c.ever_readers_of.ensures.exact,
      log,
    )
    (sym (prospects_with_image c.args.clients.now.rows (at c.args.policy.now c.args.moment) (coming c.args.policy.now c.args.moment) c.args.epoch c.args.streams.now c.args.number c.args.wanted.now
    c.args.place))
