use Rattle.std.proofs.Common.{◌≡◌, rules, sym}
use Rattle.stream_registry.specs.Images.{image_of}
use Rattle.log_readers.proofs.CountLemmas.{pairs_with_image}
use Rattle.log_readers.proofs.readers.Readers.pair_count_with_image.Goals as goal

pub returns : goal.returns
returns c =
    let log : c.image-log.result ≡ image_of c.args.streams.now c.args.number c.args.wanted.now c.args.place = search rules in
    rw (
      c.total.ensures.pairs c.args.streams.now c.args.clients.now.rows c.args.policy.now c.args.epoch c.requires,
      c.readers_of.ensures.exact,
      log,
    )
    (sym (pairs_with_image c.args.clients.now.rows c.args.policy.now c.args.epoch c.args.streams.now c.args.number c.args.wanted.now
    c.args.place))
