use Rattle.std.proofs.Common.{ℕ, List, ap, ◌∙◌}
use Rattle.log_readers.specs.Finding.{is_among}
use Rattle.stream_registry.specs.Pairs.{pairs_of}
use Rattle.log_readers.proofs.FindLemmas.{among_source}
use Rattle.log_readers.proofs.readers.Readers.has.Goals as goal

pub returns : goal.returns
returns c clients policy epoch low last up exact =
    c.is_among.ensures
    ∙ ap (λ (numbers : List ℕ). is_among numbers c.args.number) (c.of_source.ensures.exact clients policy epoch low last up exact)
    ∙ among_source c.args.source c.args.number (pairs_of c.args.streams.now clients policy epoch)
