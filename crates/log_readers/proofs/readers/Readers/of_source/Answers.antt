use Rattle.std.proofs.Common.{List, ap, ◌∙◌}
use Rattle.log_readers.specs.Finding.{numbers_at}
use Rattle.log_readers.proofs.FindLemmas.{found_readers}
use Rattle.log_readers.proofs.readers.Readers.of_source.Goals as goal
use Rattle.stream_registry.specs.declared.row.LogRow.{LogRow}

pub returns-clause-exact : goal.returns-clause-exact
returns-clause-exact c clients policy epoch low last up exact =
    c.numbers_at.ensures.exact
    ∙ ap (λ (logs : List LogRow). numbers_at c.args.source logs c.rows.result.now) c.sources.ensures.value
    ∙ ap (numbers_at c.args.source c.args.streams.now.sources) (c.rows.ensures ∙ exact)
    ∙ found_readers clients policy epoch c.args.streams.now c.args.source low last up
