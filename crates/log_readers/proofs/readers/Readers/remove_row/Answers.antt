use Rattle.std.proofs.Common.{List, ap, ◌∙◌}
use Rattle.log_readers.specs.Readers.{forgotten}
use Rattle.stream_registry.specs.declared.row.LogRow.{LogRow}
use Rattle.stream_registry.specs.Wish.{row_of}
use Rattle.log_readers.proofs.RowLemmas.{forgotten_readers}
use Rattle.log_readers.proofs.readers.Readers.remove_row.Goals as goal

pub returns : goal.returns
returns c clients policy epoch client low last up there known exact =
    c.forget.ensures
    ∙ ap (λ (logs : List LogRow). forgotten (row_of c.args.wish.now) logs c.args.self.now) c.sources.ensures.value
    ∙ ap (forgotten (row_of c.args.wish.now) c.args.streams.now.sources) exact
    ∙ forgotten_readers clients policy epoch c.args.streams.now client (row_of c.args.wish.now) low last up there known
