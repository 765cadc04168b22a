use Rattle.std.proofs.Common.{List, ap, ◌∙◌}
use Rattle.log_readers.specs.Readers.{beside}
use Rattle.stream_registry.specs.declared.row.LogRow.{LogRow}
use Rattle.stream_registry.specs.Lingering.{stays_live}
use Rattle.log_readers.proofs.ReaderLemmas.{closed_readers}
use Rattle.log_readers.proofs.readers.Readers.close.Goals as goal

pub returns-clause-kept : goal.returns-clause-kept
returns-clause-kept c clients policy epoch exact =
    c.stay.ensures
    ∙ ap (λ (logs : List LogRow). beside (stays_live c.args.now c.args.silent.now) logs c.args.self.now) c.sources.ensures.value
    ∙ ap (beside (stays_live c.args.now c.args.silent.now) c.args.streams.now.sources) exact
    ∙ closed_readers clients policy epoch c.args.streams.now c.args.now c.args.silent.now
