use Rattle.std.proofs.Common.{List, ap, ◌∙◌}
use Rattle.log_readers.specs.Readers.{beside}
use Rattle.stream_registry.specs.declared.row.LogRow.{LogRow}
use Rattle.stream_registry.specs.Images.{stays_beside}
use Rattle.log_readers.proofs.ReaderLemmas.{without_images_readers}
use Rattle.log_readers.proofs.readers.Readers.remove_images.Goals as goal

pub returns-clause-kept : goal.returns-clause-kept
returns-clause-kept c clients policy epoch exact =
    c.stay.ensures
    ∙ ap (λ (logs : List LogRow). beside (stays_beside c.args.numbers.now) logs c.args.self.now) c.sources.ensures.value
    ∙ ap (beside (stays_beside c.args.numbers.now) c.args.streams.now.sources) exact
    ∙ without_images_readers clients policy epoch c.args.streams.now c.args.numbers.now
