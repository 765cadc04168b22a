use Rattle.std.proofs.Common.{◌≡◌, List, subst, ap, ◌∙◌}
use Rattle.std.specs.Prelude.{IfOk}
use Rattle.log_readers.specs.Turnover.{told}
use Rattle.stream_registry.specs.declared.pairs.Pair.{Pair}
use Rattle.stream_registry.specs.declared.row.LogRow.{LogRow}
use Rattle.log_readers.proofs.ListLemmas.{all_pass}
use Rattle.log_readers.proofs.TellLemmas.{told_pairs}
use Rattle.log_readers.proofs.readers.Readers.pairs.Goals as goal

pub returns : goal.returns
returns c clients policy epoch exact =
    subst (λ (all : List Pair). IfOk c.pairs_that.result (λ pairs. pairs ≡ all))
    (all_pass (told c.sources.result.now c.args.self.now)
    ∙ ap (λ (logs : List LogRow). told logs c.args.self.now) c.sources.ensures.value
    ∙ ap (told c.args.streams.now.sources) exact
    ∙ told_pairs clients policy epoch c.args.streams.now) c.pairs_that.ensures
