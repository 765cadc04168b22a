use Rattle.std.proofs.Common.{◌≡◌, List, subst, ap, ◌∙◌}
use Rattle.std.specs.Prelude.{IfOk, filter}
use Rattle.log_readers.specs.Turnover.{is_going, told}
use Rattle.stream_registry.specs.declared.pairs.Pair.{Pair}
use Rattle.stream_registry.specs.declared.row.LogRow.{LogRow}
use Rattle.log_readers.proofs.TellLemmas.{told_pairs}
use Rattle.log_readers.proofs.readers.Readers.pairs_of_going.Goals as goal

pub returns : goal.returns
returns c rows policy epoch exact =
    subst (λ (all : List Pair). IfOk c.pairs_that.result (λ pairs. pairs ≡ filter (is_going c.args.streams.now c.args.clients.now c.args.closes.now) all))
    (ap (λ (logs : List LogRow). told logs c.args.self.now) c.sources.ensures.value
    ∙ ap (told c.args.streams.now.sources) exact
    ∙ told_pairs rows policy epoch c.args.streams.now) c.pairs_that.ensures
