use Rattle.std.proofs.Common.{ℕ, List, ◌++◌, ap, ◌∙◌}
use Rattle.std.specs.Prelude.{filter}
use Rattle.log_readers.specs.Turnover.{is_of_number, told_to}
use Rattle.stream_registry.specs.declared.pairs.Pair.{Pair}
use Rattle.stream_registry.specs.declared.row.LogRow.{LogRow}
use Rattle.stream_registry.specs.Wish.{row_of}
use Rattle.log_readers.proofs.RowLemmas.{told_of_row}
use Rattle.log_readers.proofs.readers.Readers.pairs_of_row.Goals as goal

pub returns : goal.returns
returns c clients policy epoch low last up there exact =
    let own = filter (is_of_number c.args.wish.now.number) in
    let row = row_of c.args.wish.now in
    c.in_ok-push_all_fitting.ensures
    ∙ ap (λ (pairs : List Pair). pairs ++ own (told_to row c.sources.result.now c.rows.result.now)) c.new-pairs.ensures
    ∙ ap (λ (logs : List LogRow). own (told_to row logs c.rows.result.now)) c.sources.ensures.value
    ∙ ap (λ (readers : List (List ℕ)). own (told_to row c.args.streams.now.sources readers)) (c.rows.ensures ∙ exact)
    ∙ told_of_row clients policy epoch c.args.streams.now row low last up there
