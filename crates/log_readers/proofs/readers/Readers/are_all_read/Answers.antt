use Rattle.std.proofs.Common.{ℕ, List, ap, ◌∙◌}
use Rattle.log_readers.specs.Unread.{has_none, unread_beside}
use Rattle.log_readers.proofs.UnreadLemmas.{unread_numbers}
use Rattle.log_readers.proofs.readers.Readers.are_all_read.Goals as goal
use Rattle.stream_registry.specs.declared.row.LogRow.{LogRow}

pub returns : goal.returns
returns c clients policy epoch low last up exact =
    c.are_all_read.ensures
    ∙ ap (λ (logs : List LogRow). has_none (unread_beside logs c.rows.result.now)) c.sources.ensures.value
    ∙ ap (λ (readers : List (List ℕ)). has_none (unread_beside c.args.streams.now.sources readers)) (c.rows.ensures ∙ exact)
    ∙ ap has_none (unread_numbers clients policy epoch c.args.streams.now low last up)
