use Rattle.std.proofs.Common.{List, ap, ◌∙◌}
use Rattle.log_readers.specs.Unread.{unread_beside}
use Rattle.stream_registry.specs.declared.row.LogRow.{LogRow}
use Rattle.stream_registry.specs.Images.{without_images}
use Rattle.log_readers.proofs.UnreadLemmas.{unread_gone, unread_numbers}
use Rattle.log_readers.proofs.readers.Readers.unread.Goals as goal

pub unread_beside-requires-clause-few : goal.unread_beside-requires-clause-few
unread_beside-requires-clause-few c = c.sources.ensures.kinds.remote

pub returns-clause-numbers : goal.returns-clause-numbers
returns-clause-numbers c clients policy epoch low last up exact =
    c.unread_beside.ensures
    ∙ ap (λ (logs : List LogRow). unread_beside logs c.rows.result.now) c.sources.ensures.value
    ∙ ap (unread_beside c.args.streams.now.sources) (c.rows.ensures ∙ exact)
    ∙ unread_numbers clients policy epoch c.args.streams.now low last up

pub returns-clause-gone : goal.returns-clause-gone
returns-clause-gone c clients policy epoch low last up exact =
    ap (without_images c.args.streams.now)
    (c.unread_beside.ensures
    ∙ ap (λ (logs : List LogRow). unread_beside logs c.rows.result.now) c.sources.ensures.value
    ∙ ap (unread_beside c.args.streams.now.sources) (c.rows.ensures ∙ exact)
    ∙ unread_numbers clients policy epoch c.args.streams.now low last up)
    ∙ unread_gone clients policy epoch c.args.streams.now low last up
