use Rattle.std.proofs.Common.{ℕ, List, get_or, set, ap, ◌∙◌, add-one}
use Rattle.log_readers.specs.Readers.{forgotten_at}
use Rattle.stream_registry.specs.declared.row.LogRow.{LogRow}
use Rattle.stream_registry.specs.Wish.{row_of}
use Rattle.log_readers.proofs.RowLemmas.{forgotten_read, forgotten_written}
use Rattle.log_readers.proofs.subscribing.forget_all.Goals as goal

pub loop-at-preserved : goal.loop-at-preserved
loop-at-preserved c =
    let read = ap (λ (readers : List (List ℕ)). get_or readers c.loop-at.at c.index-slots-at.result) c.loop-at.invariant
    ∙ forgotten_read (row_of c.args.wish.now) c.args.logs.now c.args.slots.now c.loop-at.at c.index-slots-at.result
    c.requires c.loop-at-test.true in
    rw add-one
    (ap (λ (readers : List (List ℕ)). set readers c.loop-at.at c.forget_at.new.numbers) c.loop-at.invariant
    ∙ forgotten_written (row_of c.args.wish.now) c.args.logs.now c.args.slots.now c.loop-at.at c.index-logs-at.result
    c.index-slots-at.result c.forget_at.new.numbers c.requires c.loop-at-test.true
    (c.forget_at.ensures
    ∙ ap (forgotten_at (row_of c.args.wish.now) c.index-logs-at.result) read
    ∙ ap (λ (log : LogRow). forgotten_at (row_of c.args.wish.now) log (get_or c.args.slots.now c.loop-at.at c.index-slots-at.result))
    c.index-logs-at.is))
