use Rattle.std.proofs.Common.{ℕ, List, get_or, set, ap, ◌∙◌, add-one, arith}
use Rattle.log_readers.specs.Readers.{noted_at}
use Rattle.stream_registry.specs.declared.row.LogRow.{LogRow}
use Rattle.stream_registry.specs.Wish.{row_of}
use Rattle.log_readers.proofs.NoteLemmas.{noted_read, noted_written}
use Rattle.log_readers.proofs.readers.note_all.Goals as goal

pub note_at-requires : goal.note_at-requires
note_at-requires c =
    let read = ap (λ (readers : List (List ℕ)). get_or readers c.loop-at.at c.index-slots-at.result) c.loop-at.invariant
    ∙ noted_read (row_of c.args.wish.now) c.args.logs.now c.args.slots.now c.loop-at.at c.index-slots-at.result
    c.requires.same c.loop-at-test.true in
    rw read (c.requires.room c.loop-at.at c.index-slots-at.result (omega (arith, c.requires.same, c.loop-at-test.true)))

pub loop-at-preserved : goal.loop-at-preserved
loop-at-preserved c =
    let read = ap (λ (readers : List (List ℕ)). get_or readers c.loop-at.at c.index-slots-at.result) c.loop-at.invariant
    ∙ noted_read (row_of c.args.wish.now) c.args.logs.now c.args.slots.now c.loop-at.at c.index-slots-at.result
    c.requires.same c.loop-at-test.true in
    rw add-one
    (ap (λ (readers : List (List ℕ)). set readers c.loop-at.at c.note_at.new.numbers) c.loop-at.invariant
    ∙ noted_written (row_of c.args.wish.now) c.args.logs.now c.args.slots.now c.loop-at.at c.index-logs-at.result
    c.index-slots-at.result c.note_at.new.numbers c.requires.same c.loop-at-test.true
    (c.note_at.ensures
    ∙ ap (noted_at (row_of c.args.wish.now) c.index-logs-at.result) read
    ∙ ap (λ (log : LogRow). noted_at (row_of c.args.wish.now) log (get_or c.args.slots.now c.loop-at.at c.index-slots-at.result))
    c.index-logs-at.is))
