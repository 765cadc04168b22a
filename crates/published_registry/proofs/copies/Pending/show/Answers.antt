use Rattle.std.proofs.Common.{◌∙◌, ap}
use Rattle.published_registry.specs.Histories.{Known}
use Rattle.published_registry.proofs.Steps.{stands_goes, stands_after}
use Rattle.published_registry.proofs.copies.Pending.show.Goals as goal

pub show-board-requires-clause-keeps : goal.show-board-requires-clause-keeps
show-board-requires-clause-keeps g c =
    let pending = c.self.inside in
    let waits = c.self.invariant.0 in
    stands_goes pending.board.desk.place.me.0.client pending.board.desk.shown.value waits.before waits.was pending.head pending.entry c.again.result waits.stands
    (ap (λ (k : Known). k.book) c.again.ensures ∙ waits.book)
    (ap (λ (k : Known). k.entries) c.again.ensures ∙ waits.entries)
    waits.planned

pub invariant_of-copies : goal.invariant_of-copies
invariant_of-copies g c =
    let pending = c.self.inside in
    let waits = c.self.invariant.0 in (
      stands_after pending.board.desk.place.me.0.client pending.board.desk.shown.value waits.before waits.was pending.head pending.entry pending.front c.again.result waits.stands
          c.again.ensures waits.book
          _ c.show-board.ensures.value _ c.show-board.ensures.sees _ waits.own,
      c.show-board.ensures.shown,
    )
