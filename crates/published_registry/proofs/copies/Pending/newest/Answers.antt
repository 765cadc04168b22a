use Rattle.std.proofs.Common.{◌∙◌, ap, subst}
use Rattle.published_registry.specs.Histories.{IsHistory, registry_of}
use Rattle.published_registry.proofs.Steps.{waits_newest, waits_legal}
use Rattle.published_registry.proofs.copies.Pending.newest.Goals as goal

pub returns : goal.returns
returns c =
    let pending = c.self.inside in
    let waits = c.self.invariant.0 in
    record {
      newest = waits_newest pending.board.desk.place.me.0.client pending.board.desk.shown.value pending.newest pending.front pending.head pending.entry waits
          ∙ ap registry_of c.self.view_is;
      legal = subst IsHistory c.self.view_is (waits_legal pending.board.desk.place.me.0.client pending.board.desk.shown.value pending.newest pending.front pending.head pending.entry waits);
    }
