use Rattle.compiled_policy.specs.Numbered.{standing}
use Rattle.std.proofs.Common.{sym, ◌∙◌}
use Rattle.driver_core.proofs.ClosedLemmas.{none_there, read_by, read_registry}
use Rattle.driver_core.proofs.KeptLemmas.{kept_length}
use Rattle.driver_core.proofs.state.registry.Registry.drop_all_unread.Goals as goal

pub are_all_read-requires : goal.are_all_read-requires
are_all_read-requires c =
    kept_length c.self.inside.streams c.self.inside.clients.rows (standing c.self.inside.compiled) c.self.inside.compiled.epoch c.self.inside.last_number
    c.self.inside.readers c.self.invariant.kept

pub returns-then-are_all_read : goal.returns-then-are_all_read
returns-then-are_all_read c =
    rw (← c.self.view_is)
    (sym (read_registry _
    (read_by c.self.inside.streams c.self.inside.clients.rows (standing c.self.inside.compiled) c.self.inside.compiled.epoch
    (none_there _
    (sym (c.are_all_read.ensures c.self.inside.clients.rows (standing c.self.inside.compiled) c.self.inside.compiled.epoch 0 c.self.inside.last_number
    c.self.invariant.kept.order.sources c.self.invariant.kept.exact) ∙ c.if-are_all_read.true)))))

pub invariant_of-self : goal.invariant_of-self
invariant_of-self c = record {
  kept = c.self.invariant.kept;
  read = λ is.
      read_by c.self.inside.streams c.self.inside.clients.rows (standing c.self.inside.compiled) c.self.inside.compiled.epoch
      (none_there _
      (sym (c.are_all_read.ensures c.self.inside.clients.rows (standing c.self.inside.compiled) c.self.inside.compiled.epoch 0 c.self.inside.last_number
      c.self.invariant.kept.order.sources c.self.invariant.kept.exact) ∙ c.if-are_all_read.true));
}
