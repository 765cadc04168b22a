use Rattle.compiled_policy.specs.Numbered.{standing}
use Rattle.std.proofs.Common.{List, map, sym, ap, ◌∙◌}
use Rattle.driver_core.specs.Pairs.{pairs_of}
use Rattle.log_readers.specs.Numbering.{source_of}
use Rattle.log_readers.specs.Unread.{has_none}
use Rattle.stream_registry.specs.declared.row.LogRow.{LogRow}
use Rattle.driver_core.proofs.KeptLemmas.{kept_length}
use Rattle.driver_core.proofs.state.registry.Registry.are_all_read.Goals as goal

pub returns-then-self : goal.returns-then-self
unfolding pairs_of
returns-then-self c =
    c.if-self.true ∙ (rw (← c.self.view_is)
    (sym (ap (λ (logs : List LogRow). has_none (map source_of logs)) (c.self.invariant.read c.if-self.true).all)))

pub are_all_read-requires : goal.are_all_read-requires
are_all_read-requires c =
    kept_length c.self.inside.streams c.self.inside.clients.rows (standing c.self.inside.compiled) c.self.inside.compiled.epoch c.self.inside.last_number
    c.self.inside.readers c.self.invariant.kept

pub returns-else-self : goal.returns-else-self
unfolding pairs_of
returns-else-self c =
    rw (← c.self.view_is)
    (c.are_all_read.ensures c.self.inside.clients.rows (standing c.self.inside.compiled) c.self.inside.compiled.epoch 0 c.self.inside.last_number
    c.self.invariant.kept.order.sources c.self.invariant.kept.exact)
