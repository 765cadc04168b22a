use Rattle.std.proofs.Common.{List, length, filter, sym, subst, ap, ◌∙◌}
use Rattle.stream_registry.specs.declared.row.LogRow.{LogRow}
use Rattle.stream_registry.specs.Few.{AreFew}
use Rattle.stream_registry.specs.Origins.{is_published}
use Rattle.stream_registry.proofs.FewLemmas.{settled_few, settled_count}
use Rattle.stream_registry.proofs.sources.Sources.settle.Goals as goal

pub invariant_of-self : goal.invariant_of-self
invariant_of-self c = record {
  few =
      subst AreFew (sym c.change.ensures)
      (settled_few c.args.registrations.now c.args.now c.self.inside.rows c.self.invariant.few);
  count =
      c.self.invariant.count
      ∙ sym (settled_count c.args.registrations.now c.args.now c.self.inside.rows)
      ∙ ap (λ (logs : List LogRow). length (filter is_published logs)) (sym c.change.ensures);
}
