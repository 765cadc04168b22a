use Rattle.std.proofs.Common.{List, length, filter, sym, subst, ap, ◌∙◌}
use Rattle.stream_registry.specs.declared.row.LogRow.{LogRow}
use Rattle.stream_registry.specs.Few.{AreFew}
use Rattle.stream_registry.specs.Images.{stays_beside}
use Rattle.stream_registry.specs.Origins.{is_published}
use Rattle.stream_registry.proofs.FewLemmas.{kept_few}
use Rattle.stream_registry.proofs.sources.Sources.remove_images.Goals as goal

pub invariant_of-self : goal.invariant_of-self
invariant_of-self c = record {
  few =
      subst AreFew (sym c.retain.ensures)
      (kept_few (stays_beside c.args.numbers.now) c.self.inside.rows c.self.invariant.few);
  count =
      c.publications_among-self-inside.ensures ∙ ap (λ (logs : List LogRow). length (filter is_published logs)) c.as_slice.ensures.value;
}
