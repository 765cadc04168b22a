use Rattle.std.proofs.Common.{◌≡◌, ◌-◌, List, length, filter, ap, ◌∙◌, arith}
use Rattle.stream_registry.specs.declared.row.LogRow.{LogRow}
use Rattle.stream_registry.specs.Origins.{is_remote}
use Rattle.stream_registry.proofs.FewLemmas.{all_of}
use Rattle.stream_registry.proofs.sources.Sources.images.Goals as goal

pub overflow_sub-result : goal.overflow_sub-result
overflow_sub-result c =
    let all = all_of c.self.inside.rows in
    omega (arith, all, c.len.ensures.value, c.self.invariant.count)

-- those that are no publications
pub returns : goal.returns
returns c =
    let all = all_of c.self.inside.rows in
    let images : c.len.result - c.self.inside.published ≡ length (filter is_remote c.self.inside.rows) =
    omega (arith, all, c.len.ensures.value, c.self.invariant.count) in
    images ∙ ap (λ (logs : List LogRow). length (filter is_remote logs)) c.self.view_is
