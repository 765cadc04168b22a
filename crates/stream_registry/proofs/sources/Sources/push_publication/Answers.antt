use Rattle.std.proofs.Common.{ℕ, ◌+◌, ◌<◌, List, length, filter, sym, subst, ap, ◌∙◌, arith}
use Rattle.stream_registry.specs.declared.row.LogRow.{LogRow}
use Rattle.stream_registry.specs.Few.{AreFew}
use Rattle.stream_registry.specs.Origins.{is_published}
use Rattle.stream_registry.proofs.FewLemmas.{published_count, published_few, room_for_publication}
use Rattle.stream_registry.proofs.sources.Sources.push_publication.Goals as goal

pub push-requires : goal.push-requires
push-requires c =
    let room = subst (λ (logs : List LogRow). length (filter is_published logs) < 256) (sym c.self.view_is) c.requires.room in
    (omega arith, room_for_publication c.self.inside.rows room c.self.invariant.few)

pub invariant_of-self : goal.invariant_of-self
invariant_of-self c =
    let room = subst (λ (logs : List LogRow). length (filter is_published logs) < 256) (sym c.self.view_is) c.requires.room in
    record {
      few =
          subst AreFew (sym c.push.ensures)
          (published_few c.self.inside.rows c.args.log c.requires.kind room c.self.invariant.few);
      count =
          ap (λ (n : ℕ). n + 1) c.self.invariant.count
          ∙ sym (published_count c.self.inside.rows c.args.log c.requires.kind)
          ∙ ap (λ (logs : List LogRow). length (filter is_published logs)) (sym c.push.ensures);
    }
