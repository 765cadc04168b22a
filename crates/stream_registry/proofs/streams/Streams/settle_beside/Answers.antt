use Rattle.std.proofs.Common.{◌≡◌, All, map, rules, sym, subst, ◌∙◌}
use Rattle.stream_registry.specs.Lingering.{settled, settled_one}
use Rattle.stream_registry.specs.Rest.{Rests, RestsBeside}
use Rattle.stream_registry.specs.Streams.{Streams}
use Rattle.stream_registry.proofs.RestLemmas.{all_settled, settled_beside}
use Rattle.stream_registry.proofs.streams.Streams.settle_beside.Goals as goal

pub invariant_of-self : goal.invariant_of-self
invariant_of-self c =
    let rows = c.self.inside.registrations in
    let others = subst (λ (s : Streams). All (RestsBeside c.args.source s.registrations) s.sources) (sym c.self.view_is) c.requires in
    let beside = settled_beside c.args.source rows c.args.now c.self.inside.sources others in
    let settled = (rw c.as_slice.ensures.value at c.settle_where.ensures) ∙ beside in
    λ _. subst (All (Rests rows)) (sym settled) (all_settled rows c.args.now c.self.inside.sources)

pub returns : goal.returns
unfolding settled
returns c =
    let rows = c.self.inside.registrations in
    let others = subst (λ (s : Streams). All (RestsBeside c.args.source s.registrations) s.sources) (sym c.self.view_is) c.requires in
    let beside = settled_beside c.args.source rows c.args.now c.self.inside.sources others in
    let settled : c.settle_where.new.self ≡ map (settled_one rows c.args.now) c.self.inside.sources =
    (rw c.as_slice.ensures.value at c.settle_where.ensures) ∙ beside in
    search (rules, settled)
