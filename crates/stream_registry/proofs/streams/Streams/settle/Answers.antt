use Rattle.std.proofs.Common.{All, sym, subst}
use Rattle.stream_registry.specs.Rest.{Rests}
use Rattle.stream_registry.proofs.RestLemmas.{all_settled}
use Rattle.stream_registry.proofs.streams.Streams.settle.Goals as goal

pub invariant_of-self : goal.invariant_of-self
invariant_of-self c =
    let settled = rw c.as_slice.ensures.value at c.settle.ensures in
    λ _. subst (All (Rests c.self.inside.registrations)) (sym settled)
    (all_settled c.self.inside.registrations c.args.now c.self.inside.sources)
