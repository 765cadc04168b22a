use Rattle.std.proofs.Common.{All, sym, subst}
use Rattle.std.proofs.lemmas.List.Elements.{All-filter}
use Rattle.stream_registry.specs.Lingering.{stays_live}
use Rattle.stream_registry.specs.Rest.{Rests}
use Rattle.stream_registry.proofs.streams.Streams.close.Goals as goal

pub invariant_of-self : goal.invariant_of-self
invariant_of-self c =
    let rest = Rests c.self.inside.registrations in
    λ known. subst (All rest) (sym c.close.ensures)
    (All-filter (stays_live c.args.now c.args.silent.now) rest c.self.inside.sources (c.self.invariant known))
