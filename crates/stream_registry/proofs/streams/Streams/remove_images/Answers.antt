use Rattle.std.proofs.Common.{All, sym, subst}
use Rattle.std.proofs.lemmas.List.Elements.{All-filter}
use Rattle.stream_registry.specs.Images.{stays_beside}
use Rattle.stream_registry.specs.Rest.{Rests}
use Rattle.stream_registry.proofs.streams.Streams.remove_images.Goals as goal

pub invariant_of-self : goal.invariant_of-self
invariant_of-self c =
    let rest = Rests c.self.inside.registrations in
    λ known. subst (All rest) (sym c.remove_images.ensures)
    (All-filter (stays_beside c.args.numbers.now) rest c.self.inside.sources (c.self.invariant known))
