use Rattle.std.proofs.Common.{ap, subst, List}
use mathlib.Core.List.{IsPrefix}
use Rattle.driver_core.specs.declared.state.entry.Entry.{Entry}
use Rattle.published_registry.proofs.Fronts.{prefix_either}
use Rattle.published_registry.proofs.front.Front.begins.Goals as goal

pub returns : goal.returns
returns c =
    let both = c.learn.new.self.log in
    let this : IsPrefix c.self.inside.seen.log both = subst (λ (l : List Entry). IsPrefix l both) (ap (λ s. s.log) c.again-both.ensures) c.learn.ensures.2 in
    rw (← c.self.view_is, ← c.other.view_is, c.self.invariant, c.other.invariant) (prefix_either c.self.inside.seen.log c.other.inside.seen.log both this c.learn.ensures.3)
