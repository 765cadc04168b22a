use Rattle.std.proofs.Common.{◌∙◌, ◌++◌, ◌∷◌, [], ap, sym, subst}
use Rattle.published_registry.specs.Histories.{History, Known, IsPlannedOn, registry_of}
use Rattle.published_registry.proofs.copies.Copies.begin.Goals as goal

pub invariant_of-result : goal.invariant_of-result
invariant_of-result c =
    let copies = c.self.inside in (
      record {
        before = copies.newest;
        was = copies.front;
        stands = c.self.invariant.0;
        book = c.add.ensures.book ∙ ap (λ (k : Known). k.book) c.again-front.ensures;
        entries = c.if-not-add.ensures.added ∙ ap (λ (k : Known). k.entries ++ c.args.entry ∷ []) c.again-front.ensures;
        planned = subst (λ (h : History). IsPlannedOn (registry_of h) c.args.entry) (sym c.self.view_is) c.requires.planned;
        own = c.apply.ensures;
      },
      c.self.invariant.1,
    )
