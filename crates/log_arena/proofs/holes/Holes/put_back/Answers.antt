use Rattle.std.proofs.Common.{◌≡◌, ℕ, false, suc, ◌-◌, length, sym, ap, ◌∙◌, subst, arith}
use Rattle.std.specs.List.{insert}
use Rattle.std.proofs.lemmas.List.Edits.{length-insert}
use Rattle.log_arena.specs.Layout.{Layout}
use Rattle.log_arena.specs.Spans.{Span, Remade, paged, seamed}
use Rattle.log_arena.proofs.Matches.{div_some}
use Rattle.log_arena.proofs.Tables.{Fits, given_zero, given_suc, seamed-length}
use Rattle.log_arena.proofs.holes.Holes.put_back.Goals as goal

-- the layout with a hole put in, and with a seam closed
abbrev put : ℕ → Span → Layout → Layout
put at s l = record l { spans = insert l.spans at s }

abbrev seam : ℕ → Layout → Layout
seam at l = record l { spans = seamed at l.spans }

pub seam-requires-2 : goal.seam-requires-2
seam-requires-2 c =
    let at = c.place_of-at.result.0 in let s = paged c.args.span in let old : Layout = c.args.self.now in
    let new = c.seam.ensures ∙ ap (seam at) (c.put_in.ensures ∙ ap (put at s) c.place_of-at.ensures.same) in
    let long = length-insert old.spans at s c.place_of-at.ensures.bound in
    let less = seamed-length at (insert old.spans at s) in
    omega (arith, ap (λ (l : Layout). length l.spans) new, ap (λ (l : Layout). l.room) new, long, less, c.requires.room)

pub returns-then-at-eq0-clause-given : goal.returns-then-at-eq0-clause-given
returns-then-at-eq0-clause-given c =
    λ end spaced within.
    let at = c.place_of-at.result.0 in let s = paged c.args.span in let old : Layout = c.args.self.now in
    let new = c.seam.ensures ∙ ap (seam at) (c.put_in.ensures ∙ ap (put at s) c.place_of-at.ensures.same) in
    let first : at ≡ 0 = omega arith in
    let fits : Fits end old.spans at s = record {
      spaced = spaced;
      place = c.place_of-at.ensures.bound;
      some = div_some c.args.span.1 c.requires.is.whole_len c.requires.is.some;
      within = within;
      left = λ i h. c.place_of-at.ensures.left i (omega arith);
      right = c.place_of-at.ensures.right;
    } in
    subst (λ t. Remade false end old.spans s t) (sym (ap (λ (l : Layout). l.spans) new ∙ ap (λ k. seamed k (insert old.spans k s)) first))
    (given_zero end old.spans s (subst (λ k. Fits end old.spans k s) first fits))

pub returns-clause-given : goal.returns-clause-given
returns-clause-given c =
    λ end spaced within.
    let at = c.place_of-at.result.0 in let s = paged c.args.span in let old : Layout = c.args.self.now in let i = at - 1 in
    let new = c.seam-2.ensures ∙ ap (seam i) (c.seam.ensures ∙ ap (seam at) (c.put_in.ensures ∙ ap (put at s) c.place_of-at.ensures.same)) in
    let next : at ≡ suc i = omega arith in
    let fits : Fits end old.spans at s = record {
      spaced = spaced;
      place = c.place_of-at.ensures.bound;
      some = div_some c.args.span.1 c.requires.is.whole_len c.requires.is.some;
      within = within;
      left = λ j h. c.place_of-at.ensures.left j (omega arith);
      right = c.place_of-at.ensures.right;
    } in
    subst (λ t. Remade false end old.spans s t) (sym (ap (λ (l : Layout). l.spans) new ∙ ap (λ k. seamed i (seamed k (insert old.spans k s))) next))
    (given_suc end old.spans i s (subst (λ k. Fits end old.spans k s) next fits))
