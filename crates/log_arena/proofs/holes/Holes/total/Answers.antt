use Rattle.std.proofs.Common.{◌≡◌, ◌*◌, ap, ◌∙◌, arith}
use Rattle.log_arena.specs.Layout.{Layout}
use Rattle.log_arena.specs.Spans.{total}
use Rattle.log_arena.proofs.Matches.{total-pages}
use Rattle.log_arena.proofs.holes.Holes.total.Goals as goal

pub sum_of-requires : goal.sum_of-requires
sum_of-requires c =
    let e : total c.as_slice.result.now ≡ 4096 * total c.args.self.now.spans =
    ap total c.as_slice.ensures.value ∙ total-pages _ _ _ c.self.invariant.1 ∙ ap (λ (l : Layout). 4096 * total l.spans) c.self.view_is in
    omega (arith, e, c.requires)

pub returns : goal.returns
returns c =
    c.sum_of.ensures ∙ ap total c.as_slice.ensures.value ∙ total-pages _ _ _ c.self.invariant.1 ∙ ap (λ (l : Layout). 4096 * total l.spans) c.self.view_is
