use Rattle.std.proofs.Common.{◌<◌, ◌/◌, List, length, get_or, sym, ap, subst, arith}
use Rattle.log_arena.specs.Layout.{Layout}
use Rattle.log_arena.specs.Spans.{Span}
use Rattle.log_arena.proofs.Matches.{paged_at, div_lt}
use Rattle.log_arena.proofs.holes.Holes.first_fit.Goals as goal

pub returns-clause-short : goal.returns-clause-short
returns-clause-short c =
    λ k h.
    let bytes : (get_or c.self.inside.spans.items k (0, 0)).1 < c.args.len =
    subst (λ (t : List Span). (get_or t k (0, 0)).1 < c.args.len) c.as_slice.ensures.value (c.first_long.ensures.short k h) in
    let here : k < length c.self.inside.spans.items = omega (arith, c.first_long.ensures.bound, ap (λ (t : List Span). length t) c.as_slice.ensures.value) in
    let page = paged_at _ k _ _ _ (ap (λ (l : Layout). l.spans) c.self.view_is) c.self.invariant.1 here in
    subst (λ (s : Span). s.1 < c.args.len / 4096) (sym page.0) (div_lt _ _ page.2 c.requires bytes)
