use Rattle.std.proofs.Common.{◌<◌, ◌/◌, List, length, get_or, sym, ap, subst, arith}
use Rattle.log_arena.specs.Layout.{Layout}
use Rattle.log_arena.specs.Spans.{Span}
use Rattle.log_arena.proofs.Matches.{paged_at, div_lt}
use Rattle.log_arena.proofs.holes.Holes.begun_before.Goals as goal

pub returns-clause-ahead : goal.returns-clause-ahead
returns-clause-ahead c =
    λ k h.
    let bytes : (get_or c.self.inside.spans.items k (0, 0)).0 < c.args.place =
    subst (λ (t : List Span). (get_or t k (0, 0)).0 < c.args.place) c.as_slice.ensures.value (c.begun.ensures.ahead k h) in
    let here : k < length c.self.inside.spans.items = omega (arith, c.begun.ensures.bound, ap (λ (t : List Span). length t) c.as_slice.ensures.value) in
    let page = paged_at _ k _ _ _ (ap (λ (l : Layout). l.spans) c.self.view_is) c.self.invariant.1 here in
    subst (λ (s : Span). s.0 < c.args.place / 4096) (sym page.0) (div_lt _ _ page.1 c.requires bytes)
