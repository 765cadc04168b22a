use Rattle.std.proofs.Common.{◌≡◌, ◌+◌, ◌/◌, ◌<◌, ◌≤◌, true, get_or, sym, ap, ◌∙◌, subst, arith}
use Rattle.log_arena.specs.Homes.{Home}
use Rattle.log_arena.specs.Lease.{HasItsPages}
use Rattle.log_arena.specs.Pages.{Region, has_lease}
use Rattle.log_arena.specs.Spans.{Span, paged}
use Rattle.log_arena.specs.declared.lease.Lease.{Lease}
use Rattle.log_arena.proofs.Matches.{div_some}
use Rattle.log_arena.proofs.Tables.{Fits, pages_held, spaced_count}
use Rattle.log_arena.proofs.arena.Arena.beside.Goals as goal

pub place_of-at-requires-clause-room : goal.place_of-at-requires-clause-room
place_of-at-requires-clause-room c =
    omega (arith, spaced_count 0 c.self.inside.pages c.self.inside.holes.spans (omega arith) c.self.invariant.spaced, c.self.invariant.room)

pub returns-clause-leased : goal.returns-clause-leased
unfolding HasItsPages
returns-clause-leased c =
    λ k h.
    let l = c.args.lease in let pages = c.self.inside.pages in let hs = c.self.inside.holes.spans in let at = c.place_of-at.result.0 in
    let s : Span = (l.place / 4096, l.bytes.len / 4096) in
    let same : paged c.into_run-run.result.0 ≡ s =
    ap paged (c.into_run-run.ensures.0 ∙ ap (λ (x : Lease). let p : Span = (x.place, x.bytes.len) in p) c.start-start.ensures.unchanged) in
    let most : l.pages ≡ pages = ap (λ (home : Home). home.pages) c.requires ∙ ap (λ (r : Region). r.home.pages) (sym c.self.view_is) in
    let fits : Fits pages hs at s = record {
      spaced = c.self.invariant.spaced;
      place = c.place_of-at.ensures.bound;
      some = div_some l.bytes.len l.housed.whole_len l.housed.some;
      within = omega (arith, l.housed.within, l.housed.whole_place, l.housed.whole_len, most);
      left = λ i e. subst (λ (p : Span). (get_or hs i (0, 0)).0 + (get_or hs i (0, 0)).1 ≤ p.0) same (c.place_of-at.ensures.left i (omega arith));
      right = λ e. subst (λ (p : Span). p.0 + p.1 ≤ (get_or hs at (0, 0)).0) same (c.place_of-at.ensures.right e);
    } in
    let from : l.place / 4096 ≤ k = omega (arith, h.0) in
    let to : k < l.place / 4096 + l.bytes.len / 4096 = omega (arith, h.1, l.housed.whole_place, l.housed.whole_len) in
    subst (λ (r : Region). has_lease r.leased k ≡ true) c.self.view_is (pages_held pages hs at s k fits from to)
