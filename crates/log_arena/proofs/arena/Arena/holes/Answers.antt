use Rattle.std.proofs.Common.{◌*◌, List, map, sym, ap, ◌∙◌, arith}
use Rattle.log_arena.specs.Pages.{Region, holes_of}
use Rattle.log_arena.specs.Spans.{Span}
use Rattle.log_arena.proofs.Places.{runs-table}
use Rattle.log_arena.proofs.arena.Arena.holes.Goals as goal

pub returns : goal.returns
unfolding holes_of
returns c =
    let hs = c.self.inside.holes.spans in
    c.as_slice.ensures
    ∙ ap (λ (l : List Span). map (λ (h : Span). let s : Span = (4096 * h.0, 4096 * h.1) in s) l) (sym (runs-table 0 0 c.self.inside.pages hs (omega arith) c.self.invariant.spaced))
    ∙ ap (λ (r : Region). holes_of r.leased) c.self.view_is
