use Rattle.std.proofs.Common.{◌*◌, map, sym, ap, ◌∙◌}
use Rattle.log_arena.specs.Layout.{Layout}
use Rattle.log_arena.specs.Spans.{Span}
use Rattle.log_arena.proofs.Matches.{bytes_of}
use Rattle.log_arena.proofs.holes.Holes.as_slice.Goals as goal

pub returns : goal.returns
returns c =
    c.as_slice.ensures.value ∙ sym (bytes_of _ _ _ c.self.invariant.1)
    ∙ ap (λ (l : Layout). map (λ (h : Span). let s : Span = (4096 * h.0, 4096 * h.1) in s) l.spans) c.self.view_is
