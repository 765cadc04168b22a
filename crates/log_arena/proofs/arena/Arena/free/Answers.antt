use Rattle.std.proofs.Common.{◌*◌, sym, ap, ◌∙◌, arith}
use Rattle.log_arena.specs.Pages.{Region, free_bytes}
use Rattle.log_arena.proofs.Places.{free_pages, total_within}
use Rattle.log_arena.proofs.arena.Arena.free.Goals as goal

pub total-requires : goal.total-requires
total-requires c = omega (arith, total_within c.self.inside.pages c.self.inside.holes.spans c.self.invariant.spaced, c.self.invariant.small)

pub returns : goal.returns
returns c =
    c.total.ensures ∙ ap (λ n. 4096 * n) (sym (free_pages 0 c.self.inside.pages c.self.inside.holes.spans)) ∙ ap (λ (r : Region). free_bytes r.leased) c.self.view_is
