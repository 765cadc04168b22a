use Rattle.std.proofs.Common.{◌≡◌, ◌+◌, not, sym, ap, ◌∙◌, arith}
use Rattle.std.specs.List.{count_by}
use Rattle.log_arena.specs.Pages.{Region}
use Rattle.log_arena.proofs.Places.{pages_counted}
use Rattle.log_arena.proofs.arena.Arena.used.Goals as goal

pub overflow_sub-result : goal.overflow_sub-result
overflow_sub-result c =
    let t = c.args.self.now.leased in
    let all : count_by (λ b. b) t + count_by not t ≡ c.self.inside.pages =
    ap (λ (r : Region). count_by (λ b. b) r.leased + count_by not r.leased) (sym c.self.view_is) ∙ pages_counted c.self.inside.pages c.self.inside.holes.spans c.self.invariant.spaced in
    omega (arith, all, c.free.ensures)

pub returns : goal.returns
returns c =
    let t = c.args.self.now.leased in
    let all : count_by (λ b. b) t + count_by not t ≡ c.self.inside.pages =
    ap (λ (r : Region). count_by (λ b. b) r.leased + count_by not r.leased) (sym c.self.view_is) ∙ pages_counted c.self.inside.pages c.self.inside.holes.spans c.self.invariant.spaced in
    omega (arith, all, c.free.ensures)
