use Rattle.std.proofs.Common.{◌≡◌, ◌+◌, ◌/◌, ◌≤◌, sym, ap, ◌∙◌, subst, arith}
use Rattle.log_arena.specs.Homes.{Home}
use Rattle.log_arena.specs.Pages.{Region}
use Rattle.log_arena.specs.Spans.{Span, paged}
use Rattle.log_arena.proofs.Places.{table-sized}
use Rattle.log_arena.proofs.Tables.{spaced_count}
use Rattle.log_arena.proofs.arena.Arena.give.Goals as goal

pub put_back-requires-clause-room : goal.put_back-requires-clause-room
put_back-requires-clause-room c =
    omega (arith, spaced_count 0 c.self.inside.pages c.self.inside.holes.spans (omega arith) c.self.invariant.spaced, c.self.invariant.room)

pub returns-clause-sized : goal.returns-clause-sized
returns-clause-sized c =
    let pages = c.self.inside.pages in let l = c.args.lease in
    let most : l.pages ≡ pages = ap (λ (home : Home). home.pages) c.requires ∙ ap (λ (r : Region). r.home.pages) (sym c.self.view_is) in
    let within : l.place / 4096 + l.bytes.len / 4096 ≤ pages = omega (arith, l.housed.within, l.housed.whole_place, l.housed.whole_len, most) in
    let given = c.put_back.ensures.given pages c.self.invariant.spaced
    (subst (λ (s : Span). (paged s).0 + (paged s).1 ≤ pages) (sym c.into_run-run.ensures.0) within) in
    table-sized pages c.put_back.new.self.spans given.spaced
