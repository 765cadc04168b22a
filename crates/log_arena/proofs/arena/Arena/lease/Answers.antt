use Rattle.std.proofs.Common.{◌≡◌, ◌/◌, ◌<◌, ◌≤◌, length, get_or, sym, ap, ◌∙◌, subst, arith}
use denote.RawPtr.{InBlock, Ptr, count_of}
use Rattle.log_arena.specs.Pages.{Region, HasNoPlace, IsLeastPlace}
use Rattle.log_arena.specs.Spans.{Span}
use Rattle.log_arena.proofs.Matches.{div_some, place_counted}
use Rattle.log_arena.proofs.Places.{least_at, none_at, table-sized}
use Rattle.log_arena.proofs.Tables.{spaced_count, spaced_within}
use Rattle.log_arena.proofs.arena.Arena.lease.Goals as goal

pub returns-then-at-len-clause-none : goal.returns-then-at-len-clause-none
returns-then-at-len-clause-none c =
    let n = c.args.len / 4096 in let hs = c.self.inside.holes.spans in
    let last : c.first_fit-at.result ≡ length hs = omega arith in
    subst (λ (r : Region). HasNoPlace r.leased n) c.self.view_is
    (none_at n c.self.inside.pages c.first_fit-at.result hs (div_some c.args.len c.requires.1 c.requires.0) c.self.invariant.spaced last c.first_fit-at.ensures.short)

pub take_front-place-requires-clause-room : goal.take_front-place-requires-clause-room
take_front-place-requires-clause-room c =
    omega (arith, spaced_count 0 c.self.inside.pages c.self.inside.holes.spans (omega arith) c.self.invariant.spaced, c.self.invariant.room)

pub zeroed-requires-clause-housed : goal.zeroed-requires-clause-housed
zeroed-requires-clause-housed c =
    let hs = c.self.inside.holes.spans in let at = c.first_fit-at.result in let place = c.take_front-place.result.0 in
    let here : at < length hs = omega (arith, c.first_fit-at.ensures.bound) in
    let within = spaced_within 0 c.self.inside.pages at hs c.self.invariant.spaced here in
    let long = c.first_fit-at.ensures.long here in
    let is = c.take_front-place.ensures.is in
    let placed = subst (λ (p : Ptr). InBlock p) (sym c.take_front-place.ensures.rest.0) c.take_front-place.ensures.placed in
    record {
      some = c.requires.0;
      whole_place = is.whole_place;
      whole_len = c.requires.1;
      within = omega (arith, within, long, c.take_front-place.ensures.first, is.whole_place, c.requires.1);
      behind = subst (λ (p : Ptr). place ≤ count_of p) (sym c.start_of-start.ensures) (place_counted c.take_front-place.new.self.base place placed);
    }

pub returns-clause-least : goal.returns-clause-least
returns-clause-least c =
    let n = c.args.len / 4096 in let hs = c.self.inside.holes.spans in let at = c.first_fit-at.result in
    let here : at < length hs = omega (arith, c.first_fit-at.ensures.bound) in
    let place : (get_or hs at (0, 0)).0 ≡ c.zeroed.result.place / 4096 =
    sym c.take_front-place.ensures.first ∙ ap (λ p. p / 4096) (sym c.zeroed.ensures.place) in
    subst (λ (r : Region). IsLeastPlace r.leased n (c.zeroed.result.place / 4096)) c.self.view_is
    (subst (λ p. IsLeastPlace (Rattle.log_arena.specs.Spans.table 0 c.self.inside.pages hs) n p) place
    (least_at n c.self.inside.pages at hs (div_some c.args.len c.requires.1 c.requires.0) c.self.invariant.spaced here c.first_fit-at.ensures.short (c.first_fit-at.ensures.long here)))

pub returns-then-at-len-clause-sized : goal.returns-then-at-len-clause-sized
returns-then-at-len-clause-sized c =
    subst (λ (r : Region). length r.leased ≡ r.home.pages) c.self.view_is (table-sized c.self.inside.pages c.self.inside.holes.spans c.self.invariant.spaced)

pub returns-clause-sized : goal.returns-clause-sized
returns-clause-sized c =
    table-sized c.self.inside.pages c.take_front-place.new.self.spans (c.take_front-place.ensures.taken c.self.inside.pages c.self.invariant.spaced).spaced
