use Rattle.std.proofs.Common.{◌≡◌, ℕ, ◌+◌, ◌*◌, ◌%◌, ◌^◌, ◌≤◌, false, length, sym, ap, ◌∙◌, subst, arith}
use Rattle.std.specs.List.{list_any, insert}
use Rattle.image_log.specs.Frame.{framed}
use Rattle.image_log.specs.Handed.{IsFor, offset_of}
use Rattle.image_log.specs.Log.{IsLog, Log}
use Rattle.image_log.specs.Order.{Ordered, meets, rank}
use Rattle.image_log.specs.Rebuilt.{Rebuilt, insert_of}
use Rattle.image_log.specs.Stored.{Stored}
use Rattle.image_log.specs.declared.insert.Insert.TheVariants.{Taken}
use Rattle.image_log.proofs.Orders.{length-put, put_ordered, rank-le}
use Rattle.image_log.proofs.Taken.{in_term, log_elsewhere, log_here, place_whole, position_fits, span_fits, taken, within_room}
use Rattle.image_log.proofs.log.ImageLog.take.Goals as goal

pub put-requires-clause-place : goal.put-requires-clause-place
put-requires-clause-place c = omega (arith, rank-le c.args.position c.self.inside.store.frames, (c.requires.rank ∙ ap (λ (l : Log). rank c.args.position l.rebuilt.frames) (sym c.self.view_is)))

pub put-requires-clause-size : goal.put-requires-clause-size
put-requires-clause-size c =
    let fits = span_fits c.args.self.now.rebuilt.ident c.args.position c.args.frame.now c.requires.of in
    omega (arith, fits.1, c.requires.span)

pub put-requires-clause-whole : goal.put-requires-clause-whole
put-requires-clause-whole c =
    let of = subst (λ (r : Rebuilt). IsFor r.ident c.args.position c.args.frame.now) (sym (ap (λ (l : Log). l.rebuilt) c.self.view_is)) c.requires.of in
    let view : Rebuilt = Rattle.image_log.specs.Log.rebuilt_of c.self.inside.ident c.self.inside.join c.self.inside.base c.self.inside.greatest c.self.inside.moment c.self.inside.status c.self.inside.pairs c.self.inside.store in
    let facts = taken view c.args.position c.args.frame.now (subst (λ (r : Rebuilt). insert_of r c.args.position c.args.frame.now ≡ Taken) (sym (ap (λ (l : Log). l.rebuilt) c.self.view_is)) c.requires.taken) in
    let fits = span_fits c.self.inside.ident c.args.position c.args.frame.now of in
    let whole = place_whole c.self.inside.ident c.args.position c.args.frame.now of (omega (arith, c.self.invariant.terms)) facts.2 (omega (arith, fits.0)) in
    subst (λ (n : ℕ). c.args.position % n + c.args.span ≤ n) (sym c.self.invariant.room)
    (subst (λ (s : ℕ). c.args.position % (3 * c.self.inside.ident.term_length) + s ≤ 3 * c.self.inside.ident.term_length) (sym c.requires.span) whole)

pub put-requires-clause-order : goal.put-requires-clause-order
put-requires-clause-order c =
    let of = subst (λ (r : Rebuilt). IsFor r.ident c.args.position c.args.frame.now) (sym (ap (λ (l : Log). l.rebuilt) c.self.view_is)) c.requires.of in
    let view : Rebuilt = Rattle.image_log.specs.Log.rebuilt_of c.self.inside.ident c.self.inside.join c.self.inside.base c.self.inside.greatest c.self.inside.moment c.self.inside.status c.self.inside.pairs c.self.inside.store in
    let facts = taken view c.args.position c.args.frame.now (subst (λ (r : Rebuilt). insert_of r c.args.position c.args.frame.now ≡ Taken) (sym (ap (λ (l : Log). l.rebuilt) c.self.view_is)) c.requires.taken) in
    let fits = span_fits c.self.inside.ident c.args.position c.args.frame.now of in
    let apart : list_any (meets c.args.position (c.args.position + c.args.span)) c.self.inside.store.frames ≡ false =
    subst (λ (s : ℕ). list_any (meets c.args.position (c.args.position + s)) c.self.inside.store.frames ≡ false) (sym c.requires.span) facts.3 in
    let low : c.self.inside.store.low ≤ c.args.position = subst (λ (k : ℕ). k ≤ c.args.position) (sym c.self.invariant.low) facts.0 in
    let takes : 32 ≤ c.args.span = subst (λ (s : ℕ). 32 ≤ s) (sym c.requires.span) fits.0 in
    let fit : offset_of c.args.frame.now + c.args.span ≤ c.self.inside.ident.term_length =
    subst (λ (s : ℕ). offset_of c.args.frame.now + s ≤ c.self.inside.ident.term_length) (sym c.requires.span) facts.2 in
    let room = within_room c.self.inside.join c.self.inside.base c.self.inside.ident.term_length c.args.position c.args.span (offset_of c.args.frame.now) c.self.invariant.terms.0 facts.1 fit in
    let order = subst (λ (k : ℕ). Ordered c.self.inside.store.low (c.self.inside.store.low + c.self.inside.store.held.len) (insert c.self.inside.store.frames k (framed c.args.position c.args.span c.args.frame.now)))
    (sym (c.requires.rank ∙ ap (λ (l : Log). rank c.args.position l.rebuilt.frames) (sym c.self.view_is)))
    (put_ordered c.args.position c.args.span c.self.inside.store.low (c.self.inside.store.low + c.self.inside.store.held.len) c.args.frame.now c.self.inside.store.frames
    c.self.invariant.order low takes (omega (arith, room, c.self.invariant.low, c.self.invariant.room)) apart) in
    order

pub chain-self-inside-requires : goal.chain-self-inside-requires
chain-self-inside-requires c =
    let within = rank-le c.args.position c.self.inside.store.frames in
    let long = length-put c.self.inside.store.frames c.args.at (framed c.args.position c.args.span c.args.frame.now) (omega (arith, within, (c.requires.rank ∙ ap (λ (l : Log). rank c.args.position l.rebuilt.frames) (sym c.self.view_is)))) in
    omega (arith, within, long, (c.requires.rank ∙ ap (λ (l : Log). rank c.args.position l.rebuilt.frames) (sym c.self.view_is)), ap (λ (s : Stored). length s.frames) c.put.ensures)

pub invariant_of-self : goal.invariant_of-self
invariant_of-self c =
    let of = subst (λ (r : Rebuilt). IsFor r.ident c.args.position c.args.frame.now) (sym (ap (λ (l : Log). l.rebuilt) c.self.view_is)) c.requires.of in
    let view : Rebuilt = Rattle.image_log.specs.Log.rebuilt_of c.self.inside.ident c.self.inside.join c.self.inside.base c.self.inside.greatest c.self.inside.moment c.self.inside.status c.self.inside.pairs c.self.inside.store in
    let facts = taken view c.args.position c.args.frame.now (subst (λ (r : Rebuilt). insert_of r c.args.position c.args.frame.now ≡ Taken) (sym (ap (λ (l : Log). l.rebuilt) c.self.view_is)) c.requires.taken) in
    let fits = span_fits c.self.inside.ident c.args.position c.args.frame.now of in
    let apart : list_any (meets c.args.position (c.args.position + c.args.span)) c.self.inside.store.frames ≡ false =
    subst (λ (s : ℕ). list_any (meets c.args.position (c.args.position + s)) c.self.inside.store.frames ≡ false) (sym c.requires.span) facts.3 in
    let low : c.self.inside.store.low ≤ c.args.position = subst (λ (k : ℕ). k ≤ c.args.position) (sym c.self.invariant.low) facts.0 in
    let takes : 32 ≤ c.args.span = subst (λ (s : ℕ). 32 ≤ s) (sym c.requires.span) fits.0 in
    let fit : offset_of c.args.frame.now + c.args.span ≤ c.self.inside.ident.term_length =
    subst (λ (s : ℕ). offset_of c.args.frame.now + s ≤ c.self.inside.ident.term_length) (sym c.requires.span) facts.2 in
    let room = within_room c.self.inside.join c.self.inside.base c.self.inside.ident.term_length c.args.position c.args.span (offset_of c.args.frame.now) c.self.invariant.terms.0 facts.1 fit in
    let order = subst (λ (k : ℕ). Ordered c.self.inside.store.low (c.self.inside.store.low + c.self.inside.store.held.len) (insert c.self.inside.store.frames k (framed c.args.position c.args.span c.args.frame.now)))
    (sym (c.requires.rank ∙ ap (λ (l : Log). rank c.args.position l.rebuilt.frames) (sym c.self.view_is)))
    (put_ordered c.args.position c.args.span c.self.inside.store.low (c.self.inside.store.low + c.self.inside.store.held.len) c.args.frame.now c.self.inside.store.frames
    c.self.invariant.order low takes (omega (arith, room, c.self.invariant.low, c.self.invariant.room)) apart) in
    let whole : c.args.position % c.self.inside.ident.term_length + c.args.span ≤ c.self.inside.ident.term_length =
    subst (λ (s : ℕ). c.args.position % c.self.inside.ident.term_length + s ≤ c.self.inside.ident.term_length) (sym c.requires.span)
    (in_term c.self.inside.ident c.args.position c.args.frame.now of facts.2 (omega (arith, fits.0))) in
    let at = position_fits c.self.inside.ident c.args.position c.args.frame.now of (omega (arith, c.self.invariant.terms)) in
    let high : c.args.position + c.args.span ≤ 2 ^ 58 = omega (arith, at, fits.2, c.requires.span) in
    log_here c.self.inside.ident c.self.inside.join c.self.inside.base c.self.inside.contiguous c.args.position c.args.span c.args.at c.chain-self-inside.result c.args.frame.now
    c.self.inside.pairs c.self.inside.store c.put.new.self c.self.invariant of c.requires.span (c.requires.rank ∙ ap (λ (l : Log). rank c.args.position l.rebuilt.frames) (sym c.self.view_is)) c.put.ensures order takes c.if-position-self.true c.chain-self-inside.ensures whole high apart low

pub invariant_of-self-else-position-self : goal.invariant_of-self-else-position-self
invariant_of-self-else-position-self c =
    let of = subst (λ (r : Rebuilt). IsFor r.ident c.args.position c.args.frame.now) (sym (ap (λ (l : Log). l.rebuilt) c.self.view_is)) c.requires.of in
    let view : Rebuilt = Rattle.image_log.specs.Log.rebuilt_of c.self.inside.ident c.self.inside.join c.self.inside.base c.self.inside.greatest c.self.inside.moment c.self.inside.status c.self.inside.pairs c.self.inside.store in
    let facts = taken view c.args.position c.args.frame.now (subst (λ (r : Rebuilt). insert_of r c.args.position c.args.frame.now ≡ Taken) (sym (ap (λ (l : Log). l.rebuilt) c.self.view_is)) c.requires.taken) in
    let fits = span_fits c.self.inside.ident c.args.position c.args.frame.now of in
    let apart : list_any (meets c.args.position (c.args.position + c.args.span)) c.self.inside.store.frames ≡ false =
    subst (λ (s : ℕ). list_any (meets c.args.position (c.args.position + s)) c.self.inside.store.frames ≡ false) (sym c.requires.span) facts.3 in
    let low : c.self.inside.store.low ≤ c.args.position = subst (λ (k : ℕ). k ≤ c.args.position) (sym c.self.invariant.low) facts.0 in
    let takes : 32 ≤ c.args.span = subst (λ (s : ℕ). 32 ≤ s) (sym c.requires.span) fits.0 in
    let fit : offset_of c.args.frame.now + c.args.span ≤ c.self.inside.ident.term_length =
    subst (λ (s : ℕ). offset_of c.args.frame.now + s ≤ c.self.inside.ident.term_length) (sym c.requires.span) facts.2 in
    let room = within_room c.self.inside.join c.self.inside.base c.self.inside.ident.term_length c.args.position c.args.span (offset_of c.args.frame.now) c.self.invariant.terms.0 facts.1 fit in
    let order = subst (λ (k : ℕ). Ordered c.self.inside.store.low (c.self.inside.store.low + c.self.inside.store.held.len) (insert c.self.inside.store.frames k (framed c.args.position c.args.span c.args.frame.now)))
    (sym (c.requires.rank ∙ ap (λ (l : Log). rank c.args.position l.rebuilt.frames) (sym c.self.view_is)))
    (put_ordered c.args.position c.args.span c.self.inside.store.low (c.self.inside.store.low + c.self.inside.store.held.len) c.args.frame.now c.self.inside.store.frames
    c.self.invariant.order low takes (omega (arith, room, c.self.invariant.low, c.self.invariant.room)) apart) in
    let whole : c.args.position % c.self.inside.ident.term_length + c.args.span ≤ c.self.inside.ident.term_length =
    subst (λ (s : ℕ). c.args.position % c.self.inside.ident.term_length + s ≤ c.self.inside.ident.term_length) (sym c.requires.span)
    (in_term c.self.inside.ident c.args.position c.args.frame.now of facts.2 (omega (arith, fits.0))) in
    let at = position_fits c.self.inside.ident c.args.position c.args.frame.now of (omega (arith, c.self.invariant.terms)) in
    let high : c.args.position + c.args.span ≤ 2 ^ 58 = omega (arith, at, fits.2, c.requires.span) in
    log_elsewhere c.self.inside.ident c.self.inside.join c.self.inside.base c.self.inside.contiguous c.args.position c.args.span c.args.at c.args.frame.now
    c.self.inside.pairs c.self.inside.store c.put.new.self c.self.invariant of c.requires.span (c.requires.rank ∙ ap (λ (l : Log). rank c.args.position l.rebuilt.frames) (sym c.self.view_is)) c.put.ensures order takes low apart c.if-position-self.false whole high
