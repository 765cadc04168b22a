use Rattle.std.proofs.Common.{◌≡◌, min, vec_capacity, sym, ap, ap₂, subst, arith}
use denote.RawPtr.{Ptr}
use Rattle.log_arena.specs.Layout.{Layout}
use Rattle.log_arena.specs.Spans.{IsSpan}
use Rattle.log_arena.proofs.Matches.{counted, lies-insert, pages-insert}
use Rattle.log_arena.proofs.holes.Holes.put_in.Goals as goal

pub put-requires-2 : goal.put-requires-2
put-requires-2 c =
    let n = counted _ _ _ _ (ap (λ (l : Layout). l.spans) c.self.view_is) c.self.invariant.1 in
    let room = ap (λ (l : Layout). l.room) c.self.view_is in
    (omega (arith, n.1, c.self.inside.runs.ok), omega (arith, n.1, room, c.requires.room, c.self.inside.runs.ok))

pub invariant_of-self : goal.invariant_of-self
invariant_of-self c =
    let base = ap (λ (l : Layout). l.base) c.self.view_is in
    let new = subst (λ (b : Ptr). IsSpan b c.args.span c.args.run) (sym base) c.requires.is in
    (c.self.invariant.0, rw (c.put.ensures.items, c.put-2.ensures.items) (lies-insert _ c.args.at c.args.span c.args.run _ _ new c.self.invariant.1))

pub returns : goal.returns
returns c =
    let room : min (vec_capacity c.put.new.v) (vec_capacity c.put-2.new.v) ≡ min (vec_capacity c.self.inside.spans) (vec_capacity c.self.inside.runs) =
    ap₂ (λ a b. min a b) c.put.ensures.capacity c.put-2.ensures.capacity in
    rw (← c.self.view_is, c.put.ensures.items)
    (ap₂ (λ a b. let l : Layout = record { base = c.self.inside.base; spans = a; room = b } in l) (pages-insert c.args.at c.args.span c.self.inside.spans.items) room)
