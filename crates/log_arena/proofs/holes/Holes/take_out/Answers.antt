use Rattle.std.proofs.Common.{◌≡◌, ◌<◌, length, min, sym, ap, ap₂, ◌∙◌, arith}
use Rattle.std.proofs.Common.{List, get_or, vec_capacity}
use Rattle.log_arena.specs.Layout.{Layout}
use Rattle.log_arena.specs.Spans.{Span}
use Rattle.log_arena.proofs.Matches.{counted, lies-remove, lies-found, pages-remove, found_page}
use Rattle.log_arena.proofs.holes.Holes.take_out.Goals as goal

pub remove-requires-2 : goal.remove-requires-2
remove-requires-2 c =
    let spans = ap (λ (l : Layout). l.spans) c.self.view_is in
    let n = counted _ _ _ _ spans c.self.invariant.1 in
    omega (arith, n.0, n.1, c.self.inside.runs.ok)

pub invariant_of-self : goal.invariant_of-self
invariant_of-self c =
    (c.self.invariant.0, rw (c.remove.ensures.items, c.remove-2.ensures.items) (lies-remove _ c.args.at _ _ c.self.invariant.1))

pub returns-clause-is : goal.returns-clause-is
returns-clause-is c =
    let spans = ap (λ (l : Layout). l.spans) c.self.view_is in
    let n = counted _ _ _ _ spans c.self.invariant.1 in
    let small : c.args.at < length c.self.inside.spans.items = omega (arith, n.0) in
    rw (← ap (λ (l : Layout). l.base) c.self.view_is) (lies-found _ c.args.at _ _ _ _ small c.self.invariant.1 c.remove.ensures.value c.remove-2.ensures.value)

pub returns-clause-was : goal.returns-clause-was
returns-clause-was c =
    let spans = ap (λ (l : Layout). l.spans) c.self.view_is in
    let n = counted _ _ _ _ spans c.self.invariant.1 in
    let small : c.args.at < length c.self.inside.spans.items = omega (arith, n.0) in
    sym (found_page c.args.at c.self.inside.spans.items c.remove.result small c.remove.ensures.value) ∙ ap (λ (l : List Span). get_or l c.args.at (0, 0)) spans

pub returns-clause-others : goal.returns-clause-others
returns-clause-others c =
    let room : min (vec_capacity c.remove.new.self) (vec_capacity c.remove-2.new.self) ≡ min (vec_capacity c.self.inside.spans) (vec_capacity c.self.inside.runs) =
    ap₂ (λ a b. min a b) c.remove.ensures.capacity c.remove-2.ensures.capacity in
    rw (← c.self.view_is, c.remove.ensures.items)
    (ap₂ (λ a b. let l : Layout = record { base = c.self.inside.base; spans = a; room = b } in l) (pages-remove c.args.at c.self.inside.spans.items) room)
