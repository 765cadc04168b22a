use Rattle.std.proofs.Common.{◌≡◌, true, suc, ◌+◌, ◌-◌, ◌/◌, ◌<◌, ◌≤◌, ◌∷◌, ◌++◌, get_or, take, drop, sym, ap, ap₂, ◌∙◌, subst, arith}
use Rattle.std.specs.List.{insert, remove}
use Rattle.log_arena.specs.Layout.{Layout}
use Rattle.log_arena.specs.Spans.{Span, Remade, paged}
use Rattle.log_arena.proofs.Matches.{one_for_one, div_sum, div_sub}
use Rattle.log_arena.proofs.Tables.{taken_whole, taken_front}
use Rattle.log_arena.proofs.holes.Holes.take_front.Goals as goal

pub returns-then-hole-len-clause-taken : goal.returns-then-hole-len-clause-taken
returns-then-hole-len-clause-taken c =
    λ end spaced.
    let hs = c.args.self.now.spans in let at = c.args.at in let hole = c.take_out-run.result.0 in
    let same : hole.1 ≡ c.args.len = omega arith in
    let span : get_or hs at (0, 0) ≡ (hole.0 / 4096, c.args.len / 4096) =
    sym c.take_out-run.ensures.was ∙ ap (λ k. let s : Span = (hole.0 / 4096, k / 4096) in s) same in
    subst (λ t. Remade true end hs (hole.0 / 4096, c.args.len / 4096) t) (sym (ap (λ (l : Layout). l.spans) c.take_out-run.ensures.others))
    (subst (λ s. Remade true end hs s (remove hs at)) span (taken_whole end at hs c.requires.place spaced))

pub returns-clause-taken : goal.returns-clause-taken
returns-clause-taken c =
    λ end spaced.
    let hs = c.args.self.now.spans in let at = c.args.at in let hole = c.take_out-run.result.0 in let len = c.args.len in let n = len / 4096 in
    let h = get_or hs at (0, 0) in
    let is = c.take_out-run.ensures.is in
    let was : paged hole ≡ h = c.take_out-run.ensures.was in
    let place : hole.0 / 4096 ≡ h.0 = ap (λ (s : Span). s.0) was in
    let room : hole.1 / 4096 ≡ h.1 = ap (λ (s : Span). s.1) was in
    let fits : len ≤ hole.1 = omega (arith, c.requires.fits, c.requires.len.1, is.whole_len) in
    let less : len < hole.1 = omega arith in
    let small : n < h.1 = omega (arith, c.requires.len.1, is.whole_len) in
    let rest : paged (hole.0 + len, hole.1 - len) ≡ (h.0 + n, h.1 - n) =
    ap₂ (λ a b. let s : Span = (a, b) in s) (div_sum hole.0 len is.whole_place c.requires.len.1) (div_sub hole.1 len is.whole_len c.requires.len.1 fits)
    ∙ ap₂ (λ a b. let s : Span = (a + n, b - n) in s) place room in
    let new : c.put_in.new.self.spans ≡ take at hs ++ (h.0 + n, h.1 - n) ∷ drop (suc at) hs =
    ap (λ (l : Layout). l.spans) c.put_in.ensures
    ∙ ap (λ (l : Layout). insert l.spans at (paged (hole.0 + len, hole.1 - len))) c.take_out-run.ensures.others
    ∙ ap (λ (s : Span). insert (remove hs at) at s) rest ∙ one_for_one at hs _ c.requires.place in
    subst (λ t. Remade true end hs (hole.0 / 4096, n) t) (sym new)
    (subst (λ a. Remade true end hs (a, n) (take at hs ++ (h.0 + n, h.1 - n) ∷ drop (suc at) hs)) (sym place) (taken_front end at n hs c.requires.place small spaced))
