use Rattle.std.proofs.Common.{◌≡◌, ◌-◌, ◌+◌, ◌*◌, ◌<◌, List, Bool, length, get_or, sym, ap, ◌∙◌, subst, arith}
use Rattle.std.proofs.lemmas.List.{get_or-map, length-map}
use Rattle.log_arena.specs.Pages.{IsMaximalRun, runs_from, holes_of}
use Rattle.log_arena.specs.Spans.{Span}
use Rattle.log_arena.proofs.MaximalRuns.{runs_stand, hole_is_run, run_is_hole, spaced_next, bytes}
use Rattle.log_arena.proofs.laws.holes_are_the_maximal_runs.Goals as goal

pub returns-clause-runs : goal.returns-clause-runs
unfolding holes_of
returns-clause-runs c t at n =
    let hs = runs_from 0 t in let stand = runs_stand 0 t in let as_many = length-map hs bytes in (
      λ in_list.
          let i = in_list.0 in let h = get_or hs i (0, 0) in
          let here : i < length hs = omega (arith, in_list.1, as_many) in
          let is : bytes h ≡ (4096 * at, 4096 * n) = sym (get_or-map bytes hs i (0, 0) _ here) ∙ in_list.2 in
          let place : h.0 - 0 ≡ at = omega (arith, ap (λ (s : Span). s.0) is) in
          let count : h.1 ≡ n = omega (arith, ap (λ (s : Span). s.1) is) in
          subst (λ p. IsMaximalRun t p n) place (subst (λ m. IsMaximalRun t (h.0 - 0) m) count
          (subst (λ (u : List Bool). IsMaximalRun u (h.0 - 0) h.1) stand.1 (hole_is_run 0 0 (0 + length t) i hs (omega arith) stand.0 here))),
      λ run.
          let found = run_is_hole 0 0 (0 + length t) at n hs (omega arith) stand.0 (subst (λ (u : List Bool). IsMaximalRun u at n) (sym stand.1) run) in
          let first : 0 + at ≡ at = omega arith in
          (found.0, omega (arith, found.1, as_many), get_or-map bytes hs found.0 (0, 0) _ found.1 ∙ ap bytes found.2 ∙ ap (λ p. let s : Span = (4096 * p, 4096 * n) in s) first),
    )

pub returns-clause-whole : goal.returns-clause-whole
unfolding holes_of
returns-clause-whole c t h in_list =
    let hs = runs_from 0 t in
    let here : in_list.0 < length hs = omega (arith, in_list.1, length-map hs bytes) in
    let g = get_or hs in_list.0 (0, 0) in
    let is : bytes g ≡ h = sym (get_or-map bytes hs in_list.0 (0, 0) _ here) ∙ in_list.2 in
    let place : 4096 * g.0 ≡ h.0 = ap (λ (s : Span). s.0) is in
    let count : 4096 * g.1 ≡ h.1 = ap (λ (s : Span). s.1) is in
    (omega arith, omega arith)

pub returns-clause-ascending : goal.returns-clause-ascending
unfolding holes_of
returns-clause-ascending c t i h =
    let hs = runs_from 0 t in
    let next : i + 1 < length hs = omega (arith, h, length-map hs bytes) in
    let apart = spaced_next 0 (0 + length t) i hs (runs_stand 0 t).0 next in
    let front = get_or-map bytes hs i (0, 0) (0, 0) (omega arith) in
    let back = get_or-map bytes hs (i + 1) (0, 0) (0, 0) next in
    omega (arith, apart, ap (λ (s : Span). s.0) front, ap (λ (s : Span). s.1) front, ap (λ (s : Span). s.0) back)
