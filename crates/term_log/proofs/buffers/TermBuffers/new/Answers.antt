use Rattle.std.proofs.Common.{◌≡◌, ℕ, List, ◌*◌, ◌-◌, ◌+◌, ◌++◌, ap, ap₂, ◌∙◌, refl, arith}
use Rattle.std.proofs.lemmas.List.{append-nil, take-replicate, drop-replicate, replicate-append-replicate}
use Rattle.std.specs.Prelude.{replicate}
use Rattle.term_log.specs.Buffers.{seen_of}
use Rattle.term_log.specs.Turning.{in_order}
use Rattle.term_log.proofs.buffers.TermBuffers.new.Goals as goal

all_zero : (n : ℕ) → in_order n (replicate (3 * n) 0) ≡ replicate {A = ℕ} (3 * n) 0
all_zero n =
    let rest : 3 * n - n + n ≡ 3 * n = omega arith in
    ap₂ (λ (x y : List ℕ). x ++ y) (drop-replicate n (3 * n) 0) (take-replicate n (3 * n) 0 (omega arith))
    ∙ replicate-append-replicate (3 * n - n) n 0
    ∙ ap (λ (k : ℕ). replicate {A = ℕ} k 0) rest

seen_zero : (n : ℕ) → seen_of n n (in_order n (replicate (3 * n) 0)) ≡ replicate {A = ℕ} (3 * n) 0
seen_zero n =
    let whole : 2 * n + n ≡ 3 * n = omega arith in
    let none : n - n ≡ 0 = omega arith in
    ap (seen_of n n) (all_zero n)
    ∙ ap (λ (x : List ℕ). x ++ replicate (n - n) 0) (take-replicate (2 * n + n) (3 * n) 0 (omega arith))
    ∙ ap₂ (λ (k j : ℕ). replicate {A = ℕ} k 0 ++ replicate j 0) whole none
    ∙ append-nil (replicate (3 * n) 0)

pub returns : goal.returns
returns c = rw (c.requires.zeros, seen_zero) refl
