-- A log without frames has zeros alone.
use Rattle.std.proofs.Common.{◌≡◌, ℕ, ◌+◌, ◌*◌, ◌%◌, ◌<◌, List, [], ◌∷◌, ◌++◌, length, sym, ap, subst, ◌∙◌, append-nil, length-append, arith}
use Rattle.std.specs.Prelude.{replicate}
use Rattle.std.proofs.lemmas.List.{length-replicate, replicate-append-replicate}
use Rattle.term_log.specs.declared.ident.Ident.{Ident}
use Rattle.term_log.specs.Kept.{Kept, StandsFor, offset_of, rest_of}
use Rattle.term_log.specs.Log.{Log}
use Rattle.term_log.specs.Whole.{Stands, Whole}

-- the end of a list that is as long as the whole of it is the whole of it
all_left : (xs gone held : List ℕ) → xs ≡ gone ++ held → length held ≡ length xs → held ≡ xs
all_left xs [] held is same = sym is
all_left xs (g ∷ gone) held is same =
    let size : length xs ≡ length (g ∷ gone ++ held) = ap length is in
    let both = length-append gone held in
    absurd (omega (arith, size, both, same))

zeros_both : (bytes held : List ℕ) (most rest all : ℕ) → bytes ≡ held ++ replicate rest 0 → held ≡ replicate most 0 → most + rest ≡ all →
    bytes ≡ replicate all 0
zeros_both bytes held most rest all is zeros sum =
    is
    ∙ ap (λ (front : List ℕ). front ++ replicate rest 0) zeros
    ∙ replicate-append-replicate most rest 0
    ∙ ap (λ (n : ℕ). replicate n 0) sum

-- what is held where nothing was ever put there
blank_kept : (k : Kept) → StandsFor k [] → k.buffers.bytes ≡ replicate (3 * k.ident.term_length) 0
blank_kept k s =
    let term : ℕ = k.ident.term_length in
    let most : ℕ = 2 * term + k.ident.start % term in
    let zeros : List ℕ = replicate most 0 in
    let tail : k.tail ≡ k.ident.start = s.tail ∙ omega arith in
    let offset : offset_of k ≡ k.ident.start % term = ap (λ (n : ℕ). n % term) tail in
    let below : k.ident.start % term < term = omega (arith, s.some) in
    let size : length s.held ≡ length zeros = s.size ∙ ap (λ (n : ℕ). 2 * term + n) offset ∙ sym (length-replicate {A = ℕ} most 0) in
    let held : s.held ≡ zeros = all_left zeros s.gone s.held (sym (append-nil zeros) ∙ s.all) size in
    let sum : most + rest_of k ≡ 3 * term = omega (arith, offset, below) in
    zeros_both k.buffers.bytes s.held most (rest_of k) (3 * term) s.bytes held sum

pub blank_held : (w : Whole) (held : Log) → w.frames ≡ [] → Stands held w →
    held.kept.buffers.bytes ≡ replicate (3 * w.ident.term_length) 0
blank_held w held none stands =
    blank_kept held.kept (subst (StandsFor held.kept) none stands.frames)
    ∙ ap (λ (i : Ident). replicate (3 * i.term_length) 0) stands.ident
