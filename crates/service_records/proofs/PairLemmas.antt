-- Pairs are read as they were written, and written as they were read.
use Rattle.std.proofs.Common.{◌≡◌, ℕ, zero, suc, ◌+◌, ◌*◌, ◌/◌, ◌%◌, ◌^◌, ◌<◌, ◌≤◌, List, [], ◌∷◌, ◌++◌, All, length, take, drop, refl, sym, ap, ◌∙◌, append_assoc, arith}
use Rattle.std.proofs.lemmas.List.{drop_at, take-append-drop, length-append, length-drop}
use Rattle.std.proofs.lemmas.List.Elements.{All-head, All-tail}
use Rattle.service_records.specs.Fields.{number_in, number_bytes, IsBytes}
use Rattle.service_records.specs.Pairs.{IsPair, pairs_bytes, pairs_from, pairs_of}
use Rattle.service_records.proofs.FieldLemmas.{IsBytes-drop, length_number_bytes, number_back, number_bytes_back}

pub no_pairs : (bytes : List ℕ) → length bytes < 16 → pairs_of bytes ≡ []
unfolding pairs_of pairs_from
no_pairs bytes short =
    let none : length bytes / 16 ≡ 0 = omega arith in
    rw none refl

pub a_pair : (bytes : List ℕ) → 16 ≤ length bytes → pairs_of bytes ≡ (number_in 8 bytes, number_in 8 (drop 8 bytes)) ∷ pairs_of (drop 8 (drop 8 bytes))
unfolding pairs_of pairs_from
a_pair bytes long =
    let one = length-drop 8 bytes in
    let two = length-drop 8 (drop 8 bytes) in
    let more : length bytes / 16 ≡ suc (length (drop 8 (drop 8 bytes)) / 16) = omega (arith, one, two) in
    rw more refl

-- the front of a pair's bytes
front : (a b : ℕ) (rest : List ℕ) → a < 2 ^ 64 → b < 2 ^ 64 → pairs_of ((number_bytes 8 a ++ number_bytes 8 b) ++ rest) ≡ (a, b) ∷ pairs_of rest
front a b rest fits also =
    let regrouped = append_assoc (number_bytes 8 a) (number_bytes 8 b) rest in
    let first = number_back 8 a (number_bytes 8 b ++ rest) fits in
    let second = number_back 8 b rest also in
    let dropped = drop_at (number_bytes 8 a) (number_bytes 8 b ++ rest) 8 (length_number_bytes 8 a) in
    let again = drop_at (number_bytes 8 b) rest 8 (length_number_bytes 8 b) in
    let long : 16 ≤ length (number_bytes 8 a ++ (number_bytes 8 b ++ rest)) = omega (arith, length-append (number_bytes 8 a) (number_bytes 8 b ++ rest), length-append (number_bytes 8 b) rest, length_number_bytes 8 a, length_number_bytes 8 b) in
    ap pairs_of regrouped ∙ (a_pair (number_bytes 8 a ++ (number_bytes 8 b ++ rest)) long ∙ rw (first, dropped, second, again) refl)

pub pairs_again : (pairs : List (ℕ × ℕ)) → All IsPair pairs → pairs_of (pairs_bytes pairs) ≡ pairs
pairs_again [] fit = no_pairs [] (omega arith)
pairs_again (pair ∷ pairs) fit =
    let first = All-head IsPair pair pairs fit in
    front pair.0 pair.1 (pairs_bytes pairs) first.0 first.1 ∙ ap (λ (rest : List (ℕ × ℕ)). pair ∷ rest) (pairs_again pairs (All-tail IsPair pair pairs fit))

-- so many pairs that are all there are
back_from : (n : ℕ) (bytes : List ℕ) → length bytes ≡ 16 * n → IsBytes bytes → pairs_bytes (pairs_from n bytes) ≡ bytes
unfolding pairs_from
back_from zero [] whole fits = refl
back_from zero (b ∷ bytes) whole fits = absurd (omega (arith, whole))
back_from (suc n) bytes whole fits =
    let second = drop 8 bytes in
    let rest = drop 8 second in
    let one = length-drop 8 bytes in
    let two = length-drop 8 second in
    let long : 8 ≤ length bytes = omega (arith, whole) in
    let longer : 8 ≤ length second = omega (arith, whole, one) in
    let left : length rest ≡ 16 * n = omega (arith, whole, one, two) in
    let fit = IsBytes-drop 8 bytes fits in
    let again = back_from n rest left (IsBytes-drop 8 second fit) in
    let regrouped = append_assoc (number_bytes 8 (number_in 8 bytes)) (number_bytes 8 (number_in 8 second)) (pairs_bytes (pairs_from n rest)) in
    regrouped ∙ rw (again, number_bytes_back 8 second longer fit, take-append-drop 8 second, number_bytes_back 8 bytes long fits, take-append-drop 8 bytes) refl

pub pairs_back : (bytes : List ℕ) → IsBytes bytes → length bytes % 16 ≡ 0 → pairs_bytes (pairs_of bytes) ≡ bytes
unfolding pairs_of
pairs_back bytes fits even = back_from (length bytes / 16) bytes (omega (arith, even)) fits
