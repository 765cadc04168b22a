-- Texts with no `<` are told apart by what is printed of them.
use Rattle.std.proofs.Common.{◌≡◌, ℕ, ◌<◌, ◌^◌, ◌==◌, not, Bool, true, false, cond, List, [], ◌∷◌, ◌++◌, refl, sym, ap, ◌∙◌, arith, append_assoc}
use Rattle.std.specs.Char.{is_ascii_digit}
use Rattle.std.specs.Fmt.{decimal}
use Rattle.std.specs.List.{flat_map, list_all}
use Rattle.std.specs.Str.{IsUtf8, chars}
use Rattle.std.proofs.lemmas.Bool.{and_parts, eqb-true}
use Rattle.std.proofs.lemmas.Bool.Decides.{nat_tests}
use Rattle.std.proofs.lemmas.Fmt.{decimal_injective}
use Rattle.std.proofs.lemmas.List.Folds.{list_all-append}
use Rattle.std.proofs.lemmas.Str.{encode_ascii, encodes-chars, scalars-chars}
use Rattle.plain_words.specs.Words.{is_plain, shown, plain, lacks_mark}
use Rattle.plain_words.proofs.PlainLemmas.{decimal_passes, letter_fits}
use lib.Utf8.{scalar, scalars, encode, encodes}

-- no byte closes what `<` opened
abbrev is_open : ℕ → Bool
is_open letter = not (letter == 62)

digit_is_open : (x : ℕ) → is_ascii_digit x ≡ true → is_open x ≡ true
digit_is_open x digit = grind (arith, nat_tests, digit)

-- two lists up to the first `>` of each
same_cut : (xs ys r s : List ℕ) → list_all is_open xs ≡ true → list_all is_open ys ≡ true → xs ++ (62 ∷ r) ≡ ys ++ (62 ∷ s) → (xs ≡ ys) × (r ≡ s)
same_cut [] [] r s one other e = (refl, cc)
same_cut [] (y ∷ ys) r s one other e =
    let first : 62 ≡ y = cc in
    let parts = and_parts (is_open y) (list_all is_open ys) other in
    absurd (grind (arith, nat_tests, first, parts.0))
same_cut (x ∷ xs) [] r s one other e =
    let first : x ≡ 62 = cc in
    let parts = and_parts (is_open x) (list_all is_open xs) one in
    absurd (grind (arith, nat_tests, first, parts.0))
same_cut (x ∷ xs) (y ∷ ys) r s one other e =
    let first : x ≡ y = cc in
    let later : xs ++ (62 ∷ r) ≡ ys ++ (62 ∷ s) = cc in
    let rest = same_cut xs ys r s (and_parts (is_open x) (list_all is_open xs) one).1 (and_parts (is_open y) (list_all is_open ys) other).1 later in
    (let tails = rest.0 in cc, rest.1)

-- what stands for a character that is, or is not, printable
abbrev shown_if : Bool → ℕ → List ℕ
shown_if b c = cond b (c ∷ []) (60 ∷ (decimal c ++ (62 ∷ [])))

apart_from : (a b : Bool) (c d : ℕ) (r s : List ℕ) → c < 2 ^ 64 → d < 2 ^ 64 → not (c == 60) ≡ true → not (d == 60) ≡ true →
    shown_if a c ++ r ≡ shown_if b d ++ s → (c ≡ d) × (r ≡ s)
apart_from true true c d r s fits_c fits_d no_c no_d e = (cc, cc)
apart_from true false c d r s fits_c fits_d no_c no_d e =
    let first : c ≡ 60 = cc in
    absurd (grind (arith, nat_tests, first, no_c))
apart_from false true c d r s fits_c fits_d no_c no_d e =
    let first : 60 ≡ d = cc in
    absurd (grind (arith, nat_tests, first, no_d))
apart_from false false c d r s fits_c fits_d no_c no_d e =
    let later : (decimal c ++ (62 ∷ [])) ++ r ≡ (decimal d ++ (62 ∷ [])) ++ s = cc in
    let cut : decimal c ++ (62 ∷ r) ≡ decimal d ++ (62 ∷ s) = sym (append_assoc (decimal c) (62 ∷ []) r) ∙ (later ∙ append_assoc (decimal d) (62 ∷ []) s) in
    let same = same_cut (decimal c) (decimal d) r s (decimal_passes is_open digit_is_open c fits_c) (decimal_passes is_open digit_is_open d fits_d) cut in
    (decimal_injective c d fits_c fits_d same.0, same.1)

nothing_from : (b : Bool) (d : ℕ) (s : List ℕ) → [] ≡ shown_if b d ++ s → ⊥
nothing_from true d s e = grind (arith, e)
nothing_from false d s e = grind (arith, e)

letters_apart : (cs ds : List ℕ) → scalars cs ≡ true → scalars ds ≡ true → lacks_mark cs ≡ true → lacks_mark ds ≡ true →
    flat_map shown cs ≡ flat_map shown ds → cs ≡ ds
letters_apart [] [] one other no_one no_other e = refl
letters_apart [] (d ∷ ds) one other no_one no_other e = absurd (nothing_from (is_plain d) d (flat_map shown ds) e)
letters_apart (c ∷ cs) [] one other no_one no_other e = absurd (nothing_from (is_plain c) c (flat_map shown cs) (sym e))
letters_apart (c ∷ cs) (d ∷ ds) one other no_one no_other e =
    let fits_one = and_parts (scalar c) (scalars cs) one in
    let fits_other = and_parts (scalar d) (scalars ds) other in
    let lacks_one = and_parts (not (c == 60)) (lacks_mark cs) no_one in
    let lacks_other = and_parts (not (d == 60)) (lacks_mark ds) no_other in
    let same = apart_from (is_plain c) (is_plain d) c d (flat_map shown cs) (flat_map shown ds) (letter_fits c fits_one.0) (letter_fits d fits_other.0) lacks_one.0 lacks_other.0 e in
    let first = same.0 in
    let later = letters_apart cs ds fits_one.1 fits_other.1 lacks_one.1 lacks_other.1 same.1 in
    cc

-- a character that is a `<` is that byte
mark_from : (b : Bool) (c : ℕ) → (c == 60) ≡ b → lacks_mark (encode c) ≡ true → not (c == 60) ≡ true
mark_from false c is none = rw is refl
mark_from true c is none =
    let same : c ≡ 60 = eqb-true c 60 is in
    let bytes : encode c ≡ c ∷ [] = encode_ascii c (omega (arith, same)) in
    let first : lacks_mark (c ∷ []) ≡ true = rw bytes at none in
    (and_parts (not (c == 60)) true first).0

letters_lack : (cs : List ℕ) → lacks_mark (encodes cs) ≡ true → lacks_mark cs ≡ true
letters_lack [] none = refl
letters_lack (c ∷ cs) none =
    let parts = and_parts (lacks_mark (encode c)) (lacks_mark (encodes cs)) (sym (list_all-append (λ letter. not (letter == 60)) (encode c) (encodes cs)) ∙ none) in
    rw (mark_from (c == 60) c refl parts.0) (letters_lack cs parts.1)

pub texts_apart : (one other : List ℕ) → IsUtf8 one → IsUtf8 other → lacks_mark one ≡ true → lacks_mark other ≡ true → plain one ≡ plain other → one ≡ other
texts_apart one other utf8_one utf8_other no_one no_other e =
    let back_one = encodes-chars one utf8_one in
    let back_other = encodes-chars other utf8_other in
    let lack_one = letters_lack (chars one) (ap lacks_mark back_one ∙ no_one) in
    let lack_other = letters_lack (chars other) (ap lacks_mark back_other ∙ no_other) in
    sym back_one ∙ (ap encodes (letters_apart (chars one) (chars other) (scalars-chars one utf8_one) (scalars-chars other utf8_other) lack_one lack_other e) ∙ back_other)
