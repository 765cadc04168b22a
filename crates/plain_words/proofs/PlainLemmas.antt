-- What is printed of a text is printable ASCII, and such a text is printed as it is.
use Rattle.std.proofs.Common.{◌≡◌, ℕ, zero, suc, ◌<◌, ◌^◌, ◌&&◌, Bool, true, false, cond, List, [], ◌∷◌, ◌++◌, refl, ap, ◌∙◌, arith, rules}
use Rattle.std.specs.Char.{is_ascii_digit}
use Rattle.std.specs.Fmt.{decimal}
use Rattle.std.specs.List.{flat_map, list_all}
use Rattle.std.specs.Str.{IsAscii, IsUtf8, chars}
use Rattle.std.specs.Str.Parse.{digits_value}
use Rattle.std.proofs.lemmas.Bool.{and_parts}
use Rattle.std.proofs.lemmas.Bool.Decides.{nat_tests}
use Rattle.std.proofs.lemmas.Fmt.{digits_decimal}
use Rattle.std.proofs.lemmas.List.Folds.{list_all-append}
use Rattle.std.proofs.lemmas.Str.{chars-IsAscii, scalars-chars}
use Rattle.std.proofs.lemmas.Str.Ascii.{IsAscii-nil}
use Rattle.std.proofs.lemmas.Str.Parse.{IsDigitsTest, IsNumeralModel, numerals_by_value}
use Rattle.plain_words.specs.Words.{is_plain, all_plain, shown, plain}
use lib.Utf8.{scalar, scalars, scalar_fits}

tells_digits_alone : IsDigitsTest (λ ds. list_all is_ascii_digit ds ≡ true)
tells_digits_alone = search rules

numerals : IsNumeralModel (λ ds. list_all is_ascii_digit ds ≡ true) (digits_value 10)
numerals = numerals_by_value _ tells_digits_alone

-- each that passes the one test passes the other
pub passes_too : (p q : ℕ → Bool) → ((x : ℕ) → p x ≡ true → q x ≡ true) → (xs : List ℕ) → list_all p xs ≡ true → list_all q xs ≡ true
passes_too p q each [] all = refl
passes_too p q each (x ∷ xs) all =
    let parts = and_parts (p x) (list_all p xs) all in
    rw (each x parts.0) (passes_too p q each xs parts.1)

pub decimal_passes : (q : ℕ → Bool) → ((x : ℕ) → is_ascii_digit x ≡ true → q x ≡ true) → (n : ℕ) → n < 2 ^ 64 → list_all q (decimal n) ≡ true
decimal_passes q each n small = passes_too is_ascii_digit q each (decimal n) (digits_decimal numerals n small)

digit_is_plain : (x : ℕ) → is_ascii_digit x ≡ true → is_plain x ≡ true
digit_is_plain x digit = grind (arith, nat_tests, digit)

shown_from : (b : Bool) (c : ℕ) → is_plain c ≡ b → c < 2 ^ 64 → all_plain (cond b (c ∷ []) (60 ∷ (decimal c ++ (62 ∷ [])))) ≡ true
shown_from true c is small = rw is refl
shown_from false c is small = list_all-append is_plain (decimal c) (62 ∷ []) ∙ ap (λ b. b && true) (decimal_passes is_plain digit_is_plain c small)

pub shown_is_plain : (c : ℕ) → c < 2 ^ 64 → all_plain (shown c) ≡ true
shown_is_plain c small = shown_from (is_plain c) c refl small

pub letter_fits : (c : ℕ) → scalar c ≡ true → c < 2 ^ 64
letter_fits c is = omega (arith, scalar_fits c is)

pub letters_are_plain : (cs : List ℕ) → scalars cs ≡ true → all_plain (flat_map shown cs) ≡ true
letters_are_plain [] all = refl
letters_are_plain (c ∷ cs) all =
    let parts = and_parts (scalar c) (scalars cs) all in
    list_all-append is_plain (shown c) (flat_map shown cs)
    ∙ (rw (shown_is_plain c (letter_fits c parts.0)) (letters_are_plain cs parts.1))

-- what is printed of a text is printable ASCII
pub words_are_plain : (text : List ℕ) → IsUtf8 text → all_plain (plain text) ≡ true
words_are_plain text utf8 = letters_are_plain (chars text) (scalars-chars text utf8)

plain_is_ascii : (c : ℕ) → is_plain c ≡ true → c < 128
plain_is_ascii c is = grind (arith, nat_tests, is)

plain_bytes : (bs : List ℕ) → all_plain bs ≡ true → IsAscii bs
plain_bytes [] all i = IsAscii-nil i
plain_bytes (b ∷ bs) all zero = plain_is_ascii b (and_parts (is_plain b) (all_plain bs) all).0
plain_bytes (b ∷ bs) all (suc i) = plain_bytes bs (and_parts (is_plain b) (all_plain bs) all).1 i

letters_stay : (cs : List ℕ) → all_plain cs ≡ true → flat_map shown cs ≡ cs
letters_stay [] all = refl
letters_stay (c ∷ cs) all =
    let parts = and_parts (is_plain c) (all_plain cs) all in
    rw parts.0 (ap (λ rest. c ∷ rest) (letters_stay cs parts.1))

-- a text of printable ASCII is printed as it is
pub plain_stays : (text : List ℕ) → all_plain text ≡ true → plain text ≡ text
plain_stays text all = ap (flat_map shown) (chars-IsAscii text (plain_bytes text all)) ∙ letters_stay text all
