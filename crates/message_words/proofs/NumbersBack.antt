-- Numbers in decimal are read back from what they are written as, and only numbers that fit are read.
use Rattle.std.proofs.Common.{◌≡◌, ℕ, zero, suc, ◌+◌, ◌==◌, ◌^◌, ◌<◌, ℤ, pos, negsuc, neg_ℤ, Bool, true, false, cond, List, [], ◌∷◌, length, drop, Option, Some, None, refl, ap, subst, ◌∙◌, nat_eq, nat_lt, arith}
use Rattle.std.specs.Char.{is_ascii_digit}
use Rattle.std.specs.Fmt.{decimal, signed_decimal}
use Rattle.std.specs.Int.{w32, w64}
use Rattle.std.specs.List.{list_all, starts_with}
use Rattle.std.specs.Option.{option_map}
use Rattle.std.specs.Prelude.{FitsSigned, codes}
use Rattle.std.proofs.lemmas.Bool.{and_parts, ltb-true}
use Rattle.std.proofs.lemmas.Bool.Decides.{nat_tests}
use Rattle.std.proofs.lemmas.Fmt.{decimal_nonempty, digits_decimal, digits_value-decimal}
use Rattle.channel_uri.specs.Number.{below, decimal_of}
use Rattle.channel_uri.proofs.NumberLemmas.{decimals}
use Rattle.message_words.specs.Values.{natural_of, number_of, signed_of}

-- ---- what is written is read

decimal_back : (n : ℕ) → n < 2 ^ 64 → decimal_of (decimal n) ≡ Some n
unfolding decimal_of
decimal_back n small =
    let some : (length (decimal n) == 0) ≡ false = grind (arith, nat_tests, decimal_nonempty n small) in
    let digits : list_all is_ascii_digit (decimal n) ≡ true = digits_decimal decimals n small in
    rw (some, digits) (ap Some (digits_value-decimal decimals n small))

below_back : (limit n : ℕ) → n < limit → n < 2 ^ 64 → below limit (decimal_of (decimal n)) ≡ Some n
below_back limit n fits small =
    let inside : nat_lt n limit ≡ true = grind (arith, nat_tests, fits) in
    ap (below limit) (decimal_back n small) ∙ (rw inside refl)

pub number_back : (n : ℕ) → n < 2 ^ 64 → number_of (decimal n) ≡ Some n
unfolding number_of
number_back n fits = below_back (2 ^ 64) n fits fits

pub natural_back : (n : ℕ) → n < 2 ^ 31 → natural_of (decimal n) ≡ Some n
unfolding natural_of
natural_back n fits = below_back (2 ^ 31) n fits (omega (arith, fits))

-- digits have no sign
no_sign : (text : List ℕ) → list_all is_ascii_digit text ≡ true → starts_with nat_eq text (codes "-") ≡ false
no_sign [] all = refl
no_sign (x ∷ xs) all = grind (arith, nat_tests, (and_parts (is_ascii_digit x) (list_all is_ascii_digit xs) all).0)

signed_positive : (limit n : ℕ) → n < limit → n < 2 ^ 64 → signed_of limit (decimal n) ≡ Some (pos n)
unfolding signed_of
signed_positive limit n fits small =
    let unsigned : starts_with nat_eq (decimal n) (codes "-") ≡ false = no_sign (decimal n) (digits_decimal decimals n small) in
    rw (unsigned, below_back limit n fits small) refl

signed_negative : (limit n : ℕ) → suc n < limit + 1 → suc n < 2 ^ 64 → signed_of limit (signed_decimal (negsuc n)) ≡ Some (negsuc n)
unfolding signed_of
signed_negative limit n fits small = rw (below_back (limit + 1) (suc n) fits small) refl

pub integer_back : (z : ℤ) → FitsSigned w32 z → signed_of (2 ^ 31) (signed_decimal z) ≡ Some z
integer_back (pos n) fits = signed_positive (2 ^ 31) n fits.sfits (omega (arith, fits.sfits))
integer_back (negsuc n) fits = signed_negative (2 ^ 31) n (omega (arith, fits.sfits)) (omega (arith, fits.sfits))

pub long_back : (z : ℤ) → FitsSigned w64 z → signed_of (2 ^ 63) (signed_decimal z) ≡ Some z
long_back (pos n) fits = signed_positive (2 ^ 63) n fits.sfits (omega (arith, fits.sfits))
long_back (negsuc n) fits = signed_negative (2 ^ 63) n (omega (arith, fits.sfits)) (omega (arith, fits.sfits))

-- ---- what is read fits

pub some_is : {A : Type 0} (x y : A) (o : Option A) → o ≡ Some x → o ≡ Some y → x ≡ y
some_is x y o first second = cc

below_by : (low : Bool) (limit found n : ℕ) → nat_lt found limit ≡ low → cond {A = Option ℕ} low (Some found) None ≡ Some n → n < limit
below_by true limit found n small is = subst (λ (m : ℕ). m < limit) (some_is found n _ refl is) (ltb-true found limit small)
below_by false limit found n small is = absurd (cc is)

below_fits : (limit : ℕ) (o : Option ℕ) (n : ℕ) → below limit o ≡ Some n → n < limit
below_fits limit None n is = absurd (cc is)
below_fits limit (Some found) n is = below_by (nat_lt found limit) limit found n refl is

pub number_fits : (value : List ℕ) (n : ℕ) → number_of value ≡ Some n → n < 2 ^ 64
unfolding number_of
number_fits value n is = below_fits (2 ^ 64) (decimal_of value) n is

pub natural_fits : (value : List ℕ) (n : ℕ) → natural_of value ≡ Some n → n < 2 ^ 31
unfolding natural_of
natural_fits value n is = below_fits (2 ^ 31) (decimal_of value) n is

mapped : {A B : Type 0} (make : A → B) (P : B → Type 0) (o : Option A) (y : B) → ((x : A) → o ≡ Some x → P (make x)) → option_map make o ≡ Some y → P y
mapped make P None y each is = absurd (cc is)
mapped make P (Some x) y each is = subst P (some_is (make x) y _ refl is) (each x refl)

-- a number of which that many are not negative
signed_by : (limit : ℕ) (P : ℤ → Type 0) → ((n : ℕ) → n < limit → P (pos n)) → ((n : ℕ) → n < limit + 1 → P (neg_ℤ (pos n))) →
    (negative : Bool) (one other : Option ℕ) (z : ℤ) →
    cond negative (option_map (λ number. neg_ℤ (pos number)) (below (limit + 1) one)) (option_map pos (below limit other)) ≡ Some z → P z
signed_by limit P up down true one other z is =
    mapped (λ number. neg_ℤ (pos number)) P (below (limit + 1) one) z (λ n found. down n (below_fits (limit + 1) one n found)) is
signed_by limit P up down false one other z is =
    mapped pos P (below limit other) z (λ n found. up n (below_fits limit other n found)) is

down_32 : (n : ℕ) → n < 2 ^ 31 + 1 → FitsSigned w32 (neg_ℤ (pos n))
down_32 zero low = record { sfits = omega arith }
down_32 (suc n) low = record { sfits = omega (arith, low) }

down_64 : (n : ℕ) → n < 2 ^ 63 + 1 → FitsSigned w64 (neg_ℤ (pos n))
down_64 zero low = record { sfits = omega arith }
down_64 (suc n) low = record { sfits = omega (arith, low) }

pub integer_fits : (value : List ℕ) (z : ℤ) → signed_of (2 ^ 31) value ≡ Some z → FitsSigned w32 z
unfolding signed_of
integer_fits value z is =
    signed_by (2 ^ 31) (FitsSigned w32) (λ n low. record { sfits = low }) down_32
    (starts_with nat_eq value (codes "-")) (decimal_of (drop 1 value)) (decimal_of value) z is

pub long_fits : (value : List ℕ) (z : ℤ) → signed_of (2 ^ 63) value ≡ Some z → FitsSigned w64 z
unfolding signed_of
long_fits value z is =
    signed_by (2 ^ 63) (FitsSigned w64) (λ n low. record { sfits = low }) down_64
    (starts_with nat_eq value (codes "-")) (decimal_of (drop 1 value)) (decimal_of value) z is
