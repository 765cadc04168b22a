-- What `parse` says of a decimal.
use Rattle.std.proofs.Common.{◌≡◌, ℕ, ◌<◌, ◌^◌, ◌==◌, true, false, List, Some, Result, Ok, Err, length, rules, arith, refl, sym, ap, ◌∙◌}
use Rattle.std.specs.Char.{is_ascii_digit}
use Rattle.std.specs.List.{list_all}
use Rattle.std.specs.Result.{OkIff, result_ok}
use Rattle.std.specs.Str.Parse.{ParsesUnsigned, digits_value}
use Rattle.std.proofs.lemmas.Bool.Decides.{nat_tests}
use Rattle.std.proofs.lemmas.Str.Parse.{IsDigitsTest, IsNumeralModel, numerals_by_value, parse_digits}
use Rattle.channel_uri.specs.Number.{below, decimal_of}

tells_digits_alone : IsDigitsTest (λ ds. list_all is_ascii_digit ds ≡ true)
tells_digits_alone = search rules

pub decimals : IsNumeralModel (λ ds. list_all is_ascii_digit ds ≡ true) (digits_value 10)
decimals = numerals_by_value _ tells_digits_alone

decimal_of-digits : (text : List ℕ) → (length text == 0) ≡ false → list_all is_ascii_digit text ≡ true →
    decimal_of text ≡ Some (digits_value 10 text)
unfolding decimal_of
decimal_of-digits text some digits = rw (some, digits) refl

below-parsed : {E : Type 0} (read : Result ℕ E) (value length_of limit : ℕ) →
    OkIff read ((0 < length_of) × (value < limit)) value → 0 < length_of → result_ok read ≡ below limit (Some value)
below-parsed (Ok number) value length_of limit h some = grind (arith, nat_tests)
below-parsed (Err error) value length_of limit h some = grind (arith, nat_tests)

-- digits are read as their value, where it fits
pub result_ok-parse : {E : Type 0} (read : Result ℕ E) (text : List ℕ) →
    ParsesUnsigned 64 10 text read → (length text == 0) ≡ false → list_all is_ascii_digit text ≡ true →
    result_ok read ≡ below (2 ^ 64) (decimal_of text)
result_ok-parse read text parsed some digits =
    below-parsed read (digits_value 10 text) (length text) (2 ^ 64) (parse_digits decimals 64 text read parsed digits) (grind (arith, nat_tests))
    ∙ ap (below (2 ^ 64)) (sym (decimal_of-digits text some digits))
