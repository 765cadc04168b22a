-- Bytes that are written one after another.
use Rattle.std.proofs.Common.{◌≡◌, ℕ, ◌+◌, ◌-◌, ◌^◌, ◌<◌, false, List, [], ◌∷◌, ◌++◌, length, get_or, take, sym, ap, ◌∙◌}
use Rattle.std.specs.Fmt.{digits, padded_integral, format_spec}
use Rattle.std.specs.List.{flat_map}
use Rattle.std.proofs.lemmas.Fmt.{hex_byte}
use Rattle.std.proofs.lemmas.List.{take_more}
use Rattle.std.proofs.lemmas.List.Concat.{flat_map-append}
use Rattle.driver_script.specs.Answers.{byte_text}

-- the digits of one more byte
pub byte_text-more : (bytes : List ℕ) (i : ℕ) → i < length bytes → get_or bytes i 0 < 256 →
    flat_map byte_text (take i bytes) ++ padded_integral (format_spec 32 0 4 2 (2 ^ 64 - 1)) false [] (digits 16 false (get_or bytes i 0))
    ≡ flat_map byte_text (take (i + 1) bytes)
byte_text-more bytes i within small =
    ap (λ text. flat_map byte_text (take i bytes) ++ text) (hex_byte false (get_or bytes i 0) small)
    ∙ sym (ap (flat_map byte_text) (take_more bytes i 0 within) ∙ flat_map-append byte_text (take i bytes) (get_or bytes i 0 ∷ []))
