-- Session ids (Aeron wiki, channel configuration: `session-id`).
use Rattle.std.specs.Prelude.{ℕ, ◌+◌, ◌^◌, ℤ, pos, neg_ℤ, List, Option, nat_eq, drop, codes, if◌then◌else◌}
use Rattle.std.specs.List.{starts_with}
use Rattle.std.specs.Option.{option_map}
use Rattle.channel_uri.specs.Number.{decimal_of, below}

-- a signed decimal of 32 bits; `-0` is 0, and a `+` does not stand
unfoldable pub session_id_of : List ℕ → Option ℤ
session_id_of text =
    if starts_with nat_eq text (codes "-")
    then option_map (λ number. neg_ℤ (pos number)) (below (2 ^ 31 + 1) (decimal_of (drop 1 text)))
    else option_map pos (below (2 ^ 31) (decimal_of text))
