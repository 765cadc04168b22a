-- Datagrams with the addresses that they go from and to.
use Rattle.std.specs.Prelude.{◌≤◌, ℕ, Bool, List, All, length}
use Rattle.channel_uri.specs.Address.{is_same}
use Rattle.channel_uri.specs.declared.address.Address.{Address}
use Rattle.media_wire.specs.declared.letter.Letter.{Letter}

abbrev pub letter : Address → Address → List ℕ → Letter
letter from to bytes = record { from = from; to = to; bytes = bytes }

abbrev pub is_for : Address → Letter → Bool
is_for address it = is_same it.to address

-- each is no longer than a datagram may be
abbrev pub AreShort : List Letter → Type 0
AreShort letters = All (λ (it : Letter). length it.bytes ≤ 65507) letters
