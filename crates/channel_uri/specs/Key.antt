-- The keys that have a rule for their values (Aeron wiki, channel configuration).
use Rattle.std.specs.Prelude.{ℕ, List, [], ◌∷◌, Option, codes, find}
use Rattle.std.specs.Str.{bytes_eq}
use Rattle.channel_uri.specs.declared.key.Key.{Key}
use Rattle.channel_uri.specs.declared.key.Key.TheVariants.{Endpoint, Control, Mtu, TermLength, SessionId, Linger, ControlMode, Interface, Tags}

-- the key as it stands in a channel
abbrev pub key_text : Key → List ℕ
key_text Endpoint = codes "endpoint"
key_text Control = codes "control"
key_text Mtu = codes "mtu"
key_text TermLength = codes "term-length"
key_text SessionId = codes "session-id"
key_text Linger = codes "linger"
key_text ControlMode = codes "control-mode"
key_text Interface = codes "interface"
key_text Tags = codes "tags"

abbrev pub every_key : List Key
every_key =
    Endpoint ∷ Control ∷ Mtu ∷ TermLength ∷ SessionId ∷ Linger ∷ ControlMode ∷ Interface ∷ Tags ∷ []

-- the key of that text
unfoldable pub key_of : List ℕ → Option Key
key_of text = find (λ key. bytes_eq (key_text key) text) every_key
