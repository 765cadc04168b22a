-- What the lines `set KEY VALUE` of a script choose: the settings of its driver (own).
use Rattle.std.specs.Prelude.{◌≡◌, ℕ, ◌++◌, Bool, true, false, List, [], ◌∷◌, Option, Some, None, nat_le, codes, if◌then◌else◌}
use Rattle.std.specs.List.{list_any}
use Rattle.std.specs.Str.{bytes_eq}
use Rattle.channel_uri.specs.Address.{address_of}
use Rattle.channel_uri.specs.Quantity.{mtu_from, term_length_from, times}
use Rattle.channel_uri.specs.Session.{session_id_of}
use Rattle.driver_core.specs.declared.state.settings.Settings.{Settings}
use Rattle.driver_core.specs.Settings.{default_settings}
use Rattle.script_lines.specs.declared.settings.Duration.{Duration as DurationKey}
use Rattle.script_lines.specs.declared.settings.Duration.TheVariants.{ClientLiveness, ImageLiveness, Linger, ConnectionTimeout, DestinationTimeout, ResendLinger, NakDelay, NakRepeat, SetupInterval, HeartbeatInterval, StatusInterval}
use Rattle.script_lines.specs.declared.settings.Key.{Key}
use Rattle.script_lines.specs.declared.settings.Key.TheVariants.{Duration, TermLength, Mtu, ArenaPages, FirstSession, InitialTerm, ReceiverId, SendAddress}
use Rattle.script_lines.specs.Hex.{◌>>=◌}
use Rattle.script_lines.specs.Number.{number_of}

-- the keys with their names
abbrev pub keys : List (List ℕ × Key)
keys =
    (codes "client-liveness", Duration ClientLiveness)
    ∷ (codes "image-liveness", Duration ImageLiveness)
    ∷ (codes "linger", Duration Linger)
    ∷ (codes "connection-timeout", Duration ConnectionTimeout)
    ∷ (codes "destination-timeout", Duration DestinationTimeout)
    ∷ (codes "resend-linger", Duration ResendLinger)
    ∷ (codes "nak-delay", Duration NakDelay)
    ∷ (codes "nak-repeat", Duration NakRepeat)
    ∷ (codes "setup-interval", Duration SetupInterval)
    ∷ (codes "heartbeat-interval", Duration HeartbeatInterval)
    ∷ (codes "status-interval", Duration StatusInterval)
    ∷ (codes "term-length", TermLength)
    ∷ (codes "mtu", Mtu)
    ∷ (codes "arena-pages", ArenaPages)
    ∷ (codes "first-session", FirstSession)
    ∷ (codes "initial-term", InitialTerm)
    ∷ (codes "receiver-id", ReceiverId)
    ∷ (codes "send-address", SendAddress)
    ∷ []

abbrev pub key_among : List (List ℕ × Key) → List ℕ → Option Key
key_among [] name = None
key_among (row ∷ rows) name = if bytes_eq row.0 name then Some row.1 else key_among rows name

-- the key of that name
unfoldable pub key_of : List ℕ → Option Key
key_of name = key_among keys name

-- durations are in nanoseconds, without a unit; as in a channel they are below 2^63
abbrev pub duration_in : List ℕ → Option ℕ
duration_in value = times 1 value

-- sizes are in bytes, without a unit; a term and a datagram have the sizes that a channel may state
abbrev pub term_length_in : List ℕ → Option ℕ
term_length_in value = number_of value >>= term_length_from

abbrev pub mtu_in : List ℕ → Option ℕ
mtu_in value = number_of value >>= mtu_from

-- from 1 to 65536 pages
abbrev pub pages_of : List ℕ → Option ℕ
pages_of value = number_of value >>= λ pages.
    if nat_le 1 pages then if nat_le pages 65536 then Some pages else None else None

-- from 1 to 512 images
abbrev pub images_of : List ℕ → Option ℕ
images_of value = number_of value >>= λ images.
    if nat_le 1 images then if nat_le images 512 then Some images else None else None

abbrev pub with_duration : Settings → DurationKey → ℕ → Settings
with_duration settings ClientLiveness duration = record settings { client_liveness = duration }
with_duration settings ImageLiveness duration = record settings { image_liveness = duration }
with_duration settings Linger duration = record settings { linger = duration }
with_duration settings ConnectionTimeout duration = record settings { connection_timeout = duration }
with_duration settings DestinationTimeout duration = record settings { destination_timeout = duration }
with_duration settings ResendLinger duration = record settings { resend_linger = duration }
with_duration settings NakDelay duration = record settings { nak_delay = duration }
with_duration settings NakRepeat duration = record settings { nak_repeat = duration }
with_duration settings SetupInterval duration = record settings { setup_interval = duration }
with_duration settings HeartbeatInterval duration = record settings { heartbeat_interval = duration }
with_duration settings StatusInterval duration = record settings { status_interval = duration }

-- the settings where that key has the value, if the value is in its range
abbrev pub with_value : Settings → Key → List ℕ → Option Settings
with_value settings (Duration key) value = duration_in value >>= λ duration. Some (with_duration settings key duration)
with_value settings TermLength value = term_length_in value >>= λ size. Some (record settings { term_length = size })
with_value settings Mtu value = mtu_in value >>= λ size. Some (record settings { mtu = size })
with_value settings ArenaPages value = pages_of value >>= λ pages. Some (record settings { arena_pages = pages })
with_value settings FirstSession value = session_id_of value >>= λ id. Some (record settings { first_session = id })
with_value settings InitialTerm value = session_id_of value >>= λ id. Some (record settings { initial_term = id })
with_value settings ReceiverId value = number_of value >>= λ id. Some (record settings { receiver_id = id })
with_value settings SendAddress value = address_of value >>= λ address. Some (record settings { send_address = address })

-- the settings with what was chosen so far, and the names of the keys that were given
pub record Chosen : Type 0 where
  pub settings : Settings
  pub given : List (List ℕ)

-- nothing is chosen
abbrev pub no_choices : Chosen
no_choices = record { settings = default_settings; given = [] }

-- the settings with one choice more: no key is given twice
abbrev pub chosen : Chosen → List ℕ → List ℕ → Option Settings
chosen choices name value =
    if list_any (λ given. bytes_eq given name) choices.given then None
    else key_of name >>= λ key. with_value choices.settings key value

-- the settings are these now, and the key is given
abbrev pub choice : List (List ℕ) → List ℕ → Option Settings → Option Chosen
choice given name None = None
choice given name (Some settings) = Some (record { settings = settings; given = given ++ name ∷ [] })

-- the choices after a line, unless it is bad
unfoldable pub choose : Chosen → List ℕ → List ℕ → Option Chosen
choose choices name value = choice choices.given name (chosen choices name value)

-- the settings where one source address may have so many images, if the value is in its range; no script says so
abbrev pub with_images : Settings → List ℕ → Option Settings
with_images settings value = images_of value >>= λ images. Some (record settings { images_per_source = images })

-- that bound was taken, and no key is given by it; or the value is none, and nothing was changed
abbrev pub BoundsImages : Chosen → Chosen → List ℕ → Bool → Type 0
BoundsImages old new value true = (with_images old.settings value ≡ Some new.settings) × (new.given ≡ old.given)
BoundsImages old new value false = (with_images old.settings value ≡ None) × (new ≡ old)

-- the choice was taken; or it is none, and nothing was changed
abbrev pub Chooses : Chosen → Chosen → List ℕ → List ℕ → Bool → Type 0
Chooses old new name value true = choose old name value ≡ Some new
Chooses old new name value false = (choose old name value ≡ None) × (new ≡ old)
