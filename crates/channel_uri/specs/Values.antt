-- What is wrong with the value of a key (Aeron wiki, channel configuration). A key without a rule is kept.
use Rattle.std.specs.Prelude.{ℕ, Bool, true, false, List, [], ◌∷◌, Option, Some, None, Result, Ok, Err, is_some, codes, if◌then◌else◌}
use Rattle.std.specs.Option.{option_or}
use Rattle.std.specs.Str.{bytes_eq}
use Rattle.channel_uri.specs.declared.error.UriError.{UriError}
use Rattle.channel_uri.specs.declared.error.UriError.TheVariants.{BadValue, NotServed}
use Rattle.channel_uri.specs.declared.key.Key.{Key}
use Rattle.channel_uri.specs.declared.key.Key.TheVariants.{Endpoint, Control, Mtu, TermLength, SessionId, Linger, ControlMode, Interface, Tags}
use Rattle.channel_uri.specs.Address.{address_of}
use Rattle.channel_uri.specs.Key.{key_of}
use Rattle.channel_uri.specs.Keys.{Pair}
use Rattle.channel_uri.specs.Number.{◌>>?◌}
use Rattle.channel_uri.specs.Quantity.{mtu_of, term_length_of, linger_of}
use Rattle.channel_uri.specs.Session.{session_id_of}

-- a value is bad unless it is good
abbrev pub unless : Key → Bool → Option UriError
unless key true = None
unless key false = Some (BadValue key)

-- own: that in which destinations answer for themselves is not served
abbrev pub mode_fault : List ℕ → Option UriError
mode_fault mode =
    if bytes_eq mode (codes "manual") then None
    else if bytes_eq mode (codes "dynamic") then None
    else if bytes_eq mode (codes "response") then Some (NotServed ControlMode)
    else Some (BadValue ControlMode)

-- what is wrong with this value of a key that has a rule
abbrev pub fault_at : Key → List ℕ → Option UriError
fault_at Endpoint value = unless Endpoint (is_some (address_of value))
fault_at Control value = unless Control (is_some (address_of value))
fault_at Mtu value = unless Mtu (is_some (mtu_of value))
fault_at TermLength value = unless TermLength (is_some (term_length_of value))
fault_at SessionId value = unless SessionId (is_some (session_id_of value))
fault_at Linger value = unless Linger (is_some (linger_of value))
fault_at ControlMode value = mode_fault value
fault_at Interface value = Some (NotServed Interface)
fault_at Tags value = Some (NotServed Tags)

-- what is wrong with a pair
unfoldable pub fault_of : Pair → Option UriError
fault_of pair = key_of pair.0 >>? λ key. fault_at key pair.1

-- the fault of the first pair that has one
abbrev pub first_fault : List Pair → Option UriError
first_fault [] = None
first_fault (pair ∷ pairs) = option_or (fault_of pair) (first_fault pairs)

-- the value, unless there is a fault
abbrev pub checked : {A : Type 0} → Option UriError → A → Result A UriError
checked None value = Ok value
checked (Some fault) value = Err fault
