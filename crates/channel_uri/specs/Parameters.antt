-- What a channel says of its log. Each is decided by the same readers that its text was checked with.
use Rattle.std.specs.Prelude.{◌≡◌, ℕ, ℤ, List, Option, Some, None, Ok, is_some, codes}
use Rattle.channel_uri.specs.declared.address.Address.{Address}
use Rattle.channel_uri.specs.Address.{address_of}
use Rattle.channel_uri.specs.Channel.{Shape, denotes}
use Rattle.channel_uri.specs.Keys.{value_at}
use Rattle.channel_uri.specs.Number.{◌>>?◌}
use Rattle.channel_uri.specs.Quantity.{mtu_of, term_length_of, linger_of}
use Rattle.channel_uri.specs.Session.{session_id_of}
use Rattle.channel_uri.specs.Values.{fault_of}

unfoldable pub endpoint_of : Shape → Option Address
endpoint_of channel = value_at (codes "endpoint") channel.keys >>? address_of

unfoldable pub control_of : Shape → Option Address
control_of channel = value_at (codes "control") channel.keys >>? address_of

unfoldable pub stated_session_of : Shape → Option ℤ
stated_session_of channel = value_at (codes "session-id") channel.keys >>? session_id_of

unfoldable pub stated_mtu_of : Shape → Option ℕ
stated_mtu_of channel = value_at (codes "mtu") channel.keys >>? mtu_of

unfoldable pub stated_term_length_of : Shape → Option ℕ
stated_term_length_of channel = value_at (codes "term-length") channel.keys >>? term_length_of

unfoldable pub stated_linger_of : Shape → Option ℕ
stated_linger_of channel = value_at (codes "linger") channel.keys >>? linger_of

-- each value of a channel that a text denotes keeps the rule of its key
abbrev pub ValuesKeepTheirRules : Type 0
ValuesKeepTheirRules =
    (text key value : List ℕ) (channel : Shape) → denotes text ≡ Ok channel → value_at key channel.keys ≡ Some value →
    fault_of (key, value) ≡ None

-- what stands in the text of a channel is read: nothing is missing but where the key is
pub record ReadWhereItStands (channel : Shape) : Type 0 where
  pub endpoint : is_some (endpoint_of channel) ≡ is_some (value_at (codes "endpoint") channel.keys)
  pub control : is_some (control_of channel) ≡ is_some (value_at (codes "control") channel.keys)
  pub session : is_some (stated_session_of channel) ≡ is_some (value_at (codes "session-id") channel.keys)
  pub mtu : is_some (stated_mtu_of channel) ≡ is_some (value_at (codes "mtu") channel.keys)
  pub term_length : is_some (stated_term_length_of channel) ≡ is_some (value_at (codes "term-length") channel.keys)
  pub linger : is_some (stated_linger_of channel) ≡ is_some (value_at (codes "linger") channel.keys)

abbrev pub StatedIsRead : Type 0
StatedIsRead = (text : List ℕ) (channel : Shape) → denotes text ≡ Ok channel → ReadWhereItStands channel
