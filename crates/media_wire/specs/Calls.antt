-- What the calls of one socket of the system did, and what their answers mean. Own rules.
use Rattle.std.specs.Prelude.{◌≡◌, ℕ, ◌==◌, Bool, false, List, Option, Some, None, Result, Ok, Err, IsErr, length}
use Rattle.std.specs.IoError.{error_kind}
use Rattle.std.specs.Net.Addr.{ipv4_octets}
use Rattle.std.specs.Net.Socket.{v4_ip, v4_port}
use Rattle.std.specs.declared.io.Error.{Error}
use Rattle.std.specs.declared.io.ErrorKind.TheVariants.{WouldBlock}
use Rattle.std.specs.declared.net.socket_addr.SocketAddr.{SocketAddr}
use Rattle.std.specs.declared.net.socket_addr.SocketAddr.TheVariants.{V4, V6}
use Rattle.std.specs.declared.net.socket_addr.SocketAddrV4.{SocketAddrV4}
use Rattle.channel_uri.specs.declared.address.Address.{Address}
use Rattle.media_wire.specs.declared.wire.WireFault.{WireFault}

-- one was to be bound to an address; one was to keep more of what comes; one was never to wait; those bytes were to go to an
-- address; this was left in the buffer that a datagram was to be read into. Each with what was answered, and the last two with
-- what the call made of the socket
pub data Call (S : Type 0) : Type 0 where
  binds : SocketAddrV4 → Result S Error → Call S
  widens : S → Call S
  unwaits : S → Result Unit Error → Call S
  sends : S → List ℕ → SocketAddrV4 → Result ℕ Error → S → Call S
  reads : S → List ℕ → Result (ℕ × SocketAddr) Error → S → Call S

-- the system's form of that address
abbrev pub IsFormOf : SocketAddrV4 → Address → Type 0
IsFormOf form address = (ipv4_octets (v4_ip form) ≡ address.octets) × (v4_port form ≡ address.port)

-- an address of version 4 of the Internet Protocol
abbrev pub sender_of : SocketAddr → Option Address
sender_of (V4 from) = Some (record { octets = ipv4_octets (v4_ip from); port = v4_port from })
sender_of (V6 from) = None

-- it was sent where all bytes were
abbrev pub is_whole : List ℕ → Result ℕ Error → Bool
is_whole bytes (Ok count) = count == length bytes
is_whole bytes (Err error) = false

-- what a datagram of that length from there answers
abbrev pub Comes : ℕ → Option Address → Result (Option (ℕ × Address)) WireFault → Type 0
Comes count (Some from) answered = answered ≡ Ok (Some (count, from))
Comes count None answered = IsErr answered

-- a datagram that came as it came; nothing where the call would have had to wait
abbrev pub Means : Result (ℕ × SocketAddr) Error → Result (Option (ℕ × Address)) WireFault → Type 0
Means (Ok datagram) answered = Comes datagram.0 (sender_of datagram.1) answered
Means (Err error) answered = (error_kind error ≡ WouldBlock → answered ≡ Ok None) × (¬ (error_kind error ≡ WouldBlock) → IsErr answered)
