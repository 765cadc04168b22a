-- Sockets that are open, and what a call does with the one that it needs. Own rules.
use Rattle.std.specs.Prelude.{◌≡◌, ◌<◌, ◌≤◌, ℕ, ◌⊎◌, Bool, List, [], ◌∷◌, ◌++◌, Option, Some, None, Result, Ok, Err, is_ok, length, slice_set}
use Rattle.std.specs.List.{All, AllWithin, position, remove, slice_get}
use Rattle.std.specs.declared.io.Error.{Error}
use Rattle.std.specs.declared.net.socket_addr.SocketAddr.{SocketAddr}
use Rattle.std.specs.declared.net.socket_addr.SocketAddrV4.{SocketAddrV4}
use Rattle.channel_uri.specs.Address.{is_same}
use Rattle.channel_uri.specs.declared.address.Address.{Address}
use Rattle.media_wire.specs.Calls.{Call, IsFormOf, Means, binds, is_whole, reads, sends, unwaits, widens}
use Rattle.media_wire.specs.declared.wire.WireFault.{WireFault}

-- a socket, the address that it is bound to, and which call used it last
pub record Bound (S : Type 0) : Type 0 where
  pub local : Address
  pub used : ℕ
  pub socket : S

module _ {S : Type 0} where
  abbrev pub is_at : Address → Bound S → Bool
  is_at address door = is_same door.local address

  -- it was not used for the longest, and is the first of several
  pub record IsOldest (doors : List (Bound S)) (place : ℕ) : Type 0 where
    pub oldest : Bound S
    pub there : slice_get doors place ≡ Some oldest
    pub least : All (λ other. oldest.used ≤ other.used) doors
    pub first : AllWithin (λ other. oldest.used < other.used) doors 0 place

  -- that one was closed, and all others are left
  pub record LosesOldest (doors left : List (Bound S)) : Type 0 where
    pub place : ℕ
    pub is_oldest : IsOldest doors place
    pub left_is : left ≡ remove doors place

  -- none was closed where there was a place for one more
  pub record MakesRoom (places : ℕ) (doors left : List (Bound S)) : Type 0 where
    pub had : length doors < places → left ≡ doors
    pub lacked : places ≤ length doors → LosesOldest doors left

module _ {S : Type 0} (Did : Call S → Type 0) (Stands : S → SocketAddrV4 → Type 0) where
  -- the socket is bound to that address
  abbrev pub IsBoundAt : S → Address → Type 0
  IsBoundAt socket local = (at : SocketAddrV4) × IsFormOf at local × Stands socket at

  -- one was bound to that address, and is never to wait
  pub record IsOpened (local : Address) (call : ℕ) (door : Bound S) : Type 0 where
    pub at : SocketAddrV4
    pub form : IsFormOf at local
    pub bound : Did (binds at (Ok door.socket))
    pub widened : Did (widens door.socket)
    pub unwaiting : Did (unwaits door.socket (Ok tt))
    pub door_is : door ≡ record { local = local; used = call; socket = door.socket }

  -- none could be bound there, or one that was would have waited
  pub data IsShut (local : Address) : Type 0 where
    unbound : (at : SocketAddrV4) → (error : Error) → IsFormOf at local → Did (binds at (Err error)) → IsShut local
    waiting : (at : SocketAddrV4) → (socket : S) → (error : Error) → IsFormOf at local → Did (binds at (Ok socket)) →
        Did (unwaits socket (Err error)) → IsShut local

  abbrev pub Opens : Address → ℕ → Option (Bound S) → Type 0
  Opens local call (Some door) = IsOpened local call door
  Opens local call None = IsShut local

  -- one is added behind those for which there is room beside it
  pub record IsAdded (places call : ℕ) (local : Address) (doors next : List (Bound S)) (place : ℕ) : Type 0 where
    pub absent : position (is_at local) doors ≡ None
    pub door : Bound S
    pub opened : IsOpened local call door
    pub left : List (Bound S)
    pub room : MakesRoom places doors left
    pub next_is : next ≡ left ++ door ∷ []
    pub place_is : place ≡ length left

  -- where the socket of an address stands, which is opened if there is none. None where it can't be opened
  abbrev pub Enters : ℕ → ℕ → Address → List (Bound S) → List (Bound S) → Option ℕ → Type 0
  Enters places call local doors next (Some place) =
      ((position (is_at local) doors ≡ Some place) × (next ≡ doors)) ⊎ IsAdded places call local doors next place
  Enters places call local doors next None = (position (is_at local) doors ≡ None) × IsShut local × (next ≡ doors)

  -- the socket took one call: those bytes were to go to that address. It is answered that they were sent where all of them were
  pub record Sends (call : ℕ) (to : Address) (bytes : List ℕ) (door next : Bound S) (answered : Result Unit WireFault) : Type 0 where
    pub bound : IsBoundAt door.socket door.local
    pub at : SocketAddrV4
    pub form : IsFormOf at to
    pub answer : Result ℕ Error
    pub did : Did (sends door.socket bytes at answer next.socket)
    pub answered_is : is_ok answered ≡ is_whole bytes answer
    pub next_is : next ≡ record { local = door.local; used = call; socket = next.socket }

  -- the socket took one call: a datagram was to be read, and this is in the buffer. What came, as a wire answers it
  pub record Reads (call : ℕ) (buffer : List ℕ) (door next : Bound S) (answered : Result (Option (ℕ × Address)) WireFault) : Type 0 where
    pub bound : IsBoundAt door.socket door.local
    pub answer : Result (ℕ × SocketAddr) Error
    pub did : Did (reads door.socket buffer answer next.socket)
    pub means : Means answer answered
    pub next_is : next ≡ record { local = door.local; used = call; socket = next.socket }

  -- the socket of the address was used, and no other
  pub record UsesOne (Uses : Bound S → Bound S → Type 0) (places call : ℕ) (local : Address) (doors next : List (Bound S)) : Type 0 where
    pub between : List (Bound S)
    pub place : ℕ
    pub enters : Enters places call local doors between (Some place)
    pub door : Bound S
    pub there : slice_get between place ≡ Some door
    pub after : Bound S
    pub uses : Uses door after
    pub next_is : next ≡ slice_set between place after

  -- or there was none
  abbrev pub UsesIts : (Bound S → Bound S → Type 0) → Type 0 → ℕ → ℕ → Address → List (Bound S) → List (Bound S) → Type 0
  UsesIts Uses Fails places call local doors next =
      UsesOne Uses places call local doors next ⊎ (Enters places call local doors next None × Fails)
