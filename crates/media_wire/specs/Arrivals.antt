-- What is known of a network by the calls that made it what it is.
use Rattle.std.specs.Prelude.{◌≡◌, List, [], ◌∷◌, ◌++◌}
use Rattle.std.specs.List.{Contains, filter}
use Rattle.channel_uri.specs.declared.address.Address.{Address}
use Rattle.media_wire.specs.Events.{Event, sent, read, nothing, failed, calm}
use Rattle.media_wire.specs.Letters.{is_for}
use Rattle.media_wire.specs.Networks.{Flight, Net, Goes, LeadAll}
use Rattle.media_wire.specs.declared.letter.Letter.{Letter}
use Rattle.media_wire.specs.declared.network.Fate.{Fate}

-- all that was sent, and all that was read
abbrev pub all_sent : List Event → List Letter
all_sent [] = []
all_sent (sent it ∷ events) = it ∷ all_sent events
all_sent (read it ∷ events) = all_sent events
all_sent (nothing address ∷ events) = all_sent events
all_sent (failed ∷ events) = all_sent events

abbrev pub all_read : List Event → List Letter
all_read [] = []
all_read (sent it ∷ events) = all_read events
all_read (read it ∷ events) = it ∷ all_read events
all_read (nothing address ∷ events) = all_read events
all_read (failed ∷ events) = all_read events

-- where every letter arrives, what was read at an address, and then what is on its way there, is what was sent there, in order
abbrev pub ArriveInOrder : Type 0
ArriveInOrder = (net : Net) (events : List Event) (address : Address) → net.fates ≡ [] → Goes net events →
    filter (is_for address) (all_sent events) ≡ filter (is_for address) (all_read events) ++ filter (is_for address) net.flight.letters

-- whatever the fates are, each letter that was read or is on its way was sent
abbrev pub WereSent : Type 0
WereSent = (net : Net) (events : List Event) (it : Letter) → Goes net events → Contains (all_read events ++ net.flight.letters) it →
    Contains (all_sent events) it

-- calls that fail leave a network as it is
abbrev pub FailuresLeadNowhere : Type 0
FailuresLeadNowhere = (fates : List Fate) (flight next : Flight) (events : List Event) → LeadAll fates flight events next →
    LeadAll fates flight (calm events) next
