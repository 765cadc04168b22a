-- The names of commands and datagrams, and the keys that each has, in the order of its fields. Own rules.
use Rattle.std.specs.Prelude.{ℕ, List, [], ◌∷◌, Option, codes, find}
use Rattle.std.specs.Str.{bytes_eq}
use Rattle.message_words.specs.declared.name.CommandName.{CommandName}
use Rattle.message_words.specs.declared.name.CommandName.TheVariants as commands
use Rattle.message_words.specs.declared.name.FrameName.{FrameName}
use Rattle.message_words.specs.declared.name.FrameName.TheVariants as frames
use Rattle.message_words.specs.declared.name.Name.{Name}
use Rattle.message_words.specs.declared.name.Name.TheVariants as names
use Rattle.message_words.specs.declared.key.Key.{Key}
use Rattle.message_words.specs.declared.key.Key.TheVariants as keys

abbrev pub command_text : CommandName → List ℕ
command_text commands.AddPublication = codes "add-publication"
command_text commands.RemovePublication = codes "remove-publication"
command_text commands.AddExclusivePublication = codes "add-exclusive-publication"
command_text commands.AddSubscription = codes "add-subscription"
command_text commands.RemoveSubscription = codes "remove-subscription"
command_text commands.ClientKeepalive = codes "client-keepalive"
command_text commands.AddDestination = codes "add-destination"
command_text commands.RemoveDestination = codes "remove-destination"
command_text commands.AddCounter = codes "add-counter"
command_text commands.RemoveCounter = codes "remove-counter"
command_text commands.ClientClose = codes "client-close"
command_text commands.TerminateDriver = codes "terminate-driver"
command_text commands.SetCounter = codes "set-counter"

abbrev pub frame_text : FrameName → List ℕ
frame_text frames.Data = codes "data"
frame_text frames.Pad = codes "pad"
frame_text frames.Heartbeat = codes "heartbeat"
frame_text frames.Nak = codes "nak"
frame_text frames.StatusMessage = codes "status-message"
frame_text frames.Setup = codes "setup"

abbrev pub name_text : Name → List ℕ
name_text (names.Command name) = command_text name
name_text (names.Frame name) = frame_text name

abbrev pub every_name : List Name
every_name =
    names.Command commands.AddPublication
    ∷ names.Command commands.RemovePublication
    ∷ names.Command commands.AddExclusivePublication
    ∷ names.Command commands.AddSubscription
    ∷ names.Command commands.RemoveSubscription
    ∷ names.Command commands.ClientKeepalive
    ∷ names.Command commands.AddDestination
    ∷ names.Command commands.RemoveDestination
    ∷ names.Command commands.AddCounter
    ∷ names.Command commands.RemoveCounter
    ∷ names.Command commands.ClientClose
    ∷ names.Command commands.TerminateDriver
    ∷ names.Command commands.SetCounter
    ∷ names.Frame frames.Data
    ∷ names.Frame frames.Pad
    ∷ names.Frame frames.Heartbeat
    ∷ names.Frame frames.Nak
    ∷ names.Frame frames.StatusMessage
    ∷ names.Frame frames.Setup
    ∷ []

-- what has this name
unfoldable pub name_of : List ℕ → Option Name
name_of text = find (λ name. bytes_eq (name_text name) text) every_name

-- the keys of each
abbrev pub command_keys : CommandName → List Key
command_keys commands.AddPublication = keys.Client ∷ keys.Correlation ∷ keys.Stream ∷ keys.Channel ∷ keys.ChannelHex ∷ []
command_keys commands.RemovePublication = keys.Client ∷ keys.Correlation ∷ keys.Registration ∷ []
command_keys commands.AddExclusivePublication = keys.Client ∷ keys.Correlation ∷ keys.Stream ∷ keys.Channel ∷ keys.ChannelHex ∷ []
command_keys commands.AddSubscription = keys.Client ∷ keys.Correlation ∷ keys.RegistrationCorrelation ∷ keys.Stream ∷ keys.Channel ∷ keys.ChannelHex ∷ []
command_keys commands.RemoveSubscription = keys.Client ∷ keys.Correlation ∷ keys.Registration ∷ []
command_keys commands.ClientKeepalive = keys.Client ∷ keys.Correlation ∷ []
command_keys commands.AddDestination = keys.Client ∷ keys.Correlation ∷ keys.Registration ∷ keys.Channel ∷ keys.ChannelHex ∷ []
command_keys commands.RemoveDestination = keys.Client ∷ keys.Correlation ∷ keys.Registration ∷ keys.Channel ∷ keys.ChannelHex ∷ []
command_keys commands.AddCounter = keys.Client ∷ keys.Correlation ∷ keys.TypeId ∷ keys.CounterKey ∷ keys.Label ∷ keys.LabelHex ∷ []
command_keys commands.RemoveCounter = keys.Client ∷ keys.Correlation ∷ keys.Registration ∷ []
command_keys commands.ClientClose = keys.Client ∷ keys.Correlation ∷ []
command_keys commands.TerminateDriver = keys.Client ∷ keys.Correlation ∷ keys.Token ∷ []
command_keys commands.SetCounter = keys.Client ∷ keys.Correlation ∷ keys.Registration ∷ keys.Value ∷ []

abbrev pub frame_keys : FrameName → List Key
frame_keys frames.Data = keys.Session ∷ keys.Stream ∷ keys.Term ∷ keys.Offset ∷ keys.Flags ∷ keys.Payload ∷ []
frame_keys frames.Pad = keys.Session ∷ keys.Stream ∷ keys.Term ∷ keys.Offset ∷ keys.Flags ∷ keys.Length ∷ []
frame_keys frames.Heartbeat = keys.Session ∷ keys.Stream ∷ keys.Term ∷ keys.Offset ∷ keys.Flags ∷ []
frame_keys frames.Nak = keys.Session ∷ keys.Stream ∷ keys.Term ∷ keys.Offset ∷ keys.Length ∷ []
frame_keys frames.StatusMessage = keys.Session ∷ keys.Stream ∷ keys.Term ∷ keys.Offset ∷ keys.Window ∷ keys.Receiver ∷ []
frame_keys frames.Setup = keys.Session ∷ keys.Stream ∷ keys.Term ∷ keys.Offset ∷ keys.InitialTerm ∷ keys.TermLength ∷ keys.Mtu ∷ []

abbrev pub keys_of : Name → List Key
keys_of (names.Command name) = command_keys name
keys_of (names.Frame name) = frame_keys name
