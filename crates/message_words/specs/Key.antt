-- The keys of the fields of commands, replies and datagrams, as words have them. Own rules.
use Rattle.std.specs.Prelude.{ℕ, List, codes}
use Rattle.message_words.specs.declared.key.Key.{Key}
use Rattle.message_words.specs.declared.key.Key.TheVariants as keys

abbrev pub key_text : Key → List ℕ
key_text keys.Client = codes "client"
key_text keys.Correlation = codes "correlation"
key_text keys.Registration = codes "registration"
key_text keys.RegistrationCorrelation = codes "registration-correlation"
key_text keys.Stream = codes "stream"
key_text keys.Channel = codes "channel"
key_text keys.ChannelHex = codes "channel-hex"
key_text keys.TypeId = codes "type-id"
key_text keys.CounterKey = codes "key"
key_text keys.Label = codes "label"
key_text keys.LabelHex = codes "label-hex"
key_text keys.Token = codes "token"
key_text keys.Value = codes "value"
key_text keys.Session = codes "session"
key_text keys.Term = codes "term"
key_text keys.Offset = codes "offset"
key_text keys.InitialTerm = codes "initial-term"
key_text keys.TermLength = codes "term-length"
key_text keys.Mtu = codes "mtu"
key_text keys.Length = codes "length"
key_text keys.Window = codes "window"
key_text keys.Receiver = codes "receiver"
key_text keys.Flags = codes "flags"
key_text keys.Payload = codes "payload"
key_text keys.Text = codes "text"
key_text keys.TextHex = codes "text-hex"
key_text keys.Origin = codes "origin"
key_text keys.OriginHex = codes "origin-hex"
