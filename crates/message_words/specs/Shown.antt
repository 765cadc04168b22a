-- Commands in words: the words that denote them, and the line that a shell reads as those words. Own rules.
use Rattle.std.specs.Prelude.{ℕ, ◌==◌, Bool, true, false, List, [], ◌∷◌, ◌++◌, map, if◌then◌else◌}
use Rattle.std.specs.Fmt.{decimal, signed_decimal}
use Rattle.std.specs.List.{list_all}
use Rattle.std.specs.Int.{is_in_range}
use Rattle.command_codec.specs.declared.add_counter.AddCounter.{AddCounter}
use Rattle.command_codec.specs.declared.add_publication.AddPublication.{AddPublication}
use Rattle.command_codec.specs.declared.add_subscription.AddSubscription.{AddSubscription}
use Rattle.command_codec.specs.declared.command.Body.{Body}
use Rattle.command_codec.specs.declared.command.Body.TheVariants as bodies
use Rattle.command_codec.specs.declared.command.Command.{Command}
use Rattle.command_codec.specs.declared.destination.Destination.{Destination}
use Rattle.command_codec.specs.declared.removal.Removal.{Removal}
use Rattle.command_codec.specs.declared.set_counter.SetCounter.{SetCounter}
use Rattle.command_codec.specs.declared.terminate_driver.TerminateDriver.{TerminateDriver}
use Rattle.hex.specs.Hex.{encode_lower}
use Rattle.message_words.specs.Key.{key_text}
use Rattle.message_words.specs.Name.{command_text}
use Rattle.message_words.specs.declared.key.Key.{Key}
use Rattle.message_words.specs.declared.key.Key.TheVariants as keys
use Rattle.message_words.specs.declared.name.CommandName.{CommandName}
use Rattle.message_words.specs.declared.name.CommandName.TheVariants as commands

-- ---- texts

-- a byte that can stand between two `'`: printable ASCII, and no `'`
abbrev pub is_plain : ℕ → Bool
is_plain byte = if byte == 39 then false else is_in_range 32 126 byte

-- a byte that a shell takes as it is: `,` to `:` are two marks, `.`, `/`, the digits and `:`; a letter; `=` and `_`
abbrev pub is_bare : ℕ → Bool
is_bare byte =
    if is_in_range 44 58 byte then true
    else if is_in_range 65 90 byte then true
    else if is_in_range 97 122 byte then true
    else if byte == 61 then true
    else byte == 95

-- a plain text for a shell: as it is, or between two `'`
abbrev pub shell_text : List ℕ → List ℕ
shell_text text = if list_all is_bare text then text else 39 ∷ (text ++ (39 ∷ []))

-- ---- fields

-- a value that a shell takes as it is; a plain text
pub data Field : Type 0 where
  bare : Key → List ℕ → Field
  quoted : Key → List ℕ → Field

-- a text that is not plain is given in hexadecimal
abbrev pub text_field : Key → Key → List ℕ → Field
text_field key hex_key text = if list_all is_plain text then quoted key text else bare hex_key (encode_lower text)

-- the word of a field
abbrev pub field_word : Field → List ℕ
field_word (bare key value) = key_text key ++ (61 ∷ value)
field_word (quoted key text) = key_text key ++ (61 ∷ text)

-- what a shell reads as that word
abbrev pub field_text : Field → List ℕ
field_text (bare key value) = key_text key ++ (61 ∷ value)
field_text (quoted key text) = key_text key ++ (61 ∷ shell_text text)

-- fields, each after a space
abbrev pub fields_text : List Field → List ℕ
fields_text [] = []
fields_text (field ∷ []) = 32 ∷ field_text field
fields_text (field ∷ next ∷ fields) = 32 ∷ (field_text field ++ fields_text (next ∷ fields))

-- a name and its fields as words, and as the line that a shell reads as those words
abbrev pub words_of : List ℕ → List Field → List (List ℕ)
words_of name fields = name ∷ map field_word fields

abbrev pub line_of : List ℕ → List Field → List ℕ
line_of name fields = name ++ fields_text fields

-- ---- commands

abbrev pub channel_field : List ℕ → Field
channel_field channel = text_field keys.Channel keys.ChannelHex channel

abbrev pub publication_fields : AddPublication → List Field
publication_fields fields = bare keys.Stream (signed_decimal fields.stream) ∷ channel_field fields.channel ∷ []

abbrev pub removal_fields : Removal → List Field
removal_fields fields = bare keys.Registration (decimal fields.registration) ∷ []

abbrev pub subscription_fields : AddSubscription → List Field
subscription_fields fields =
    bare keys.RegistrationCorrelation (decimal fields.registration_correlation) ∷ bare keys.Stream (signed_decimal fields.stream)
    ∷ channel_field fields.channel ∷ []

abbrev pub destination_fields : Destination → List Field
destination_fields fields = bare keys.Registration (decimal fields.registration) ∷ channel_field fields.channel ∷ []

abbrev pub counter_fields : AddCounter → List Field
counter_fields fields =
    bare keys.TypeId (signed_decimal fields.type_id) ∷ bare keys.CounterKey (encode_lower fields.key)
    ∷ text_field keys.Label keys.LabelHex fields.label ∷ []

abbrev pub token_fields : TerminateDriver → List Field
token_fields fields = bare keys.Token (encode_lower fields.token) ∷ []

abbrev pub value_fields : SetCounter → List Field
value_fields fields = bare keys.Registration (decimal fields.registration) ∷ bare keys.Value (signed_decimal fields.value) ∷ []

abbrev pub body_fields : Body → List Field
body_fields (bodies.AddPublication fields) = publication_fields fields
body_fields (bodies.RemovePublication fields) = removal_fields fields
body_fields (bodies.AddExclusivePublication fields) = publication_fields fields
body_fields (bodies.AddSubscription fields) = subscription_fields fields
body_fields (bodies.RemoveSubscription fields) = removal_fields fields
body_fields bodies.ClientKeepalive = []
body_fields (bodies.AddDestination fields) = destination_fields fields
body_fields (bodies.RemoveDestination fields) = destination_fields fields
body_fields (bodies.AddCounter fields) = counter_fields fields
body_fields (bodies.RemoveCounter fields) = removal_fields fields
body_fields bodies.ClientClose = []
body_fields (bodies.TerminateDriver fields) = token_fields fields
body_fields (bodies.SetCounter fields) = value_fields fields

abbrev pub body_name : Body → CommandName
body_name (bodies.AddPublication fields) = commands.AddPublication
body_name (bodies.RemovePublication fields) = commands.RemovePublication
body_name (bodies.AddExclusivePublication fields) = commands.AddExclusivePublication
body_name (bodies.AddSubscription fields) = commands.AddSubscription
body_name (bodies.RemoveSubscription fields) = commands.RemoveSubscription
body_name bodies.ClientKeepalive = commands.ClientKeepalive
body_name (bodies.AddDestination fields) = commands.AddDestination
body_name (bodies.RemoveDestination fields) = commands.RemoveDestination
body_name (bodies.AddCounter fields) = commands.AddCounter
body_name (bodies.RemoveCounter fields) = commands.RemoveCounter
body_name bodies.ClientClose = commands.ClientClose
body_name (bodies.TerminateDriver fields) = commands.TerminateDriver
body_name (bodies.SetCounter fields) = commands.SetCounter

abbrev pub command_fields : Command → List Field
command_fields command = bare keys.Client (decimal command.client) ∷ bare keys.Correlation (decimal command.correlation) ∷ body_fields command.body

-- the words that denote a command
abbrev pub command_words : Command → List (List ℕ)
command_words command = words_of (command_text (body_name command.body)) (command_fields command)

-- the line that a shell reads as those words
unfoldable pub command_line : Command → List ℕ
command_line command = line_of (command_text (body_name command.body)) (command_fields command)
