-- The words of a command denote it.
use Rattle.std.proofs.Common.{◌≡◌, ℕ, zero, suc, ◌≤◌, Bool, true, false, cond, List, [], ◌∷◌, length, map, Some, None, Ok, refl, nat_lt, arith}
use Rattle.std.specs.Char.{is_ascii}
use Rattle.std.specs.Fmt.{decimal, signed_decimal}
use Rattle.std.specs.List.{list_all}
use Rattle.std.proofs.lemmas.Bool.{and_parts, ltb-true}
use Rattle.std.proofs.lemmas.Bool.Decides.{nat_tests}
use Rattle.command_codec.specs.declared.add_counter.AddCounter.{AddCounter}
use Rattle.command_codec.specs.declared.add_publication.AddPublication.{AddPublication}
use Rattle.command_codec.specs.declared.add_subscription.AddSubscription.{AddSubscription}
use Rattle.command_codec.specs.declared.command.Body.{Body}
use Rattle.command_codec.specs.declared.command.Body.TheVariants as bodies
use Rattle.command_codec.specs.declared.command.Command.{Command}
use Rattle.command_codec.specs.declared.destination.Destination.{Destination}
use Rattle.command_codec.specs.declared.removal.Removal.{Removal}
use Rattle.command_codec.specs.declared.set_counter.SetCounter.{SetCounter}
use Rattle.command_codec.specs.declared.terminate_driver.TerminateDriver.{TerminateDriver}
use Rattle.command_codec.specs.AddCounter.{longest_key, longest_label}
use Rattle.command_codec.specs.Command.{IsCommand}
use Rattle.command_codec.specs.TerminateDriver.{longest_token}
use Rattle.command_codec.specs.Fields.{IsBytes, IsText, longest}
use Rattle.hex.specs.Hex.{encode_lower}
use Rattle.hex.proofs.HexLemmas.{decode_of-encode_lower}
use Rattle.message_words.specs.Commands.{body_in, command_in}
use Rattle.message_words.specs.Given.{given, unknown_at}
use Rattle.message_words.specs.Laws.{HasBytes}
use Rattle.message_words.specs.Message.{message_of}
use Rattle.message_words.specs.Name.{command_keys, command_text, name_of}
use Rattle.message_words.specs.Shown.{Field, bare, quoted, body_fields, body_name, command_words, field_word, is_plain, text_field}
use Rattle.message_words.specs.Values.{ascii_within, hex_text_in, within}
use Rattle.message_words.specs.declared.key.Key.{Key}
use Rattle.message_words.specs.declared.key.Key.TheVariants as keys
use Rattle.message_words.specs.declared.message.Message.TheVariants as messages
use Rattle.message_words.specs.declared.name.CommandName.{CommandName}
use Rattle.message_words.specs.declared.name.CommandName.TheVariants as commands
use Rattle.message_words.specs.declared.name.Name.TheVariants as names
use Rattle.message_words.proofs.NumbersBack.{integer_back, long_back, number_back}

-- ---- byte strings and texts

pub bytes_within : (most : ℕ) (key : Key) (bytes : List ℕ) → length bytes ≤ most → within most key bytes ≡ Ok bytes
bytes_within most key bytes few =
    let fits : nat_lt most (length bytes) ≡ false = grind (arith, nat_tests, few) in
    rw fits refl

-- ASCII is of bytes
pub ascii_bytes : (text : List ℕ) → list_all is_ascii text ≡ true → IsBytes text
ascii_bytes [] all i = omega arith
ascii_bytes (x ∷ xs) all zero = omega (arith, ltb-true x 128 (and_parts (is_ascii x) (list_all is_ascii xs) all).0)
ascii_bytes (x ∷ xs) all (suc i) = ascii_bytes xs (and_parts (is_ascii x) (list_all is_ascii xs) all).1 i

text_within : (most : ℕ) (key : Key) (text : List ℕ) → IsText most text → ascii_within most key text ≡ Ok text
text_within most key text sound = rw (sound.ascii) (bytes_within most key text sound.length_fits)

hex_within : (most : ℕ) (key : Key) (text : List ℕ) → IsText most text → hex_text_in most key (encode_lower text) ≡ Ok text
hex_within most key text sound = rw (decode_of-encode_lower text (ascii_bytes text sound.ascii)) (text_within most key text sound)

-- a text stands as it is, or in hexadecimal
text_by : (b : Bool) (P : Field → Type 0) (plain other : Field) → P plain → P other → P (cond b plain other)
text_by true P plain other this that = this
text_by false P plain other this that = that

either_text : (P : Field → Type 0) (key hex_key : Key) (text : List ℕ) → P (quoted key text) → P (bare hex_key (encode_lower text)) → P (text_field key hex_key text)
either_text P key hex_key text plain other = text_by (list_all is_plain text) P (quoted key text) (bare hex_key (encode_lower text)) plain other

-- ---- commands

name_again : (name : CommandName) → name_of (command_text name) ≡ Some (names.Command name)
unfolding name_of
name_again commands.AddPublication = refl
name_again commands.RemovePublication = refl
name_again commands.AddExclusivePublication = refl
name_again commands.AddSubscription = refl
name_again commands.RemoveSubscription = refl
name_again commands.ClientKeepalive = refl
name_again commands.AddDestination = refl
name_again commands.RemoveDestination = refl
name_again commands.AddCounter = refl
name_again commands.RemoveCounter = refl
name_again commands.ClientClose = refl
name_again commands.TerminateDriver = refl
name_again commands.SetCounter = refl

-- the words of a command's fields
abbrev fields_words : ℕ → ℕ → List Field → List (List ℕ)
fields_words client correlation fields = map field_word (bare keys.Client (decimal client) ∷ bare keys.Correlation (decimal correlation) ∷ fields)

abbrev command_with : ℕ → ℕ → Body → Command
command_with client correlation body = record { client = client; correlation = correlation; body = body }

abbrev Denotes : CommandName → ℕ → ℕ → Body → List Field → Type 0
Denotes name client correlation body fields =
    message_of (command_text name ∷ fields_words client correlation fields) ≡ Ok (messages.Command (command_with client correlation body))

-- words of which each gives a value to a key of the name, and that give the body
denotes : (name : CommandName) (client correlation : ℕ) (body : Body) (fields : List Field) → IsCommand (command_with client correlation body)
    → unknown_at (command_keys name) (fields_words client correlation fields) ≡ None
    → given keys.Client (fields_words client correlation fields) ≡ Ok (Some (decimal client))
    → given keys.Correlation (fields_words client correlation fields) ≡ Ok (Some (decimal correlation))
    → body_in name (fields_words client correlation fields) ≡ Ok body
    → Denotes name client correlation body fields
unfolding message_of command_in
denotes name client correlation body fields sound known client_is correlation_is body_is =
    rw (name_again name, known, client_is, number_back client sound.client, correlation_is, number_back correlation sound.correlation, body_is) refl

publication_denoted : (client correlation : ℕ) (fields : AddPublication) → IsCommand (command_with client correlation (bodies.AddPublication fields))
    → Denotes commands.AddPublication client correlation (bodies.AddPublication fields) (body_fields (bodies.AddPublication fields))
unfolding unknown_at given body_in
publication_denoted client correlation fields sound =
    either_text (λ field. Denotes commands.AddPublication client correlation (bodies.AddPublication fields) (bare keys.Stream (signed_decimal fields.stream) ∷ field ∷ []))
    keys.Channel keys.ChannelHex fields.channel
    (denotes commands.AddPublication client correlation (bodies.AddPublication fields) (bare keys.Stream (signed_decimal fields.stream) ∷ quoted keys.Channel fields.channel ∷ [])
    sound refl refl refl (rw (integer_back fields.stream sound.body.stream, text_within longest keys.Channel fields.channel sound.body.channel) refl))
    (denotes commands.AddPublication client correlation (bodies.AddPublication fields) (bare keys.Stream (signed_decimal fields.stream) ∷ bare keys.ChannelHex (encode_lower fields.channel) ∷ [])
    sound refl refl refl (rw (integer_back fields.stream sound.body.stream, hex_within longest keys.ChannelHex fields.channel sound.body.channel) refl))

removed_publication_denoted : (client correlation : ℕ) (fields : Removal) → IsCommand (command_with client correlation (bodies.RemovePublication fields))
    → Denotes commands.RemovePublication client correlation (bodies.RemovePublication fields) (body_fields (bodies.RemovePublication fields))
unfolding unknown_at given body_in
removed_publication_denoted client correlation fields sound =
    denotes commands.RemovePublication client correlation (bodies.RemovePublication fields) (body_fields (bodies.RemovePublication fields)) sound refl refl refl (rw (number_back fields.registration sound.body.registration) refl)

exclusive_publication_denoted : (client correlation : ℕ) (fields : AddPublication) → IsCommand (command_with client correlation (bodies.AddExclusivePublication fields))
    → Denotes commands.AddExclusivePublication client correlation (bodies.AddExclusivePublication fields) (body_fields (bodies.AddExclusivePublication fields))
unfolding unknown_at given body_in
exclusive_publication_denoted client correlation fields sound =
    either_text (λ field. Denotes commands.AddExclusivePublication client correlation (bodies.AddExclusivePublication fields) (bare keys.Stream (signed_decimal fields.stream) ∷ field ∷ []))
    keys.Channel keys.ChannelHex fields.channel
    (denotes commands.AddExclusivePublication client correlation (bodies.AddExclusivePublication fields) (bare keys.Stream (signed_decimal fields.stream) ∷ quoted keys.Channel fields.channel ∷ [])
    sound refl refl refl (rw (integer_back fields.stream sound.body.stream, text_within longest keys.Channel fields.channel sound.body.channel) refl))
    (denotes commands.AddExclusivePublication client correlation (bodies.AddExclusivePublication fields) (bare keys.Stream (signed_decimal fields.stream) ∷ bare keys.ChannelHex (encode_lower fields.channel) ∷ [])
    sound refl refl refl (rw (integer_back fields.stream sound.body.stream, hex_within longest keys.ChannelHex fields.channel sound.body.channel) refl))

subscription_denoted : (client correlation : ℕ) (fields : AddSubscription) → IsCommand (command_with client correlation (bodies.AddSubscription fields))
    → Denotes commands.AddSubscription client correlation (bodies.AddSubscription fields) (body_fields (bodies.AddSubscription fields))
unfolding unknown_at given body_in
subscription_denoted client correlation fields sound =
    either_text (λ field. Denotes commands.AddSubscription client correlation (bodies.AddSubscription fields) (bare keys.RegistrationCorrelation (decimal fields.registration_correlation) ∷ bare keys.Stream (signed_decimal fields.stream) ∷ field ∷ []))
    keys.Channel keys.ChannelHex fields.channel
    (denotes commands.AddSubscription client correlation (bodies.AddSubscription fields) (bare keys.RegistrationCorrelation (decimal fields.registration_correlation) ∷ bare keys.Stream (signed_decimal fields.stream) ∷ quoted keys.Channel fields.channel ∷ [])
    sound refl refl refl (rw (number_back fields.registration_correlation sound.body.registration_correlation, integer_back fields.stream sound.body.stream, text_within longest keys.Channel fields.channel sound.body.channel) refl))
    (denotes commands.AddSubscription client correlation (bodies.AddSubscription fields) (bare keys.RegistrationCorrelation (decimal fields.registration_correlation) ∷ bare keys.Stream (signed_decimal fields.stream) ∷ bare keys.ChannelHex (encode_lower fields.channel) ∷ [])
    sound refl refl refl (rw (number_back fields.registration_correlation sound.body.registration_correlation, integer_back fields.stream sound.body.stream, hex_within longest keys.ChannelHex fields.channel sound.body.channel) refl))

removed_subscription_denoted : (client correlation : ℕ) (fields : Removal) → IsCommand (command_with client correlation (bodies.RemoveSubscription fields))
    → Denotes commands.RemoveSubscription client correlation (bodies.RemoveSubscription fields) (body_fields (bodies.RemoveSubscription fields))
unfolding unknown_at given body_in
removed_subscription_denoted client correlation fields sound =
    denotes commands.RemoveSubscription client correlation (bodies.RemoveSubscription fields) (body_fields (bodies.RemoveSubscription fields)) sound refl refl refl (rw (number_back fields.registration sound.body.registration) refl)

keepalive_denoted : (client correlation : ℕ) → IsCommand (command_with client correlation bodies.ClientKeepalive)
    → Denotes commands.ClientKeepalive client correlation bodies.ClientKeepalive (body_fields bodies.ClientKeepalive)
unfolding unknown_at given body_in
keepalive_denoted client correlation sound =
    denotes commands.ClientKeepalive client correlation bodies.ClientKeepalive (body_fields bodies.ClientKeepalive) sound refl refl refl refl

destination_denoted : (client correlation : ℕ) (fields : Destination) → IsCommand (command_with client correlation (bodies.AddDestination fields))
    → Denotes commands.AddDestination client correlation (bodies.AddDestination fields) (body_fields (bodies.AddDestination fields))
unfolding unknown_at given body_in
destination_denoted client correlation fields sound =
    either_text (λ field. Denotes commands.AddDestination client correlation (bodies.AddDestination fields) (bare keys.Registration (decimal fields.registration) ∷ field ∷ []))
    keys.Channel keys.ChannelHex fields.channel
    (denotes commands.AddDestination client correlation (bodies.AddDestination fields) (bare keys.Registration (decimal fields.registration) ∷ quoted keys.Channel fields.channel ∷ [])
    sound refl refl refl (rw (number_back fields.registration sound.body.registration, text_within longest keys.Channel fields.channel sound.body.channel) refl))
    (denotes commands.AddDestination client correlation (bodies.AddDestination fields) (bare keys.Registration (decimal fields.registration) ∷ bare keys.ChannelHex (encode_lower fields.channel) ∷ [])
    sound refl refl refl (rw (number_back fields.registration sound.body.registration, hex_within longest keys.ChannelHex fields.channel sound.body.channel) refl))

removed_destination_denoted : (client correlation : ℕ) (fields : Destination) → IsCommand (command_with client correlation (bodies.RemoveDestination fields))
    → Denotes commands.RemoveDestination client correlation (bodies.RemoveDestination fields) (body_fields (bodies.RemoveDestination fields))
unfolding unknown_at given body_in
removed_destination_denoted client correlation fields sound =
    either_text (λ field. Denotes commands.RemoveDestination client correlation (bodies.RemoveDestination fields) (bare keys.Registration (decimal fields.registration) ∷ field ∷ []))
    keys.Channel keys.ChannelHex fields.channel
    (denotes commands.RemoveDestination client correlation (bodies.RemoveDestination fields) (bare keys.Registration (decimal fields.registration) ∷ quoted keys.Channel fields.channel ∷ [])
    sound refl refl refl (rw (number_back fields.registration sound.body.registration, text_within longest keys.Channel fields.channel sound.body.channel) refl))
    (denotes commands.RemoveDestination client correlation (bodies.RemoveDestination fields) (bare keys.Registration (decimal fields.registration) ∷ bare keys.ChannelHex (encode_lower fields.channel) ∷ [])
    sound refl refl refl (rw (number_back fields.registration sound.body.registration, hex_within longest keys.ChannelHex fields.channel sound.body.channel) refl))

counter_denoted : (client correlation : ℕ) (fields : AddCounter) → IsCommand (command_with client correlation (bodies.AddCounter fields)) → IsBytes fields.key
    → Denotes commands.AddCounter client correlation (bodies.AddCounter fields) (body_fields (bodies.AddCounter fields))
unfolding unknown_at given body_in
counter_denoted client correlation fields sound fits =
    either_text (λ field. Denotes commands.AddCounter client correlation (bodies.AddCounter fields) (bare keys.TypeId (signed_decimal fields.type_id) ∷ bare keys.CounterKey (encode_lower fields.key) ∷ field ∷ []))
    keys.Label keys.LabelHex fields.label
    (denotes commands.AddCounter client correlation (bodies.AddCounter fields) (bare keys.TypeId (signed_decimal fields.type_id) ∷ bare keys.CounterKey (encode_lower fields.key) ∷ quoted keys.Label fields.label ∷ [])
    sound refl refl refl (rw (integer_back fields.type_id sound.body.type_id, decode_of-encode_lower fields.key fits, bytes_within longest_key keys.CounterKey fields.key sound.body.key, text_within longest_label keys.Label fields.label sound.body.label) refl))
    (denotes commands.AddCounter client correlation (bodies.AddCounter fields) (bare keys.TypeId (signed_decimal fields.type_id) ∷ bare keys.CounterKey (encode_lower fields.key) ∷ bare keys.LabelHex (encode_lower fields.label) ∷ [])
    sound refl refl refl (rw (integer_back fields.type_id sound.body.type_id, decode_of-encode_lower fields.key fits, bytes_within longest_key keys.CounterKey fields.key sound.body.key, hex_within longest_label keys.LabelHex fields.label sound.body.label) refl))

removed_counter_denoted : (client correlation : ℕ) (fields : Removal) → IsCommand (command_with client correlation (bodies.RemoveCounter fields))
    → Denotes commands.RemoveCounter client correlation (bodies.RemoveCounter fields) (body_fields (bodies.RemoveCounter fields))
unfolding unknown_at given body_in
removed_counter_denoted client correlation fields sound =
    denotes commands.RemoveCounter client correlation (bodies.RemoveCounter fields) (body_fields (bodies.RemoveCounter fields)) sound refl refl refl (rw (number_back fields.registration sound.body.registration) refl)

close_denoted : (client correlation : ℕ) → IsCommand (command_with client correlation bodies.ClientClose)
    → Denotes commands.ClientClose client correlation bodies.ClientClose (body_fields bodies.ClientClose)
unfolding unknown_at given body_in
close_denoted client correlation sound =
    denotes commands.ClientClose client correlation bodies.ClientClose (body_fields bodies.ClientClose) sound refl refl refl refl

terminate_denoted : (client correlation : ℕ) (fields : TerminateDriver) → IsCommand (command_with client correlation (bodies.TerminateDriver fields)) → IsBytes fields.token
    → Denotes commands.TerminateDriver client correlation (bodies.TerminateDriver fields) (body_fields (bodies.TerminateDriver fields))
unfolding unknown_at given body_in
terminate_denoted client correlation fields sound fits =
    denotes commands.TerminateDriver client correlation (bodies.TerminateDriver fields) (body_fields (bodies.TerminateDriver fields)) sound refl refl refl (rw (decode_of-encode_lower fields.token fits, bytes_within longest_token keys.Token fields.token sound.body.token) refl)

value_denoted : (client correlation : ℕ) (fields : SetCounter) → IsCommand (command_with client correlation (bodies.SetCounter fields))
    → Denotes commands.SetCounter client correlation (bodies.SetCounter fields) (body_fields (bodies.SetCounter fields))
unfolding unknown_at given body_in
value_denoted client correlation fields sound =
    denotes commands.SetCounter client correlation (bodies.SetCounter fields) (body_fields (bodies.SetCounter fields)) sound refl refl refl (rw (number_back fields.registration sound.body.registration, long_back fields.value sound.body.value) refl)

body_denoted : (client correlation : ℕ) (body : Body) → IsCommand (command_with client correlation body) → HasBytes body
    → Denotes (body_name body) client correlation body (body_fields body)
body_denoted client correlation (bodies.AddPublication fields) sound fits = publication_denoted client correlation fields sound
body_denoted client correlation (bodies.RemovePublication fields) sound fits = removed_publication_denoted client correlation fields sound
body_denoted client correlation (bodies.AddExclusivePublication fields) sound fits = exclusive_publication_denoted client correlation fields sound
body_denoted client correlation (bodies.AddSubscription fields) sound fits = subscription_denoted client correlation fields sound
body_denoted client correlation (bodies.RemoveSubscription fields) sound fits = removed_subscription_denoted client correlation fields sound
body_denoted client correlation bodies.ClientKeepalive sound fits = keepalive_denoted client correlation sound
body_denoted client correlation (bodies.AddDestination fields) sound fits = destination_denoted client correlation fields sound
body_denoted client correlation (bodies.RemoveDestination fields) sound fits = removed_destination_denoted client correlation fields sound
body_denoted client correlation (bodies.AddCounter fields) sound fits = counter_denoted client correlation fields sound fits
body_denoted client correlation (bodies.RemoveCounter fields) sound fits = removed_counter_denoted client correlation fields sound
body_denoted client correlation bodies.ClientClose sound fits = close_denoted client correlation sound
body_denoted client correlation (bodies.TerminateDriver fields) sound fits = terminate_denoted client correlation fields sound fits
body_denoted client correlation (bodies.SetCounter fields) sound fits = value_denoted client correlation fields sound

pub words_back : (command : Command) → IsCommand command → HasBytes command.body → message_of (command_words command) ≡ Ok (messages.Command command)
words_back command sound fits = body_denoted command.client command.correlation command.body sound fits
