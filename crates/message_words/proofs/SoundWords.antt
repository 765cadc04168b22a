-- Words denote only messages that can be written and are then read again.
use Rattle.std.proofs.Common.{◌≡◌, ℕ, ◌%◌, ◌==◌, ◌^◌, ◌<◌, ◌≤◌, ℤ, pos, Bool, true, false, cond, List, [], ◌∷◌, length, nat_lt, Option, Some, None, ok_or, Result, Ok, Err, refl, subst, arith}
use Rattle.std.specs.Char.{is_ascii}
use Rattle.std.specs.Int.{w32, w64}
use Rattle.std.specs.List.{list_all}
use Rattle.std.specs.Prelude.{FitsSigned, option_and_then}
use Rattle.std.proofs.lemmas.Bool.{eqb-true, ltb-false}
use Rattle.std.proofs.lemmas.Bool.Decides.{nat_tests}
use Rattle.command_codec.specs.declared.command.Body.{Body}
use Rattle.command_codec.specs.declared.command.Command.{Command}
use Rattle.command_codec.specs.AddCounter.{IsAddCounter, longest_key, longest_label}
use Rattle.command_codec.specs.AddPublication.{IsAddPublication}
use Rattle.command_codec.specs.AddSubscription.{IsAddSubscription}
use Rattle.command_codec.specs.Command.{AreFields, IsCommand}
use Rattle.command_codec.specs.Destination.{IsDestination}
use Rattle.command_codec.specs.Fields.{IsBytes, IsText, longest}
use Rattle.command_codec.specs.Removal.{IsRemoval}
use Rattle.command_codec.specs.SetCounter.{IsSetCounter}
use Rattle.command_codec.specs.TerminateDriver.{IsTerminateDriver, longest_token}
use Rattle.frame_codec.specs.Written.{IsNak, IsPlace, IsSetup, IsStatusMessage, IsWritten, padding, part}
use Rattle.frame_codec.specs.declared.flags.Flags.{Flags}
use Rattle.hex.specs.Hex.{decode_of}
use Rattle.hex.specs.declared.error.FromHexError.{FromHexError}
use Rattle.hex.proofs.HexLemmas.{decode_of-ok}
use Rattle.message_words.specs.Commands.{add_counter_in, add_publication_in, add_subscription_in, body_in, channel_at, command_in, destination_in, removal_in, set_counter_in, terminate_driver_in}
use Rattle.message_words.specs.Frames.{beat_in, covered, covered_at, covered_of, data_in, longest_payload, nak_in, pad_in, place_in, sending_in, setup_in, status_in, whole}
use Rattle.message_words.specs.Given.{given, given_or, needed, unknown_at, ◌>>=◌}
use Rattle.message_words.specs.Laws.{HasBytes, IsMessage, IsSending}
use Rattle.message_words.specs.Message.{message_as, message_named, message_of, message_with}
use Rattle.message_words.specs.Name.{keys_of, name_of}
use Rattle.message_words.specs.Values.{aligned, flags_at, flags_or, integer_or, natural_at, natural_of, natural_or, offset_of, offset_or, one_byte, ascii_within, bytes_at, bytes_in, bytes_or_none, hex_text_in, integer_at, integer_of, long_at, long_of, number_at, number_of, number_or, read_bytes, text_at, text_in, within}
use Rattle.message_words.specs.declared.fault.WordFault.{WordFault}
use Rattle.message_words.specs.declared.key.Key.{Key}
use Rattle.message_words.specs.declared.key.Key.TheVariants as keys
use Rattle.message_words.specs.declared.name.CommandName.{CommandName}
use Rattle.message_words.specs.declared.name.CommandName.TheVariants as commands
use Rattle.message_words.specs.declared.frames.Beat.{Beat}
use Rattle.message_words.specs.declared.frames.DataFrame.{DataFrame}
use Rattle.message_words.specs.declared.frames.Pad.{Pad}
use Rattle.message_words.specs.declared.message.Message.{Message}
use Rattle.message_words.specs.declared.name.FrameName.{FrameName}
use Rattle.message_words.specs.declared.name.FrameName.TheVariants as frames
use Rattle.message_words.specs.declared.name.Name.{Name}
use Rattle.message_words.specs.declared.name.Name.TheVariants as names
use Rattle.message_words.proofs.NumbersBack.{integer_fits, long_fits, natural_fits, number_fits, some_is}

-- ---- what holds of each answer

record Makes {A : Type 0} (P : A → Type 0) (read : Result A WordFault) : Type 0 where
  each : (x : A) → read ≡ Ok x → P x

abbrev done : {A : Type 0} → A → Result A WordFault
done x = Ok x

ok_is : {A : Type 0} (x y : A) → done x ≡ done y → x ≡ y
ok_is x y e = cc

made : {A : Type 0} (P : A → Type 0) (x : A) → P x → Makes P (Ok x)
made P x holds = record { each = λ y is. subst P (ok_is x y is) holds }

failed : {A : Type 0} (P : A → Type 0) (fault : WordFault) → Makes P (Err fault)
failed P fault = record { each = λ y is. absurd (cc is) }

next : {A B : Type 0} (P : A → Type 0) (Q : B → Type 0) (read : Result A WordFault) (f : A → Result B WordFault)
    → Makes P read → ((x : A) → P x → Makes Q (f x)) → Makes Q (read >>= f)
next P Q (Ok x) f first then = then x (first.each x refl)
next P Q (Err fault) f first then = failed Q fault

abbrev Any : {A : Type 0} → A → Type 0
Any x = Unit {0}

whatever : {A : Type 0} (read : Result A WordFault) → Makes Any read
whatever read = record { each = λ x is. tt }

-- ---- numbers

read_makes : {A : Type 0} (P : A → Type 0) (read : Option A) (fault : WordFault) → ((x : A) → read ≡ Some x → P x) → Makes P (ok_or read fault)
read_makes P None fault each = failed P fault
read_makes P (Some x) fault each = made P x (each x refl)

needed_makes : {A : Type 0} (P : A → Type 0) (key : Key) (read : List ℕ → Option A) → ((value : List ℕ) (x : A) → read value ≡ Some x → P x)
    → (value : Option (List ℕ)) → Makes P (needed key read value)
needed_makes P key read each None = failed P _
needed_makes P key read each (Some value) = read_makes P (read value) _ (each value)

or_makes : {A : Type 0} (P : A → Type 0) (key : Key) (read : List ℕ → Option A) (default : A) → P default
    → ((value : List ℕ) (x : A) → read value ≡ Some x → P x) → (value : Option (List ℕ)) → Makes P (given_or key read default value)
or_makes P key read default holds each None = made P default holds
or_makes P key read default holds each (Some value) = read_makes P (read value) _ (each value)

at_makes : {A : Type 0} (P : A → Type 0) (key : Key) (words : List (List ℕ)) (read : List ℕ → Option A)
    → ((value : List ℕ) (x : A) → read value ≡ Some x → P x) → Makes P (given key words >>= needed key read)
at_makes P key words read each = next Any P (given key words) (needed key read) (whatever _) (λ value any. needed_makes P key read each value)

default_makes : {A : Type 0} (P : A → Type 0) (key : Key) (words : List (List ℕ)) (read : List ℕ → Option A) (default : A) → P default
    → ((value : List ℕ) (x : A) → read value ≡ Some x → P x) → Makes P (given key words >>= given_or key read default)
default_makes P key words read default holds each =
    next Any P (given key words) (given_or key read default) (whatever _) (λ value any. or_makes P key read default holds each value)

abbrev Fits64 : ℕ → Type 0
Fits64 n = n < 2 ^ 64

abbrev Signed32 : ℤ → Type 0
Signed32 z = FitsSigned w32 z

number_makes : (key : Key) (words : List (List ℕ)) → Makes Fits64 (number_at key words)
number_makes key words = at_makes Fits64 key words number_of number_fits

number_or_makes : (key : Key) (words : List (List ℕ)) → Makes Fits64 (number_or key 0 words)
number_or_makes key words = default_makes Fits64 key words number_of 0 (omega arith) number_fits

integer_makes : (key : Key) (words : List (List ℕ)) → Makes Signed32 (integer_at key words)
integer_makes key words = at_makes Signed32 key words integer_of integer_fits

long_makes : (key : Key) (words : List (List ℕ)) → Makes (FitsSigned w64) (long_at key words)
long_makes key words = at_makes (FitsSigned w64) key words long_of long_fits

-- ---- byte strings and texts

abbrev BytesWithin : ℕ → List ℕ → Type 0
BytesWithin most bytes = (length bytes ≤ most) × IsBytes bytes

hex_makes : (key : Key) (value : List ℕ) (read : Result (List ℕ) FromHexError) → ((bytes : List ℕ) → read ≡ Ok bytes → IsBytes bytes) → Makes IsBytes (read_bytes key read)
hex_makes key value (Ok bytes) each = made IsBytes bytes (each bytes refl)
hex_makes key value (Err fault) each = failed IsBytes _

bytes_in_makes : (key : Key) (value : List ℕ) → Makes IsBytes (bytes_in key value)
bytes_in_makes key value = hex_makes key value (decode_of value) (λ bytes is. (decode_of-ok value bytes is).3)

within_by : (P : List ℕ → Type 0) (long : Bool) (fault : WordFault) (bytes : List ℕ) → (long ≡ false → P bytes) → Makes P (cond long (Err fault) (Ok bytes))
within_by P true fault bytes holds = failed P fault
within_by P false fault bytes holds = made P bytes (holds refl)

within_makes : (most : ℕ) (key : Key) (bytes : List ℕ) → IsBytes bytes → Makes (BytesWithin most) (within most key bytes)
within_makes most key bytes fits = within_by (BytesWithin most) (nat_lt most (length bytes)) _ bytes (λ short. (ltb-false most (length bytes) short, fits))

none_makes : (most : ℕ) (key : Key) (value : Option (List ℕ)) → Makes (BytesWithin most) (bytes_or_none most key value)
none_makes most key None = made (BytesWithin most) [] (omega arith, λ at. omega arith)
none_makes most key (Some value) = next IsBytes (BytesWithin most) (bytes_in key value) (within most key) (bytes_in_makes key value) (within_makes most key)

bytes_makes : (most : ℕ) (key : Key) (words : List (List ℕ)) → Makes (BytesWithin most) (bytes_at most key words)
bytes_makes most key words = next Any (BytesWithin most) (given key words) (bytes_or_none most key) (whatever _) (λ value any. none_makes most key value)

short_makes : (most : ℕ) (key : Key) (text : List ℕ) → list_all is_ascii text ≡ true → Makes (IsText most) (within most key text)
short_makes most key text ascii =
    within_by (IsText most) (nat_lt most (length text)) _ text (λ short. record { ascii = ascii; length_fits = ltb-false most (length text) short })

ascii_by : (P : List ℕ → Type 0) (ascii : Bool) (fault : WordFault) (read : Result (List ℕ) WordFault) → (ascii ≡ true → Makes P read) → Makes P (cond ascii read (Err fault))
ascii_by P true fault read holds = holds refl
ascii_by P false fault read holds = failed P fault

ascii_makes : (most : ℕ) (key : Key) (text : List ℕ) → Makes (IsText most) (ascii_within most key text)
ascii_makes most key text = ascii_by (IsText most) (list_all is_ascii text) _ (within most key text) (short_makes most key text)

hex_text_makes : (most : ℕ) (key : Key) (value : List ℕ) → Makes (IsText most) (hex_text_in most key value)
hex_text_makes most key value = next Any (IsText most) (bytes_in key value) (ascii_within most key) (whatever _) (λ bytes any. ascii_makes most key bytes)

text_in_makes : (most : ℕ) (key hex_key : Key) (text value : Option (List ℕ)) → Makes (IsText most) (text_in most key hex_key text value)
text_in_makes most key hex_key None None = failed (IsText most) _
text_in_makes most key hex_key (Some text) None = ascii_makes most key text
text_in_makes most key hex_key None (Some value) = hex_text_makes most hex_key value
text_in_makes most key hex_key (Some text) (Some value) = failed (IsText most) _

text_makes : (most : ℕ) (key hex_key : Key) (words : List (List ℕ)) → Makes (IsText most) (text_at most key hex_key words)
text_makes most key hex_key words =
    next Any (IsText most) (given key words) _ (whatever _) (λ text any.
    next Any (IsText most) (given hex_key words) _ (whatever _) (λ value any'. text_in_makes most key hex_key text value))

-- ---- commands

publication_makes : (words : List (List ℕ)) → Makes IsAddPublication (add_publication_in words)
publication_makes words =
    next Signed32 IsAddPublication (integer_at keys.Stream words) _ (integer_makes keys.Stream words) (λ stream stream_fits.
    next (IsText longest) IsAddPublication (channel_at words) _ (text_makes longest keys.Channel keys.ChannelHex words) (λ channel sound.
    made IsAddPublication _ (record { stream = stream_fits; channel = sound })))

removal_makes : (words : List (List ℕ)) → Makes IsRemoval (removal_in words)
removal_makes words =
    next Fits64 IsRemoval (number_at keys.Registration words) _ (number_makes keys.Registration words) (λ registration fits.
    made IsRemoval _ (record { registration = fits }))

subscription_makes : (words : List (List ℕ)) → Makes IsAddSubscription (add_subscription_in words)
subscription_makes words =
    next Fits64 IsAddSubscription (number_or keys.RegistrationCorrelation 0 words) _ (number_or_makes keys.RegistrationCorrelation words) (λ registration fits.
    next Signed32 IsAddSubscription (integer_at keys.Stream words) _ (integer_makes keys.Stream words) (λ stream stream_fits.
    next (IsText longest) IsAddSubscription (channel_at words) _ (text_makes longest keys.Channel keys.ChannelHex words) (λ channel sound.
    made IsAddSubscription _ (record { registration_correlation = fits; stream = stream_fits; channel = sound }))))

destination_makes : (words : List (List ℕ)) → Makes IsDestination (destination_in words)
destination_makes words =
    next Fits64 IsDestination (number_at keys.Registration words) _ (number_makes keys.Registration words) (λ registration fits.
    next (IsText longest) IsDestination (channel_at words) _ (text_makes longest keys.Channel keys.ChannelHex words) (λ channel sound.
    made IsDestination _ (record { registration = fits; channel = sound })))

counter_makes : (words : List (List ℕ)) → Makes (λ fields. IsAddCounter fields × IsBytes fields.key) (add_counter_in words)
counter_makes words =
    next Signed32 _ (integer_at keys.TypeId words) _ (integer_makes keys.TypeId words) (λ type_id type_fits.
    next (BytesWithin longest_key) _ (bytes_at longest_key keys.CounterKey words) _ (bytes_makes longest_key keys.CounterKey words) (λ key key_fits.
    next (IsText longest_label) _ (text_at longest_label keys.Label keys.LabelHex words) _ (text_makes longest_label keys.Label keys.LabelHex words) (λ label sound.
    made _ _ (record { type_id = type_fits; key = key_fits.0; label = sound }, key_fits.1))))

terminate_makes : (words : List (List ℕ)) → Makes (λ fields. IsTerminateDriver fields × IsBytes fields.token) (terminate_driver_in words)
terminate_makes words =
    next (BytesWithin longest_token) _ (bytes_at longest_token keys.Token words) _ (bytes_makes longest_token keys.Token words) (λ token fits.
    made _ _ (record { token = fits.0 }, fits.1))

value_makes : (words : List (List ℕ)) → Makes IsSetCounter (set_counter_in words)
value_makes words =
    next Fits64 IsSetCounter (number_at keys.Registration words) _ (number_makes keys.Registration words) (λ registration fits.
    next (FitsSigned w64) IsSetCounter (long_at keys.Value words) _ (long_makes keys.Value words) (λ value value_fits.
    made IsSetCounter _ (record { registration = fits; value = value_fits })))

abbrev IsBody : Body → Type 0
IsBody body = AreFields body × HasBytes body

body_makes : (name : CommandName) (words : List (List ℕ)) → Makes IsBody (body_in name words)
unfolding body_in
body_makes commands.AddPublication words = next IsAddPublication IsBody (add_publication_in words) _ (publication_makes words) (λ fields sound. made IsBody _ (sound, tt))
body_makes commands.RemovePublication words = next IsRemoval IsBody (removal_in words) _ (removal_makes words) (λ fields sound. made IsBody _ (sound, tt))
body_makes commands.AddExclusivePublication words = next IsAddPublication IsBody (add_publication_in words) _ (publication_makes words) (λ fields sound. made IsBody _ (sound, tt))
body_makes commands.AddSubscription words = next IsAddSubscription IsBody (add_subscription_in words) _ (subscription_makes words) (λ fields sound. made IsBody _ (sound, tt))
body_makes commands.RemoveSubscription words = next IsRemoval IsBody (removal_in words) _ (removal_makes words) (λ fields sound. made IsBody _ (sound, tt))
body_makes commands.ClientKeepalive words = made IsBody _ (tt, tt)
body_makes commands.AddDestination words = next IsDestination IsBody (destination_in words) _ (destination_makes words) (λ fields sound. made IsBody _ (sound, tt))
body_makes commands.RemoveDestination words = next IsDestination IsBody (destination_in words) _ (destination_makes words) (λ fields sound. made IsBody _ (sound, tt))
body_makes commands.AddCounter words = next _ IsBody (add_counter_in words) _ (counter_makes words) (λ fields sound. made IsBody _ sound)
body_makes commands.RemoveCounter words = next IsRemoval IsBody (removal_in words) _ (removal_makes words) (λ fields sound. made IsBody _ (sound, tt))
body_makes commands.ClientClose words = made IsBody _ (tt, tt)
body_makes commands.TerminateDriver words = next _ IsBody (terminate_driver_in words) _ (terminate_makes words) (λ fields sound. made IsBody _ sound)
body_makes commands.SetCounter words = next IsSetCounter IsBody (set_counter_in words) _ (value_makes words) (λ fields sound. made IsBody _ (sound, tt))

abbrev IsWhole : Command → Type 0
IsWhole command = IsCommand command × HasBytes command.body

command_makes : (name : CommandName) (words : List (List ℕ)) → Makes IsWhole (command_in name words)
unfolding command_in
command_makes name words =
    next Fits64 IsWhole (number_at keys.Client words) _ (number_makes keys.Client words) (λ client client_fits.
    next Fits64 IsWhole (number_at keys.Correlation words) _ (number_makes keys.Correlation words) (λ correlation correlation_fits.
    next IsBody IsWhole (body_in name words) _ (body_makes name words) (λ body sound.
    made IsWhole _ (record { client = client_fits; correlation = correlation_fits; body = sound.0 }, sound.1))))

-- ---- datagrams

abbrev IsTermOffset : ℕ → Type 0
IsTermOffset offset = (offset < 2 ^ 31) × (offset % 32 ≡ 0)

aligned_by : (aligned : Bool) (number offset : ℕ) → (number % 32 == 0) ≡ aligned → number < 2 ^ 31 → cond {A = Option ℕ} aligned (Some number) None ≡ Some offset → IsTermOffset offset
aligned_by true number offset is low found = subst IsTermOffset (some_is number offset _ refl found) (low, eqb-true (number % 32) 0 is)
aligned_by false number offset is low found = absurd (cc found)

offset_from : (read : Option ℕ) (offset : ℕ) → ((number : ℕ) → read ≡ Some number → number < 2 ^ 31) → option_and_then aligned read ≡ Some offset → IsTermOffset offset
offset_from None offset each found = absurd (cc found)
offset_from (Some number) offset each found = aligned_by (number % 32 == 0) number offset refl (each number refl) found

offset_fits : (value : List ℕ) (offset : ℕ) → offset_of value ≡ Some offset → IsTermOffset offset
offset_fits value offset found = offset_from (natural_of value) offset (natural_fits value) found

place_makes : (words : List (List ℕ)) → Makes IsPlace (place_in words)
place_makes words =
    next Signed32 IsPlace (integer_at keys.Session words) _ (integer_makes keys.Session words) (λ session session_fits.
    next Signed32 IsPlace (integer_at keys.Stream words) _ (integer_makes keys.Stream words) (λ stream stream_fits.
    next Signed32 IsPlace (integer_at keys.Term words) _ (integer_makes keys.Term words) (λ term term_fits.
    next IsTermOffset IsPlace (offset_or keys.Offset 0 words) _ (default_makes IsTermOffset keys.Offset words offset_of 0 (omega arith, omega arith) offset_fits) (λ offset fits.
    made IsPlace _ (record { session_id = session_fits; stream_id = stream_fits; term_id = term_fits; offset_fits = fits.0; offset_aligned = fits.1 })))))

abbrev AreFlags : Flags → Type 0
AreFlags flags = flags.bits < 256

byte_makes : (key : Key) (bytes : List ℕ) → IsBytes bytes → Makes AreFlags (one_byte key bytes)
byte_makes key [] fits = failed AreFlags _
byte_makes key (byte ∷ []) fits = made AreFlags _ (fits 0)
byte_makes key (byte ∷ other ∷ bytes) fits = failed AreFlags _

flags_or_makes : (key : Key) (value : Option (List ℕ)) → Makes AreFlags (flags_or key whole value)
flags_or_makes key None = made AreFlags whole (omega arith)
flags_or_makes key (Some value) = next IsBytes AreFlags (bytes_in key value) (one_byte key) (bytes_in_makes key value) (byte_makes key)

flags_makes : (words : List (List ℕ)) → Makes AreFlags (flags_at keys.Flags whole words)
flags_makes words = next Any AreFlags (given keys.Flags words) (flags_or keys.Flags whole) (whatever _) (λ value any. flags_or_makes keys.Flags value)

abbrev IsData : DataFrame → Type 0
IsData fields = (fields.flags.bits < 256) × IsWritten (part fields.flags fields.place fields.payload) × IsBytes fields.payload

data_makes : (words : List (List ℕ)) → Makes IsData (data_in words)
data_makes words =
    next IsPlace IsData (place_in words) _ (place_makes words) (λ place place_fits.
    next AreFlags IsData (flags_at keys.Flags whole words) _ (flags_makes words) (λ flags flags_fit.
    next (BytesWithin longest_payload) IsData (bytes_at longest_payload keys.Payload words) _ (bytes_makes longest_payload keys.Payload words) (λ payload fits.
    made IsData _ (flags_fit, (place_fits, omega (arith, fits.0)), fits.1))))

abbrev IsCovered : ℕ → Type 0
IsCovered size = (0 < size) × (size < 2 ^ 31) × (size % 32 ≡ 0)

covered_by : (empty aligned : Bool) (number size : ℕ) → (number == 0) ≡ empty → (number % 32 == 0) ≡ aligned → number < 2 ^ 31
    → cond {A = Option ℕ} empty None (cond aligned (Some number) None) ≡ Some size → IsCovered size
covered_by true aligned number size none is low found = absurd (cc found)
covered_by false true number size none is low found =
    subst IsCovered (some_is number size _ refl found) (grind (arith, nat_tests, none), low, eqb-true (number % 32) 0 is)
covered_by false false number size none is low found = absurd (cc found)

covered_from : (read : Option ℕ) (size : ℕ) → ((number : ℕ) → read ≡ Some number → number < 2 ^ 31) → option_and_then covered read ≡ Some size → IsCovered size
covered_from None size each found = absurd (cc found)
covered_from (Some number) size each found = covered_by (number == 0) (number % 32 == 0) number size refl refl (each number refl) found

covered_fits : (value : List ℕ) (size : ℕ) → covered_of value ≡ Some size → IsCovered size
covered_fits value size found = covered_from (natural_of value) size (natural_fits value) found

abbrev IsPad : Pad → Type 0
IsPad fields = (fields.flags.bits < 256) × IsWritten (padding fields.flags fields.place fields.size)

pad_makes : (words : List (List ℕ)) → Makes IsPad (pad_in words)
pad_makes words =
    next IsPlace IsPad (place_in words) _ (place_makes words) (λ place place_fits.
    next AreFlags IsPad (flags_at keys.Flags whole words) _ (flags_makes words) (λ flags flags_fit.
    next IsCovered IsPad (covered_at words) _ (at_makes IsCovered keys.Length words covered_of covered_fits) (λ size fits.
    made IsPad _ (flags_fit, (place_fits, fits.0, fits.1, fits.2)))))

abbrev IsBeat : Beat → Type 0
IsBeat fields = (fields.flags.bits < 256) × IsPlace fields.place

beat_makes : (words : List (List ℕ)) → Makes IsBeat (beat_in words)
beat_makes words =
    next IsPlace IsBeat (place_in words) _ (place_makes words) (λ place place_fits.
    next AreFlags IsBeat (flags_at keys.Flags whole words) _ (flags_makes words) (λ flags flags_fit.
    made IsBeat _ (flags_fit, place_fits)))

nak_makes : (words : List (List ℕ)) → Makes IsNak (nak_in words)
nak_makes words =
    next IsPlace IsNak (place_in words) _ (place_makes words) (λ place fits.
    next Signed32 IsNak (integer_at keys.Length words) _ (integer_makes keys.Length words) (λ size size_fits.
    made IsNak _ (record {
      no_flags = refl;
      session_id = fits.session_id;
      stream_id = fits.stream_id;
      term_id = fits.term_id;
      offset_fits = fits.offset_fits;
      offset_aligned = fits.offset_aligned;
      size = size_fits;
    })))

abbrev Natural : ℕ → Type 0
Natural number = number < 2 ^ 31

status_makes : (words : List (List ℕ)) → Makes IsStatusMessage (status_in words)
status_makes words =
    next Signed32 IsStatusMessage (integer_at keys.Session words) _ (integer_makes keys.Session words) (λ session session_fits.
    next Signed32 IsStatusMessage (integer_at keys.Stream words) _ (integer_makes keys.Stream words) (λ stream stream_fits.
    next Signed32 IsStatusMessage (integer_at keys.Term words) _ (integer_makes keys.Term words) (λ term term_fits.
    next Natural IsStatusMessage (natural_or keys.Offset 0 words) _ (default_makes Natural keys.Offset words natural_of 0 (omega arith) natural_fits) (λ offset offset_low.
    next Natural IsStatusMessage (natural_at keys.Window words) _ (at_makes Natural keys.Window words natural_of natural_fits) (λ window window_low.
    next Fits64 IsStatusMessage (number_or keys.Receiver 0 words) _ (number_or_makes keys.Receiver words) (λ receiver receiver_low.
    made IsStatusMessage _ (record {
      no_flags = refl;
      session_id = session_fits;
      stream_id = stream_fits;
      term_id = term_fits;
      offset_fits = offset_low;
      window_fits = window_low;
      receiver_fits = receiver_low;
    })))))))

integer_or_makes : (key : Key) (default : ℤ) (words : List (List ℕ)) → Signed32 default → Makes Signed32 (integer_or key default words)
integer_or_makes key default words fits = default_makes Signed32 key words integer_of default fits integer_fits

setup_makes : (words : List (List ℕ)) → Makes IsSetup (setup_in words)
setup_makes words =
    next IsPlace IsSetup (place_in words) _ (place_makes words) (λ place fits.
    next Signed32 IsSetup (integer_or keys.InitialTerm place.term_id words) _ (integer_or_makes keys.InitialTerm place.term_id words fits.term_id) (λ initial initial_fits.
    next Signed32 IsSetup (integer_or keys.TermLength (pos 65536) words) _ (integer_or_makes keys.TermLength (pos 65536) words (record { sfits = omega arith })) (λ term_length length_fits.
    next Signed32 IsSetup (integer_or keys.Mtu (pos 1408) words) _ (integer_or_makes keys.Mtu (pos 1408) words (record { sfits = omega arith })) (λ mtu mtu_fits.
    made IsSetup _ (record {
      no_flags = refl;
      offset_fits = fits.offset_fits;
      offset_aligned = fits.offset_aligned;
      session_id = fits.session_id;
      stream_id = fits.stream_id;
      initial_term_id = initial_fits;
      active_term_id = fits.term_id;
      term_length = length_fits;
      mtu = mtu_fits;
      no_ttl = refl;
    })))))

sending_makes : (name : FrameName) (words : List (List ℕ)) → Makes IsSending (sending_in name words)
unfolding sending_in
sending_makes frames.Data words = next IsData IsSending (data_in words) _ (data_makes words) (λ fields sound. made IsSending _ sound)
sending_makes frames.Pad words = next IsPad IsSending (pad_in words) _ (pad_makes words) (λ fields sound. made IsSending _ sound)
sending_makes frames.Heartbeat words = next IsBeat IsSending (beat_in words) _ (beat_makes words) (λ fields sound. made IsSending _ sound)
sending_makes frames.Nak words = next IsNak IsSending (nak_in words) _ (nak_makes words) (λ fields sound. made IsSending _ sound)
sending_makes frames.StatusMessage words = next IsStatusMessage IsSending (status_in words) _ (status_makes words) (λ fields sound. made IsSending _ sound)
sending_makes frames.Setup words = next IsSetup IsSending (setup_in words) _ (setup_makes words) (λ fields sound. made IsSending _ sound)

-- ---- messages

as_makes : (name : Name) (words : List (List ℕ)) → Makes IsMessage (message_as name words)
as_makes (names.Command name) words = next IsWhole IsMessage (command_in name words) _ (command_makes name words) (λ command sound. made IsMessage _ sound)
as_makes (names.Frame name) words = next IsSending IsMessage (sending_in name words) _ (sending_makes name words) (λ sending sound. made IsMessage _ sound)

with_makes : (name : Name) (words : List (List ℕ)) (unknown : Option ℕ) → Makes IsMessage (message_with name words unknown)
with_makes name words None = as_makes name words
with_makes name words (Some at) = failed IsMessage _

named_makes : (name : Option Name) (words : List (List ℕ)) → Makes IsMessage (message_named name words)
named_makes None words = failed IsMessage _
named_makes (Some name) words = with_makes name words (unknown_at (keys_of name) words)

message_makes : (words : List (List ℕ)) → Makes IsMessage (message_of words)
unfolding message_of
message_makes [] = failed IsMessage _
message_makes (name ∷ words) = named_makes (name_of name) words

pub message_sound : (words : List (List ℕ)) (message : Message) → message_of words ≡ Ok message → IsMessage message
message_sound words message is = (message_makes words).each message is
