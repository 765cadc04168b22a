-- The lines that a script's answers are written in.
use Rattle.std.specs.Prelude.{ℕ, ◌+◌, ◌/◌, ◌%◌, ℤ, List, [], ◌∷◌, ◌++◌, nat_lt, codes, if◌then◌else◌}
use Rattle.std.specs.Fmt.{decimal, signed_decimal}
use Rattle.std.specs.List.{flat_map}
use Rattle.driver_script.specs.declared.answers.AnswerLine.{AnswerLine}
use Rattle.driver_script.specs.declared.answers.AnswerLine.TheVariants.{Attached, Full, Stopped, PolicyInForce, PolicyFull, Setup, Unimaged, Dropped, Beat, Status, Elicit, Sent, Withheld, PolicyRefused, Reply, Offer, Poll, Fragment, Gone, List as Lists, Counter, Value, Denied, UnknownCounter, WrongClient, Audit, Decided, NoMemory, BadLine}
use Rattle.channel_uri.specs.Address.{address_text}
use Rattle.channel_uri.specs.declared.address.Address.{Address}
use Rattle.driver_core.specs.declared.state.setup_fault.SetupFault.{SetupFault}
use Rattle.driver_core.specs.declared.state.setup_fault.SetupFault.TheVariants as fault
use Rattle.driver_core.specs.declared.asked.image_request.Astray.{Astray}
use Rattle.driver_core.specs.declared.asked.image_request.Astray.TheVariants as astray
use Rattle.log_steps.specs.declared.cause.Cause.{Cause}
use Rattle.log_steps.specs.declared.cause.Cause.TheVariants as cause
use Rattle.frame_codec.specs.Fault.{fault_text as unread_text}
use Rattle.image_log.specs.declared.insert.Insert.{Insert}
use Rattle.image_log.specs.declared.insert.Insert.TheVariants as insert
use Rattle.log_steps.specs.declared.answer.Offered.{Offered}
use Rattle.log_steps.specs.declared.answer.Offered.TheVariants as offered
use Rattle.frame_codec.specs.declared.flags.Flags.{Flags}
use Rattle.policy_core.specs.declared.decision.Decision.{Decision}
use Rattle.policy_core.specs.declared.verdict.Verdict.{Verdict}
use Rattle.policy_core.specs.Act.{name_of}
use Rattle.policy_core.specs.Verdict.{verdict_text}
use Rattle.policy_text.specs.declared.fault.PolicyFault.{PolicyFault}
use Rattle.policy_text.specs.Fault.{fault_text}

-- `0` to `9`, `a` to `f`
abbrev pub digit_text : ℕ → ℕ
digit_text digit = if nat_lt digit 10 then 48 + digit else 87 + digit

-- two digits for a byte
abbrev pub byte_text : ℕ → List ℕ
byte_text byte = digit_text (byte / 16) ∷ digit_text (byte % 16) ∷ []

-- the digits of all bytes, and `-` where there are none
abbrev pub hex_text : List ℕ → List ℕ
hex_text [] = codes "-"
hex_text (byte ∷ bytes) = flat_map byte_text (byte ∷ bytes)

-- a reply to a client
abbrev pub reply_text : ℕ → List ℕ → List ℕ
reply_text client bytes = codes "reply " ++ (decimal client ++ (codes " " ++ (hex_text bytes ++ codes "\n")))

-- a word and a number, and what stands between them
abbrev pub numbered_line : List ℕ → ℕ → List ℕ
numbered_line word number = word ++ (decimal number ++ codes "\n")

-- a client that is attached
abbrev pub attached_line : ℕ → List ℕ
attached_line client = numbered_line (codes "attached ") client

-- a policy that is in force
abbrev pub policy_line : ℕ → List ℕ
policy_line epoch = numbered_line (codes "policy ") epoch

-- a policy whose text is refused
abbrev pub refusal_line : PolicyFault → List ℕ
refusal_line fault = codes "policy refused: " ++ (fault_text fault ++ codes "\n")

-- what became of an offer: the position after it, or a code (the codes are those of Aeron's clients)
abbrev pub offered_text : Offered → List ℕ
offered_text (offered.At position) = decimal position
offered_text offered.NotConnected = codes "-1"
offered_text offered.BackPressured = codes "-2"
offered_text offered.AdminAction = codes "-3"
offered_text offered.Closed = codes "-4"
offered_text offered.MaxPositionExceeded = codes "-5"
offered_text offered.TooLong = codes "too long"

abbrev pub offer_line : Offered → List ℕ
offer_line answer = codes "offer " ++ (offered_text answer ++ codes "\n")

-- so many fragments
abbrev pub poll_line : ℕ → List ℕ
poll_line count = numbered_line (codes "poll ") count

-- a fragment that is polled: the position after its frame, the byte of its flags, and its payload
abbrev pub fragment_line : ℕ → Flags → List ℕ → List ℕ
fragment_line position flags payload =
    codes "fragment "
    ++ (decimal position
    ++ (codes " " ++ (hex_text (flags.bits ∷ []) ++ (codes " " ++ (hex_text payload ++ codes "\n")))))

-- so many counters
abbrev pub list_line : ℕ → List ℕ
list_line count = numbered_line (codes "list ") count

-- a counter that is listed: its number, its type, its value and its label
abbrev pub counter_line : ℕ → ℤ → ℤ → List ℕ → List ℕ
counter_line number type_id value label =
    codes "counter "
    ++ (decimal number
    ++ (codes " "
    ++ (signed_decimal type_id ++ (codes " " ++ (signed_decimal value ++ (codes " " ++ (hex_text label ++ codes "\n")))))))

-- the value of a counter
abbrev pub value_line : ℤ → List ℕ
value_line value = codes "value " ++ (signed_decimal value ++ codes "\n")

-- what a policy decided
abbrev pub denial_line : Verdict → List ℕ
denial_line verdict = verdict_text verdict ++ codes "\n"

-- why a SETUP makes no image
abbrev pub cause_text : SetupFault → List ℕ
cause_text fault.BadSetup = codes "bad-setup"
cause_text fault.Exists = codes "exists"
cause_text fault.NoSubscription = codes "no-subscription"
cause_text (fault.Denied verdict) = verdict_text verdict
cause_text fault.Full = codes "full"
cause_text fault.NoRoom = codes "no-room"

-- why a datagram is for no log
abbrev pub astray_word : Astray → List ℕ
astray_word astray.NoStream = codes "no-stream"
astray_word astray.Stranger = codes "stranger"

-- why a datagram is dropped
abbrev pub drop_text : Cause → List ℕ
drop_text (cause.Unread fault) = unread_text fault
drop_text (cause.Astray why) = astray_word why
drop_text (cause.Denied verdict) = verdict_text verdict
drop_text cause.Full = codes "full"
drop_text cause.Empty = codes "empty"
drop_text cause.OutOfWindow = codes "out-of-window"
drop_text cause.Lingering = codes "lingering"
drop_text cause.Busy = codes "busy"

-- a SETUP that is dropped
abbrev pub unimaged_line : SetupFault → List ℕ
unimaged_line why = codes "dropped " ++ (cause_text why ++ codes "\n")

-- a datagram that is dropped
abbrev pub dropped_line : Cause → List ℕ
dropped_line why = codes "dropped " ++ (drop_text why ++ codes "\n")

-- what became of a frame
abbrev pub insert_word : Insert → List ℕ
insert_word insert.Taken = codes "taken"
insert_word insert.Repeat = codes "repeat"
insert_word insert.Overlap = codes "overlap"
insert_word insert.Below = codes "below"
insert_word insert.Beyond = codes "beyond"

-- a word after a space
abbrev pub word_behind : Insert → List ℕ
word_behind word = codes " " ++ insert_word word

-- what became of the frames of a datagram
abbrev pub data_line : List Insert → List ℕ
data_line words = codes "data" ++ (flat_map word_behind words ++ codes "\n")

-- an image that comes, by its source number
abbrev pub setup_line : ℕ → List ℕ
setup_line source = numbered_line (codes "setup ") source

-- up to which position a publication may be sent
abbrev pub status_line : ℕ → List ℕ
status_line position = numbered_line (codes "status ") position

-- a datagram that is sent, and where to
abbrev pub sent_line : Address → List ℕ → List ℕ
sent_line to bytes = codes "sent " ++ (address_text to ++ (codes " " ++ (hex_text bytes ++ codes "\n")))

-- an address to which a datagram is not sent, and the verdict that says so
abbrev pub withheld_line : Address → Verdict → List ℕ
withheld_line to verdict = codes "withheld " ++ (address_text to ++ (codes " " ++ (verdict_text verdict ++ codes "\n")))

-- so many decisions of an actor, and how many came before them
abbrev pub audit_line : ℕ → ℕ → List ℕ
audit_line count dropped =
    codes "audit " ++ (decimal count ++ (codes " dropped " ++ (decimal dropped ++ codes "\n")))

-- one of them: for whom, what was to be done, on which stream, and the verdict
abbrev pub decision_line : Decision → List ℕ
decision_line decision =
    codes "decision "
    ++ (decimal decision.principal
    ++ (codes " "
    ++ (name_of decision.act
    ++ (codes " "
    ++ (signed_decimal decision.stream ++ (codes " " ++ (verdict_text decision.verdict ++ codes "\n")))))))

-- a line that is none of a script
abbrev pub bad_line : ℕ → List ℕ
bad_line number = codes "line " ++ (decimal number ++ codes ": bad line\n")

-- each line with its line feed
unfoldable pub line_text : AnswerLine → List ℕ
line_text (Attached client) = attached_line client
line_text Full = codes "full\n"
line_text Stopped = codes "stopped\n"
line_text (PolicyInForce epoch) = policy_line epoch
line_text PolicyFull = codes "policy refused: full\n"
line_text (Setup source) = setup_line source
line_text (Unimaged why) = unimaged_line why
line_text (Dropped why) = dropped_line why
line_text Beat = codes "beat\n"
line_text (Status position) = status_line position
line_text Elicit = codes "elicit\n"
line_text (Sent to bytes) = sent_line to bytes.now
line_text (Withheld to verdict) = withheld_line to verdict
line_text (PolicyRefused fault) = refusal_line fault
line_text (Reply client bytes) = reply_text client bytes.now
line_text (Offer answer) = offer_line answer
line_text (Poll count) = poll_line count
line_text (Fragment position flags payload) = fragment_line position flags payload.now
line_text Gone = codes "gone\n"
line_text (Lists count) = list_line count
line_text (Counter number type_id value label) = counter_line number type_id value label.now
line_text (Value value) = value_line value
line_text (Denied verdict) = denial_line verdict
line_text UnknownCounter = codes "unknown counter\n"
line_text WrongClient = codes "wrong client\n"
line_text (Audit count dropped) = audit_line count dropped
line_text (Decided decision) = decision_line decision
line_text NoMemory = codes "no memory\n"
line_text (BadLine number) = bad_line number
