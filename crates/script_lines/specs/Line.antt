-- What a line of a script says.
use Rattle.std.specs.Prelude.{ℕ, ◌==◌, nat_eq, Bool, false, ◌||◌, List, [], ◌∷◌, Option, Some, None, drop, length, slice_index, codes, if◌then◌else◌}
use Rattle.std.specs.Char.{is_ascii}
use Rattle.std.specs.List.{list_all, starts_with}
use Rattle.std.specs.Option.{option_map}
use Rattle.std.specs.Str.{bytes_eq}
use Rattle.driver_core.specs.declared.state.event.Event.TheVariants.{Attach, Command, Tick}
use Rattle.driver_steps.specs.declared.step.Step.{Step}
use Rattle.driver_steps.specs.declared.step.Step.TheVariants.{Conductor, Packet, Offer, Poll, Send, Image, List as Lists, Value}
use Rattle.driver_world.specs.declared.actor.Actor.{Actor}
use Rattle.driver_world.specs.declared.actor.Actor.TheVariants as actors
use Rattle.driver_world.specs.declared.reading.Reading.{Reading}
use Rattle.channel_uri.specs.Address.{address_of}
use Rattle.script_lines.specs.declared.line.Line.{Line}
use Rattle.script_lines.specs.declared.line.Line.TheVariants.{Skipped, Principal, Peer, Set, Policy, Does, Audit, Bad}
use Rattle.script_lines.specs.Hex.{◌>>=◌, hex_of}
use Rattle.script_lines.specs.Number.{number_of, small_number_of}
use Rattle.script_lines.specs.Pieces.{pieces}

-- one word, two, and so on
abbrev pub one : List (List ℕ) → Option (List ℕ)
one (first ∷ []) = Some first
one _ = None

abbrev pub two : List (List ℕ) → Option (List ℕ × List ℕ)
two (first ∷ second ∷ []) = Some (first, second)
two _ = None

abbrev pub three : List (List ℕ) → Option (List ℕ × List ℕ × List ℕ)
three (first ∷ second ∷ third ∷ []) = Some (first, second, third)
three _ = None

-- `@K`: the number of a registry
unfoldable pub view_of : List ℕ → Option ℕ
view_of word = if starts_with nat_eq word (codes "@") then number_of (drop 1 word) else None

-- that word alone, or none
abbrev pub view_in : List (List ℕ) → Option (Option ℕ)
view_in [] = Some None
view_in (word ∷ []) = option_map Some (view_of word)
view_in _ = None

-- two words, and so on, with the registry that is named after them
abbrev pub two_at : List (List ℕ) → Option (List ℕ × List ℕ × Option ℕ)
two_at (first ∷ second ∷ rest) = option_map (λ view. (first, second, view)) (view_in rest)
two_at _ = None

abbrev pub three_at : List (List ℕ) → Option (List ℕ × List ℕ × List ℕ × Option ℕ)
three_at (first ∷ second ∷ third ∷ rest) = option_map (λ view. (first, second, third, view)) (view_in rest)
three_at _ = None

abbrev pub four_at : List (List ℕ) → Option (List ℕ × List ℕ × List ℕ × List ℕ × Option ℕ)
four_at (first ∷ second ∷ third ∷ fourth ∷ rest) = option_map (λ view. (first, second, third, fourth, view)) (view_in rest)
four_at _ = None

abbrev pub five_at : List (List ℕ) → Option (List ℕ × List ℕ × List ℕ × List ℕ × List ℕ × Option ℕ)
five_at (first ∷ second ∷ third ∷ fourth ∷ fifth ∷ rest) =
    option_map (λ view. (first, second, third, fourth, fifth, view)) (view_in rest)
five_at _ = None

-- a step by the newest registry, and one by that which it names
abbrev pub newest : Step → Reading
newest step = record { view = None; step = step }

abbrev pub by_view : Option ℕ → Step → Reading
by_view view step = record { view = view; step = step }

-- a name is a word
abbrev pub name_of : List ℕ → Option (List ℕ)
name_of word = if length word == 0 then None else Some word

-- `principal NAME NUMBER`
unfoldable pub principal_of : List (List ℕ) → Option Line
principal_of fields =
    two fields >>= λ words.
    name_of words.0 >>= λ name.
    small_number_of words.1 >>= λ number.
    Some (Principal name number)

-- `peer ADDR NUMBER`
unfoldable pub peer_of : List (List ℕ) → Option Line
peer_of fields =
    two fields >>= λ words.
    address_of words.0 >>= λ address.
    small_number_of words.1 >>= λ principal.
    Some (Peer (record { address = address; principal = principal }))

-- `set KEY VALUE`
abbrev pub set_of : List (List ℕ) → Option Line
set_of fields = option_map (λ words. Set words.0 words.1) (two fields)

-- `policy`
abbrev pub policy_of : List (List ℕ) → Option Line
policy_of [] = Some Policy
policy_of (field ∷ fields) = None

-- `attach NOW P`
unfoldable pub attach_of : List (List ℕ) → Option Reading
attach_of fields =
    two fields >>= λ words.
    number_of words.0 >>= λ now.
    small_number_of words.1 >>= λ principal.
    Some (newest (Conductor (Attach now principal)))

-- `cmd NOW C HEX`
unfoldable pub command_of : List (List ℕ) → Option Reading
command_of fields =
    three fields >>= λ words.
    number_of words.0 >>= λ now.
    number_of words.1 >>= λ client.
    hex_of words.2 >>= λ bytes.
    Some (newest (Conductor (Command now client bytes)))

-- `offer NOW C REG HEX [@K]`
unfoldable pub offer_of : List (List ℕ) → Option Reading
offer_of fields =
    four_at fields >>= λ words.
    number_of words.0 >>= λ now.
    number_of words.1 >>= λ client.
    number_of words.2 >>= λ registration.
    hex_of words.3 >>= λ message.
    Some (by_view words.4 (Offer now client registration message))

-- `packet NOW LOCAL FROM HEX [@K]`
unfoldable pub packet_of : List (List ℕ) → Option Reading
packet_of fields =
    four_at fields >>= λ words.
    number_of words.0 >>= λ now.
    address_of words.1 >>= λ local.
    address_of words.2 >>= λ from.
    hex_of words.3 >>= λ bytes.
    Some (by_view words.4 (Packet now local from bytes))

-- `poll NOW C SUB SOURCE LIMIT [@K]`
unfoldable pub poll_of : List (List ℕ) → Option Reading
poll_of fields =
    five_at fields >>= λ words.
    number_of words.0 >>= λ now.
    number_of words.1 >>= λ client.
    number_of words.2 >>= λ subscription.
    number_of words.3 >>= λ source.
    small_number_of words.4 >>= λ limit.
    Some (by_view words.5 (Poll now client subscription source limit))

-- `send NOW SOURCE [@K]`
unfoldable pub send_of : List (List ℕ) → Option Reading
send_of fields =
    two_at fields >>= λ words.
    number_of words.0 >>= λ now.
    number_of words.1 >>= λ source.
    Some (by_view words.2 (Send now source))

-- `image NOW SOURCE [@K]`
unfoldable pub image_of : List (List ℕ) → Option Reading
image_of fields =
    two_at fields >>= λ words.
    number_of words.0 >>= λ now.
    number_of words.1 >>= λ source.
    Some (by_view words.2 (Image now source))

-- `tick NOW`
unfoldable pub tick_of : List (List ℕ) → Option Reading
tick_of fields = one fields >>= λ word. number_of word >>= λ now. Some (newest (Conductor (Tick now)))

-- `list NOW C [@K]`
unfoldable pub list_of : List (List ℕ) → Option Reading
list_of fields =
    two_at fields >>= λ words.
    number_of words.0 >>= λ now.
    number_of words.1 >>= λ client.
    Some (by_view words.2 (Lists now client))

-- `value NOW C REG [@K]`
unfoldable pub value_of : List (List ℕ) → Option Reading
value_of fields =
    three_at fields >>= λ words.
    number_of words.0 >>= λ now.
    number_of words.1 >>= λ client.
    number_of words.2 >>= λ number.
    Some (by_view words.3 (Value now client number))

-- a client by its id, and any other actor by its word
unfoldable pub actor_of : List ℕ → Option Actor
actor_of word =
    if bytes_eq word (codes "conductor") then Some actors.Conductor
    else if bytes_eq word (codes "sender") then Some actors.Sender
    else if bytes_eq word (codes "receiver") then Some actors.Receiver
    else option_map actors.Client (number_of word)

-- `audit A`
abbrev pub audit_of : List (List ℕ) → Option Line
audit_of fields = one fields >>= λ word. option_map Audit (actor_of word)

-- the first word says how the others are read: those of a step that keeps no bytes
unfoldable pub plain_step_by : List ℕ → List (List ℕ) → Option Reading
plain_step_by word fields =
    if bytes_eq word (codes "attach") then attach_of fields
    else if bytes_eq word (codes "tick") then tick_of fields
    else if bytes_eq word (codes "poll") then poll_of fields
    else if bytes_eq word (codes "send") then send_of fields
    else if bytes_eq word (codes "image") then image_of fields
    else if bytes_eq word (codes "list") then list_of fields
    else if bytes_eq word (codes "value") then value_of fields
    else None

-- those of any step
unfoldable pub step_by : List ℕ → List (List ℕ) → Option Reading
step_by word fields =
    if bytes_eq word (codes "cmd") then command_of fields
    else if bytes_eq word (codes "offer") then offer_of fields
    else if bytes_eq word (codes "packet") then packet_of fields
    else plain_step_by word fields

-- and those of any line
unfoldable pub said_by : List ℕ → List (List ℕ) → Option Line
said_by word fields =
    if bytes_eq word (codes "principal") then principal_of fields
    else if bytes_eq word (codes "peer") then peer_of fields
    else if bytes_eq word (codes "set") then set_of fields
    else if bytes_eq word (codes "policy") then policy_of fields
    else if bytes_eq word (codes "audit") then audit_of fields
    else option_map Does (step_by word fields)

abbrev pub said_in : List (List ℕ) → Option Line
said_in [] = None
said_in (word ∷ fields) = said_by word fields

-- a line that says nothing of the kind is bad
abbrev pub or_bad : Option Line → Line
or_bad None = Bad
or_bad (Some line) = line

-- words or bytes are kept of a line that begins with one of these words; no other line takes memory
abbrev pub keeps_fields : List (List ℕ) → Bool
keeps_fields [] = false
keeps_fields (word ∷ fields) =
    bytes_eq word (codes "principal")
    || (bytes_eq word (codes "set")
    || (bytes_eq word (codes "cmd") || (bytes_eq word (codes "offer") || bytes_eq word (codes "packet"))))

-- whether all bytes are ASCII
abbrev pub is_plain : List ℕ → Bool
is_plain line = list_all is_ascii line

-- an empty line and a comment are skipped; words have one space between them
unfoldable pub line_of : List ℕ → Line
line_of line =
    if is_plain line then
    if length line == 0 then Skipped
    else if slice_index line 0 == 35 then Skipped
    else or_bad (said_in (pieces 32 line))
    else Bad
