-- What the run of a script writes: a function of the script's bytes, and of which steps were refused memory.
use Rattle.std.specs.Prelude.{◌≡◌, ℕ, Bool, false, true, List, [], ◌∷◌, ◌++◌, is_some, Option, Some, None, Result, Ok, Err, length, nat_lt, codes, if◌then◌else◌}
use Rattle.std.specs.Fmt.{decimal}
use Rattle.std.specs.List.{flat_map, list_any}
use Rattle.log_steps.specs.declared.answer.Answer.{Answer}
use Rattle.log_steps.specs.declared.answer.Answer.TheVariants.{NoMemory, Attached, Full, Stopped, PolicyInForce, PolicyFull, Imaged, Unimaged, Received, Heard, Limited, Elicited, Idle, Sent, Resent, Reported, Dropped, Replies, Offered, Polled, Gone, Counters, Value, Denied, UnknownCounter, WrongClient, BadStep}
use Rattle.driver_core.specs.declared.state.event.Event.TheVariants.{Reload}
use Rattle.driver_core.specs.declared.asked.listing.ListedCounter.{ListedCounter}
use Rattle.driver_core.specs.declared.state.replies.Message.{Message}
use Rattle.driver_core.specs.declared.state.peer.Peer.{Peer}
use Rattle.driver_core.specs.declared.asked.send_request.Outlet.{Outlet}
use Rattle.driver_core.specs.declared.state.settings.Settings.{Settings}
use Rattle.log_pairs.specs.Polling.{Fetched}
use Rattle.channel_uri.specs.Address.{is_same}
use Rattle.channel_uri.specs.declared.address.Address.{Address}
use Rattle.driver_steps.specs.declared.step.Step.TheVariants.{Conductor}
use Rattle.driver_core.specs.Replies.{layout_of}
use Rattle.audit_ring.specs.Audit.{Kept}
use Rattle.driver_world.specs.declared.actor.Actor.{Actor}
use Rattle.driver_world.specs.declared.reading.Reading.{Reading}
use Rattle.driver_world.specs.Audits.{kept_all, kept_for}
use Rattle.driver_world.specs.Ends.{RunEnd, IsAnswer, after, opening_end}
use Rattle.command_codec.specs.Reply.{reply_bytes}
use Rattle.policy_core.specs.RuleList.{Rules}
use Rattle.policy_text.specs.declared.fault.PolicyFault.{PolicyFault}
use Rattle.policy_text.specs.Document.{policy_of}
use Rattle.policy_text.specs.Names.{Known, number_of}
use Rattle.driver_script.specs.declared.script.Ended.{Ended}
use Rattle.driver_script.specs.declared.script.Ended.TheVariants.{Done, BadLine}
use Rattle.script_lines.specs.declared.statements.Said.{Said}
use Rattle.driver_script.specs.declared.script.Preface.{Preface}
use Rattle.script_lines.specs.declared.statements.Said.TheVariants.{Principal, Peer as PeerGiven, Set, Policy, Does, Audit, Bad}
use Rattle.script_lines.specs.declared.statements.Statement.{Statement}
use Rattle.driver_script.specs.Answers.{attached_line, audit_line, counter_line, data_line, decision_line, denial_line, dropped_line, fragment_line, list_line, offer_line, policy_line, poll_line, refusal_line, reply_text, sent_line, setup_line, status_line, unimaged_line, value_line, withheld_line}
use Rattle.script_lines.specs.Settings.{Chosen, no_choices, choose}

-- ---- the head of a script: its principals, its peers, its settings and its policy

-- no name and no peer is given, and nothing is chosen
abbrev pub no_preface : Preface
no_preface = record { names = []; peers = []; choices = no_choices }

-- the script ends before a policy; or it is bad at this line; or these names are given and the world opens with these
-- settings, this policy and these peers, and these statements are left
pub data Opening : Type 0 where
  Ends : Opening
  Refuses : ℕ → Opening
  Opens : Known → Settings → Rules → List Peer → List Statement → Opening

-- a text that is no policy is bad, at its first line
abbrev pub opened_by : Preface → ℕ → List Statement → Result Rules PolicyFault → Opening
opened_by given line rest (Err fault) = Refuses line
opened_by given line rest (Ok policy) = Opens given.names given.choices.settings policy given.peers rest

-- a name is given once, and `nobody` is given from the start
abbrev pub named : Preface → ℕ → List ℕ → ℕ → (Preface → Opening) → Opening
named given line name number later =
    if is_some (number_of name given.names) then Refuses line
    else later (record given { names = given.names ++ (name, number) ∷ [] })

-- whether a further peer may be given: its address is not, and fewer are than a driver takes
abbrev pub is_peer_at : Address → Peer → Bool
is_peer_at address peer = is_same peer.address address

abbrev pub may_peer : List Peer → Address → Bool
may_peer peers address = if list_any (is_peer_at address) peers then false else nat_lt (length peers) 256

abbrev pub peered : Preface → ℕ → Peer → (Preface → Opening) → Opening
peered given line peer later =
    if may_peer given.peers peer.address then later (record given { peers = given.peers ++ peer ∷ [] }) else Refuses line

-- a setting is chosen, where it is one and was not chosen before
abbrev pub settled : Preface → ℕ → Option Chosen → (Preface → Opening) → Opening
settled given line None later = Refuses line
settled given line (Some choices) later = later (record given { choices = choices })

abbrev pub opening_by : Preface → ℕ → Said → List Statement → (Preface → Opening) → Opening
opening_by given line (Principal name number) rest later = named given line name number later
opening_by given line (PeerGiven peer) rest later = peered given line peer later
opening_by given line (Set key value) rest later = settled given line (choose given.choices key value) later
opening_by given line (Policy text) rest later = opened_by given line rest (policy_of given.names text)
opening_by given line (Does reading) rest later = Refuses line
opening_by given line (Audit actor) rest later = Refuses line
opening_by given line Bad rest later = Refuses line

abbrev pub opening_of : Preface → List Statement → Opening
opening_of given [] = Ends
opening_of given (statement ∷ rest) =
    opening_by given statement.line statement.said rest (λ next. opening_of next rest)

-- ---- the steps of a script, with their answers

-- what a statement does after the head: a step; nothing, where the decisions of an actor are shown, or the text of a policy
-- is refused; or it is bad there
pub data Deed : Type 0 where
  Takes : Reading → Deed
  Shows : Actor → Deed
  Faults : PolicyFault → Deed
  Stops : Deed

-- a policy is put in force by an event, whose moment is that of the registry: no moment is before 0
abbrev pub put_in_force : Rules → Reading
put_in_force policy = record { view = None; step = Conductor (Reload 0 policy) }

abbrev pub deed_by : Result Rules PolicyFault → Deed
deed_by (Err fault) = Faults fault
deed_by (Ok policy) = Takes (put_in_force policy)

abbrev pub deed_of : Known → Said → Deed
deed_of names (Does reading) = Takes reading
deed_of names (Audit actor) = Shows actor
deed_of names (Policy text) = deed_by (policy_of names text)
deed_of names (Principal name number) = Stops
deed_of names (PeerGiven peer) = Stops
deed_of names (Set key value) = Stops
deed_of names Bad = Stops

-- what a statement is answered: the answer of a step, what is kept of an actor's decisions, or why the text of a policy is
-- refused
pub data Told : Type 0 where
  Answered : Answer → Told
  Shown : Kept → Told
  Refused : PolicyFault → Told

-- a step that names a registry at which its actor may not look is answered nothing: its line is bad
abbrev pub is_bad_step : Answer → Bool
is_bad_step BadStep = true
is_bad_step answer = false

abbrev pub IsToldBy : RunEnd → Reading → Answer → Type 0
IsToldBy e reading BadStep = ⊥
IsToldBy e reading answer = IsAnswer e reading answer

abbrev pub IsTold : RunEnd → Reading → Told → Type 0
IsTold e reading (Answered answer) = IsToldBy e reading answer
IsTold e reading (Shown kept) = ⊥
IsTold e reading (Refused fault) = ⊥

abbrev pub after_told : RunEnd → Reading → Told → RunEnd
after_told e reading (Answered answer) = after e reading answer
after_told e reading (Shown kept) = e
after_told e reading (Refused fault) = e

-- of all that was decided for the actor up to there, the end is shown
abbrev pub IsShown : RunEnd → Actor → Told → Type 0
IsShown e actor (Answered answer) = ⊥
IsShown e actor (Shown kept) = kept ≡ kept_for actor (kept_all e.decided)
IsShown e actor (Refused fault) = ⊥

-- a policy that is refused is no event; there may also have been no memory for its text
abbrev pub IsRefused : PolicyFault → Told → Type 0
IsRefused fault (Refused named) = named ≡ fault
IsRefused fault (Shown kept) = ⊥
IsRefused fault (Answered NoMemory) = Unit {0}
IsRefused fault (Answered answer) = ⊥

abbrev pub IsDone : RunEnd → ℕ → Deed → (RunEnd → List Told → Type 0) → List Told → Ended → Type 0
IsDone e line (Takes reading) later [] ended = IsAnswer e reading BadStep × (ended ≡ BadLine line)
IsDone e line (Takes reading) later (told ∷ others) ended = IsTold e reading told × later (after_told e reading told) others
IsDone e line (Shows actor) later [] ended = ⊥
IsDone e line (Shows actor) later (told ∷ others) ended = IsShown e actor told × later e others
IsDone e line (Faults fault) later [] ended = ⊥
IsDone e line (Faults fault) later (told ∷ others) ended = IsRefused fault told × later e others
IsDone e line Stops later all ended = (all ≡ []) × (ended ≡ BadLine line)

-- each statement is answered where the ones before it left off, up to the end or to a bad line
abbrev pub IsRunning : Known → RunEnd → List Statement → List Told → Ended → Type 0
IsRunning names e [] all ended = (all ≡ []) × (ended ≡ Done)
IsRunning names e (statement ∷ rest) all ended =
    IsDone e statement.line (deed_of names statement.said) (λ next more. IsRunning names next rest more ended) all ended

-- ---- the text

abbrev pub message_text : Message → List ℕ
message_text message = reply_text message.client (reply_bytes (layout_of message.reply))

abbrev pub counter_text : ListedCounter → List ℕ
counter_text counter = counter_line counter.number counter.type_id counter.value counter.label

abbrev pub fragment_text : Fetched → List ℕ
fragment_text fragment = fragment_line fragment.position fragment.flags fragment.payload

-- a line for each datagram that is sent there
abbrev pub sent_text : Address → List (List ℕ) → List ℕ
sent_text to datagrams = flat_map (sent_line to) datagrams

-- a line for each destination: the datagram goes there, or it may not
abbrev pub outlet_text : List ℕ → Outlet → List ℕ
outlet_text bytes outlet =
    if outlet.decision.verdict.allow then sent_line outlet.to bytes else withheld_line outlet.to outlet.decision.verdict

abbrev pub outlets_text : List ℕ → List Outlet → List ℕ
outlets_text bytes outlets = flat_map (outlet_text bytes) outlets

-- an answer has its line, and a line for each reply, fragment, counter, datagram or destination
unfoldable pub answer_text : Answer → List ℕ
answer_text NoMemory = codes "no memory\n"
answer_text (Attached client messages) = attached_line client ++ flat_map message_text messages
answer_text (Full messages) = codes "full\n" ++ flat_map message_text messages
answer_text (Stopped messages) = codes "stopped\n" ++ flat_map message_text messages
answer_text (PolicyInForce epoch messages) = policy_line epoch ++ flat_map message_text messages
answer_text (PolicyFull messages) = codes "policy refused: full\n" ++ flat_map message_text messages
answer_text (Imaged source messages) = setup_line source ++ flat_map message_text messages
answer_text (Unimaged why messages) = unimaged_line why ++ flat_map message_text messages
answer_text (Received words) = data_line words
answer_text Heard = codes "beat\n"
answer_text (Limited position) = status_line position
answer_text Elicited = codes "elicit\n"
answer_text Idle = []
answer_text (Sent bytes outlets) = outlets_text bytes outlets
answer_text (Resent to datagrams) = sent_text to datagrams
answer_text (Reported to datagrams) = sent_text to datagrams
answer_text (Dropped why) = dropped_line why
answer_text (Replies messages) = flat_map message_text messages
answer_text (Offered offered) = offer_line offered
answer_text (Polled fragments) = poll_line (length fragments) ++ flat_map fragment_text fragments
answer_text Gone = codes "gone\n"
answer_text (Counters counters) = list_line (length counters) ++ flat_map counter_text counters
answer_text (Value value) = value_line value
answer_text (Denied verdict) = denial_line verdict
answer_text UnknownCounter = codes "unknown counter\n"
answer_text WrongClient = codes "wrong client\n"
answer_text BadStep = []

-- a line for each decision, after one that counts them
abbrev pub audit_text : Kept → List ℕ
audit_text kept = audit_line (length kept.items) kept.dropped ++ flat_map decision_line kept.items

abbrev pub told_text : Told → List ℕ
told_text (Answered answer) = answer_text answer
told_text (Shown kept) = audit_text kept
told_text (Refused fault) = refusal_line fault

abbrev pub ended_text : Ended → List ℕ
ended_text Done = []
ended_text (BadLine line) = codes "line " ++ (decimal line ++ codes ": bad line\n")

abbrev pub script_text : List Told → Ended → List ℕ
script_text all ended = flat_map told_text all ++ ended_text ended

-- the text that these statements make from that end of a run on, with these names
pub record Writes (names : Known) (e : RunEnd) (statements : List Statement) (ended : Ended) (text : List ℕ) : Type 0 where
  pub told : List Told
  pub run : IsRunning names e statements told ended
  pub text_is : text ≡ script_text told ended

-- the text of a script, by what its head opens
abbrev pub IsOpeningText : Opening → Ended → List ℕ → Type 0
IsOpeningText Ends ended text = (ended ≡ Done) × (text ≡ [])
IsOpeningText (Refuses line) ended text = (ended ≡ BadLine line) × (text ≡ ended_text (BadLine line))
IsOpeningText (Opens names settings policy peers rest) ended text = Writes names (opening_end settings policy peers) rest ended text

-- the text that the run of these statements writes, and how it ends
abbrev pub IsScriptText : List Statement → Ended → List ℕ → Type 0
IsScriptText statements ended text = IsOpeningText (opening_of no_preface statements) ended text
