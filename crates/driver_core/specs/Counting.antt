-- ADD_COUNTER, SET_COUNTER and REMOVE_COUNTER.
use Rattle.std.specs.Prelude.{ℕ, ◌+◌, Bool, not, ◌&&◌, nat_lt, [], ◌∷◌, ◌++◌, Result, Ok, Err, if◌then◌else◌}
use Rattle.driver_core.specs.Draft.{Draft}
use Rattle.driver_core.specs.declared.state.refusal.Refusal.TheVariants.{UnknownCounter, Denied, Full}
use Rattle.driver_core.specs.declared.state.replies.Reply.TheVariants.{OperationSuccess, CounterReady, UnavailableCounter}
use Rattle.driver_core.specs.Draft.{told, replied, refused}
use Rattle.driver_core.specs.Deciding.{decision_by}
use Rattle.driver_core.specs.declared.state.refused.Refused.{Refused}
use Rattle.driver_core.specs.Refusing.{on, denied}
use Rattle.driver_core.specs.State.{State}
use Rattle.channel_uri.specs.Channel.{counter_shape}
use Rattle.client_registry.specs.declared.client.Client.{Client}
use Rattle.command_codec.specs.declared.add_counter.AddCounter.{AddCounter}
use Rattle.command_codec.specs.declared.removal.Removal.{Removal}
use Rattle.command_codec.specs.declared.set_counter.SetCounter.{SetCounter}
use Rattle.counters.specs.Counters.{made, has_room, has, set, without}
use Rattle.policy_core.specs.declared.act.Act.TheVariants.{Counter as MakeCounter}
use Rattle.policy_core.specs.declared.decision.Decision.{Decision}

-- ---- a counter that comes

-- what the policy in force decides: a counter's stream is its type id
abbrev pub counter_decision : State → Client → AddCounter → Decision
counter_decision s client fields = decision_by s client MakeCounter counter_shape fields.type_id

-- the counter stands, under the next number, and is 0
unfoldable pub with_counter : State → ℕ → AddCounter → State
with_counter s client fields = record s {
  counters = s.counters ++ made (s.last_number + 1) client fields.type_id fields.key fields.label ∷ [];
  last_number = s.last_number + 1;
}

unfoldable pub counted : State → Client → ℕ → AddCounter → Draft
counted s client correlation fields =
    replied (with_counter s client.number fields) (counter_decision s client fields ∷ []) client.number
    (CounterReady correlation (s.last_number + 1))

-- there are at most 1,024 counters, and no number is used again
abbrev pub has_room_for_counter : State → Bool
has_room_for_counter s = has_room s.counters && nat_lt s.last_number 18446744073709551615

-- denied, full, or done
unfoldable pub add_counter : State → Client → ℕ → AddCounter → Draft
add_counter s client correlation fields =
    if not (counter_decision s client fields).verdict.allow
    then refused s (counter_decision s client fields ∷ []) client.number correlation
    (Denied (counter_decision s client fields).verdict)
    else if has_room_for_counter s
    then counted s client correlation fields
    else refused s (counter_decision s client fields ∷ []) client.number correlation Full

-- what is decided on it: why it is refused, or on which decision it is granted
unfoldable pub counting_of : State → Client → AddCounter → Result Decision Refused
counting_of s client fields =
    if not (counter_decision s client fields).verdict.allow
    then Err (denied (counter_decision s client fields))
    else if has_room_for_counter s
    then Ok (counter_decision s client fields)
    else Err (on (counter_decision s client fields) Full)

-- ---- a counter that is there

-- the client's counter of this number has this value; a counter of another client is as unknown as one of nobody
unfoldable pub valued : State → Client → ℕ → SetCounter → Draft
valued s client correlation fields =
    replied (record s { counters = set s.counters client.number fields.registration fields.value }) [] client.number
    (OperationSuccess correlation)

unfoldable pub set_counter : State → Client → ℕ → SetCounter → Draft
set_counter s client correlation fields =
    if has s.counters client.number fields.registration
    then valued s client correlation fields
    else refused s [] client.number correlation UnknownCounter

-- it goes, and its owner is notified after the command's own reply
unfoldable pub uncounted : State → Client → ℕ → ℕ → Draft
uncounted s client correlation number =
    told (record s { counters = without s.counters client.number number }) []
    (record { client = client.number; reply = OperationSuccess correlation } ∷ [])
    (record { client = client.number; reply = UnavailableCounter number } ∷ [])

unfoldable pub remove_counter : State → Client → ℕ → Removal → Draft
remove_counter s client correlation fields =
    if has s.counters client.number fields.registration
    then uncounted s client correlation fields.registration
    else refused s [] client.number correlation UnknownCounter
