-- The counters of clients, in the order of their registration numbers: a plain list. Own rules.
use Rattle.std.specs.Prelude.{ℕ, ℤ, ◌==◌, pos, Bool, not, ◌&&◌, nat_lt, length, map, filter, find, List, Option, is_some, if◌then◌else◌}
use Rattle.counters.specs.declared.counter.Counter.{Counter}
use Rattle.channel_uri.specs.Channel.{counter_shape}
use Rattle.policy_core.specs.declared.act.Act.TheVariants.{List as SeeCounter}
use Rattle.policy_core.specs.Question.{Question}
use Rattle.policy_core.specs.RuleList.{Rules}
use Rattle.policy_core.specs.Rules.{verdict_of}

-- there are at most 1,024 counters of clients
abbrev pub has_room : List Counter → Bool
has_room counters = nat_lt (length counters) 1024

-- a counter that comes is 0
abbrev pub made : ℕ → ℕ → ℤ → List ℕ → List ℕ → Counter
made number client type_id key label =
    record { number = number; client = client; type_id = type_id; key = key; label = label; value = pos 0 }

-- the counter of this number, if it is there
abbrev pub counter_at : List Counter → ℕ → Option Counter
counter_at counters number = find (λ counter. counter.number == number) counters

-- it is this client's counter of this number
abbrev pub is_own : ℕ → ℕ → Counter → Bool
is_own client number counter = (counter.client == client) && (counter.number == number)

-- the client has a counter of this number
abbrev pub has : List Counter → ℕ → ℕ → Bool
has counters client number = is_some (find (is_own client number) counters)

-- the client's counter of this number has this value
abbrev pub set_one : ℕ → ℕ → ℤ → Counter → Counter
set_one client number value counter = if is_own client number counter then record counter { value = value } else counter

unfoldable pub set : List Counter → ℕ → ℕ → ℤ → List Counter
set counters client number value = map (set_one client number value) counters

-- all but the client's counter of this number
abbrev pub is_another : ℕ → ℕ → Counter → Bool
is_another client number counter = not (is_own client number counter)

unfoldable pub without : List Counter → ℕ → ℕ → List Counter
without counters client number = filter (is_another client number) counters

-- all but the counters of this client
abbrev pub is_of_another : ℕ → Counter → Bool
is_of_another client counter = not (counter.client == client)

unfoldable pub without_those_of : List Counter → ℕ → List Counter
without_those_of counters client = filter (is_of_another client) counters

-- what the policy is asked before a counter is shown: its stream is the counter's type id
abbrev pub question_for : ℕ → Counter → Question
question_for principal counter =
    record { principal = principal; act = SeeCounter; channel = counter_shape; stream = counter.type_id }

-- the policy shows the counter to the principal; by which number the policy goes makes no difference
unfoldable pub is_visible : Rules → ℕ → Counter → Bool
is_visible policy principal counter = (verdict_of policy 1 (question_for principal counter)).allow

unfoldable pub visible_of : List Counter → Rules → ℕ → List Counter
visible_of counters policy principal = filter (is_visible policy principal) counters
