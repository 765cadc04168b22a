-- What a client is shown of the counters. It looks, and changes nothing.
use Rattle.std.specs.Prelude.{ℕ, ℤ, pos, min, Bool, nat_lt, List, [], ◌∷◌, length, map, filter, Option, Some, None, if◌then◌else◌}
use Rattle.driver_core.specs.declared.asked.listing.Listed.{Listed}
use Rattle.driver_core.specs.declared.asked.listing.Listed.TheVariants as listed_as
use Rattle.driver_core.specs.declared.asked.listing.ListedCounter.{ListedCounter}
use Rattle.driver_core.specs.declared.asked.listing.Shown.{Shown}
use Rattle.driver_core.specs.declared.asked.listing.Shown.TheVariants as shown_as
use Rattle.driver_core.specs.Pairs.{pairs_of}
use Rattle.driver_core.specs.Renewal.{source_at}
use Rattle.driver_core.specs.State.{State}
use Rattle.channel_uri.specs.Canonical.{canonical_of}
use Rattle.client_registry.specs.declared.client.Client.{Client}
use Rattle.client_registry.specs.Clients.{client_at}
use Rattle.counters.specs.declared.counter.Counter.{Counter}
use Rattle.counters.specs.Counters.{counter_at, question_for, visible_of}
use Rattle.log_readers.specs.Unread.{is_of_source}
use Rattle.policy_core.specs.declared.act.Act.TheVariants.{List as SeeCounter}
use Rattle.policy_core.specs.declared.decision.Decision.{Decision}
use Rattle.policy_core.specs.Question.{Question}
use Rattle.policy_core.specs.Rules.{verdict_of}
use Rattle.stream_registry.specs.declared.row.LogRow.{LogRow}
use Rattle.stream_registry.specs.Lingering.{registrations_of}
use Rattle.stream_registry.specs.Origins.{is_published}

-- ---- what is listed

-- what a list says of a counter
abbrev pub row_of : Counter → ListedCounter
row_of counter = record {
  number = counter.number;
  type_id = counter.type_id;
  value = counter.value;
  label = counter.label;
}

-- how many are registered with the publication of that source, at most the greatest value of a counter
abbrev pub registered_with : State → ℕ → ℤ
registered_with s source = pos (min (registrations_of s.streams source) 9223372036854775807)

-- how many of the pairs are of that source, at most the greatest value of a counter
abbrev pub read_by : State → ℕ → ℤ
read_by s source = pos (min (length (filter (is_of_source source) (pairs_of s))) 9223372036854775807)

-- which counter reports on the log
abbrev pub type_of : LogRow → ℤ
type_of source = if is_published source then pos 10001 else pos 10002

-- how many are registered with the publication, or read the image
abbrev pub uses_of : State → LogRow → ℤ
uses_of s source = if is_published source then registered_with s source.number else read_by s source.number

-- each live log is a counter of the driver's own: its number is the source's, the value of a publication how many are
-- registered with it, and that of an image how many read it
abbrev pub source_row : State → LogRow → ListedCounter
source_row s source = record {
  number = source.number;
  type_id = type_of source;
  value = uses_of s source;
  label = canonical_of source.channel;
}

-- what the policy is asked before that is shown: channel and stream are the log's
abbrev pub source_question : ℕ → LogRow → Question
source_question principal source = record {
  principal = principal;
  act = SeeCounter;
  channel = source.channel;
  stream = source.stream;
}

-- what the policy in force decides on it, for those who audit
abbrev pub source_decision : State → ℕ → LogRow → Decision
source_decision s principal source = record {
  principal = principal;
  act = SeeCounter;
  subject = source.number;
  stream = source.stream;
  verdict = verdict_of s.policy s.epoch (source_question principal source);
}

abbrev pub shows_source : State → ℕ → LogRow → Bool
shows_source s principal source = (source_decision s principal source).verdict.allow

-- the row stands before the first one of a greater number
abbrev pub with_row : List ListedCounter → ListedCounter → List ListedCounter
with_row [] row = row ∷ []
with_row (other ∷ others) row =
    if nat_lt row.number other.number then row ∷ other ∷ others else other ∷ with_row others row

abbrev pub with_rows : List ListedCounter → List ListedCounter → List ListedCounter
with_rows rows [] = rows
with_rows rows (row ∷ more) = with_rows (with_row rows row) more

-- the live logs that the policy in force shows to the principal
abbrev pub listed_sources : State → ℕ → List ListedCounter
listed_sources s principal = map (source_row s) (filter (shows_source s principal) s.streams.sources)

-- the counters that the policy in force shows to the principal, by their numbers
abbrev pub listed_to : State → ℕ → List ListedCounter
listed_to s principal =
    with_rows (map row_of (visible_of s.counters s.policy principal)) (listed_sources s principal)

abbrev pub list_by : State → Option Client → Listed
list_by s None = listed_as.WrongClient
list_by s (Some client) = listed_as.Counters (listed_to s client.principal)

-- a client that is there is answered with the counters that it may see
unfoldable pub list : State → ℕ → Listed
list s client = list_by s (client_at s.clients.rows client)

-- ---- one counter

-- what the policy in force decides on the principal's question for the counter, for those who audit
abbrev pub counter_decision : State → ℕ → Counter → Decision
counter_decision s principal counter = record {
  principal = principal;
  act = SeeCounter;
  subject = counter.number;
  stream = counter.type_id;
  verdict = verdict_of s.policy s.epoch (question_for principal counter);
}

abbrev pub value_under : Decision → ℤ → Shown
value_under decision value = if decision.verdict.allow then shown_as.Value value else shown_as.Denied decision

abbrev pub source_value : State → ℕ → Option LogRow → Shown
source_value s principal None = shown_as.UnknownCounter
source_value s principal (Some source) =
    value_under (source_decision s principal source) (uses_of s source)

-- numbers are drawn from one sequence, so that no log has that of a counter
abbrev pub value_by : State → ℕ → ℕ → Option Counter → Shown
value_by s principal number None = source_value s principal (source_at s.streams.sources number)
value_by s principal number (Some counter) = value_under (counter_decision s principal counter) counter.value

abbrev pub value_for : State → ℕ → Option Client → Shown
value_for s number None = shown_as.WrongClient
value_for s number (Some client) = value_by s client.principal number (counter_at s.counters number)

-- a client that is there is answered with the counter's value, or by what it is denied
unfoldable pub value : State → ℕ → ℕ → Shown
value s client number = value_for s number (client_at s.clients.rows client)
