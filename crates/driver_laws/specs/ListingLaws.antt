-- Over every list of events: which counters a client is shown.
use Rattle.std.specs.Prelude.{◌≡◌, ℕ, Bool, true, false, not, List, [], map, filter, Some, None}
use Rattle.driver_core.specs.declared.asked.listing.Listed.{Listed}
use Rattle.driver_core.specs.declared.asked.listing.Listed.TheVariants as listed_as
use Rattle.driver_core.specs.declared.asked.listing.Shown.{Shown}
use Rattle.driver_core.specs.declared.asked.listing.Shown.TheVariants as shown_as
use Rattle.driver_core.specs.LeftOut.{left_out as left_out_of, with_denials}
use Rattle.driver_core.specs.Listing.{list, row_of, shows_source, source_row, uses_of, value, with_rows}
use Rattle.driver_core.specs.Renewal.{source_at}
use Rattle.driver_core.specs.State.{State}
use Rattle.driver_core.specs.Verdicts.{IsByPolicy, verdict_on}
use Rattle.driver_laws.specs.Acts.{asked, look, look_at_log}
use Rattle.driver_laws.specs.DenialLaws.{denial_text}
use Rattle.driver_laws.specs.Events.{AfterAnyEvents}
use Rattle.client_registry.specs.declared.client.Client.{Client}
use Rattle.client_registry.specs.Clients.{client_at}
use Rattle.counters.specs.declared.counter.Counter.{Counter}
use Rattle.counters.specs.Counters.{counter_at}
use Rattle.policy_core.specs.declared.act.Act.TheVariants.{List as SeeCounter}
use Rattle.policy_core.specs.declared.decision.Decision.{Decision}
use Rattle.policy_core.specs.Question.{Question}
use Rattle.policy_core.specs.Verdict.{verdict_text}
use Rattle.stream_registry.specs.declared.row.LogRow.{LogRow}

-- what the policy is asked before the client is shown the counter
abbrev pub look_question : Client → Counter → Question
look_question client counter = asked (look client.principal counter)

-- the policy in force shows it
abbrev pub is_shown_to : State → Client → Counter → Bool
is_shown_to s client counter = (verdict_on s (look_question client counter)).allow

-- what it is asked before the client is shown the log
abbrev pub source_look : Client → LogRow → Question
source_look client source = asked (look_at_log client.principal source)

-- what the policy in force decides on showing the client the counter
abbrev pub look_decision : State → Client → Counter → Decision
look_decision s client counter = record {
  principal = client.principal;
  act = SeeCounter;
  subject = counter.number;
  stream = counter.type_id;
  verdict = verdict_on s (look_question client counter);
}

-- and on showing it the log
abbrev pub look_at_source : State → Client → LogRow → Decision
look_at_source s client source = record {
  principal = client.principal;
  act = SeeCounter;
  subject = source.number;
  stream = source.stream;
  verdict = verdict_on s (source_look client source);
}

abbrev pub is_hidden_from : State → Client → Counter → Bool
is_hidden_from s client counter = not (is_shown_to s client counter)

abbrev pub is_source_hidden : State → Client → LogRow → Bool
is_source_hidden s client source = not (shows_source s client.principal source)

-- the rows are those of the counters that the policy in force shows, and of the live logs, each by the first rule that matches
-- or the default
pub record ListsExactly (s : State) (client : Client) (answer : Listed) : Type 0 where
  pub answer_is :
      answer
      ≡ listed_as.Counters (with_rows (map row_of (filter (is_shown_to s client) s.counters))
      (map (source_row s) (filter (shows_source s client.principal) s.streams.sources)))
  pub by :
      (counter : Counter) → IsByPolicy s (look_question client counter) (verdict_on s (look_question client counter))
  pub sources_by :
      (source : LogRow) → IsByPolicy s (source_look client source) (verdict_on s (source_look client source))

-- the value where the policy in force shows it, else the denial, which names the rule or the default
pub record ShowsExactly (s : State) (client : Client) (counter : Counter) (answer : Shown) : Type 0 where
  pub by : IsByPolicy s (look_question client counter) (verdict_on s (look_question client counter))
  pub shown : is_shown_to s client counter ≡ true → answer ≡ shown_as.Value counter.value
  pub denied : is_shown_to s client counter ≡ false → answer ≡ shown_as.Denied (look_decision s client counter)
  pub text :
      is_shown_to s client counter ≡ false →
      verdict_text (verdict_on s (look_question client counter))
      ≡ denial_text (verdict_on s (look_question client counter)).rule s.epoch

-- how many are registered with the publication, or read the image, where the policy in force shows it, else the denial
pub record ShowsSourceExactly (s : State) (client : Client) (source : LogRow) (answer : Shown) : Type 0 where
  pub by : IsByPolicy s (source_look client source) (verdict_on s (source_look client source))
  pub shown :
      (verdict_on s (source_look client source)).allow ≡ true → answer ≡ shown_as.Value (uses_of s source)
  pub denied :
      (verdict_on s (source_look client source)).allow ≡ false →
      answer ≡ shown_as.Denied (look_at_source s client source)
  pub text :
      (verdict_on s (source_look client source)).allow ≡ false →
      verdict_text (verdict_on s (source_look client source))
      ≡ denial_text (verdict_on s (source_look client source)).rule s.epoch

-- each counter and each live log that is left out is reported by the decision on it, and no other, by their numbers
pub record LeavesOutExactly (s : State) (client : Client) (denials : List Decision) : Type 0 where
  pub denials_are :
      denials
      ≡ with_denials (map (look_decision s client) (filter (is_hidden_from s client) s.counters))
      (map (look_at_source s client) (filter (is_source_hidden s client) s.streams.sources))

-- what a look is answered, whoever looks
pub record LooksExactly (s : State) (handle : ℕ) : Type 0 where
  pub listed :
      (client : Client) → client_at s.clients.rows handle ≡ Some client → ListsExactly s client (list s handle)
  pub valued :
      (client : Client) (number : ℕ) (counter : Counter) → client_at s.clients.rows handle ≡ Some client →
      counter_at s.counters number ≡ Some counter → ShowsExactly s client counter (value s handle number)
  pub sourced :
      (client : Client) (number : ℕ) (source : LogRow) → client_at s.clients.rows handle ≡ Some client →
      counter_at s.counters number ≡ None → source_at s.streams.sources number ≡ Some source →
      ShowsSourceExactly s client source (value s handle number)
  pub unknown :
      (client : Client) (number : ℕ) → client_at s.clients.rows handle ≡ Some client →
      counter_at s.counters number ≡ None → source_at s.streams.sources number ≡ None →
      value s handle number ≡ shown_as.UnknownCounter
  pub left_out :
      (client : Client) → client_at s.clients.rows handle ≡ Some client → LeavesOutExactly s client (left_out_of s handle)
  pub leaves_nobody : client_at s.clients.rows handle ≡ None → left_out_of s handle ≡ []
  pub lists_nobody : client_at s.clients.rows handle ≡ None → list s handle ≡ listed_as.WrongClient
  pub values_nobody : (number : ℕ) → client_at s.clients.rows handle ≡ None → value s handle number ≡ shown_as.WrongClient

abbrev pub CountersAreShownExactly : Type 0
CountersAreShownExactly = AfterAnyEvents (λ s. (handle : ℕ) → LooksExactly s handle)
