-- What is published and what is subscribed to, as plain lists.
use Rattle.std.specs.Prelude.{ℤ, List, []}
use Rattle.stream_registry.specs.declared.measures.Measures.{Measures}
use Rattle.stream_registry.specs.declared.row.LogRow.{LogRow}
use Rattle.stream_registry.specs.declared.row.Registration.{Registration}
use Rattle.stream_registry.specs.declared.row.Subscription.{Subscription}

-- what a log is made by where its channel says nothing, the number from which on the next session is looked for, the live
-- publications, who is registered with them, and the subscriptions, each list in the order in which its rows came
pub record Streams : Type 0 where
  pub defaults : Measures
  pub next_session : ℤ
  pub sources : List LogRow
  pub registrations : List Registration
  pub subscriptions : List Subscription

-- nothing is there yet
abbrev pub opened : Measures → ℤ → Streams
opened defaults first = record {
  defaults = defaults;
  next_session = first;
  sources = [];
  registrations = [];
  subscriptions = [];
}

-- all went; the sessions that were given are not given again at once
abbrev pub cleared : Streams → Streams
cleared s = record s { sources = []; registrations = []; subscriptions = [] }
