-- After each event the pairs are those of the lists and the policy in force. What that closes and opens is reported.
use Rattle.std.specs.Prelude.{ℕ, ◌==◌, List, [], ◌∷◌, ◌++◌, filter, find, map, Option, Some, None, if◌then◌else◌}
use Rattle.std.specs.List.{flat_map}
use Rattle.driver_core.specs.declared.state.outcome.Outcome.{Outcome}
use Rattle.driver_core.specs.declared.state.report.Report.{Report}
use Rattle.driver_core.specs.Change.{Change}
use Rattle.driver_core.specs.Draft.{Draft}
use Rattle.driver_core.specs.declared.state.event.End.{End}
use Rattle.driver_core.specs.declared.state.event.Inputs.{Inputs}
use Rattle.driver_core.specs.declared.state.replies.Message.{Message}
use Rattle.driver_core.specs.declared.state.replies.Reply.TheVariants.{AvailableImage, UnavailableImage}
use Rattle.driver_core.specs.Pairs.{pairs_of, lacking}
use Rattle.driver_core.specs.State.{State}
use Rattle.client_registry.specs.Clients.{principal_at}
use Rattle.log_readers.specs.Turnover.{is_of_any, pairs_with}
use Rattle.policy_core.specs.declared.act.Act.TheVariants.{Image}
use Rattle.policy_core.specs.declared.decision.Decision.{Decision}
use Rattle.policy_core.specs.RuleList.{Rules}
use Rattle.policy_core.specs.Rules.{verdict_of}
use Rattle.stream_registry.specs.declared.pairs.Pair.{Pair}
use Rattle.stream_registry.specs.declared.row.LogRow.{LogRow}
use Rattle.stream_registry.specs.declared.row.Subscription.{Subscription}
use Rattle.stream_registry.specs.Origins.{begins_at}
use Rattle.driver_core.specs.Identity.{identity_of}
use Rattle.stream_registry.specs.Pairs.{image_question, is_pair, pair_of}

-- the rows of a pair
abbrev pub source_at : List LogRow → ℕ → Option LogRow
source_at logs number = find (λ log. log.number == number) logs

abbrev pub subscription_at : List Subscription → ℕ → Option Subscription
subscription_at subscriptions number = find (λ subscription. subscription.number == number) subscriptions

-- ---- what is reported to clients

-- nothing is reported to a subscription that went in the same event
abbrev pub unavailable_to : Pair → Option Subscription → List Message
unavailable_to pair None = []
unavailable_to pair (Some subscription) =
    record {
      client = subscription.client;
      reply = UnavailableImage pair.source pair.subscription subscription.stream;
    }
    ∷ []

unfoldable pub unavailable_for : State → Pair → List Message
unavailable_for s pair = unavailable_to pair (subscription_at s.streams.subscriptions pair.subscription)

-- how far the log of that source reaches; one that is not reported begins
abbrev pub position_by : ℕ → Option End → ℕ
position_by begin None = begin
position_by begin (Some end) = end.position

abbrev pub position_at : List End → ℕ → ℕ → ℕ
position_at ends begin source = position_by begin (find (λ end. end.source == source) ends)

abbrev pub available_to : List End → Pair → Option LogRow → Option Subscription → List Message
available_to ends pair None subscription = []
available_to ends pair (Some log) None = []
available_to ends pair (Some log) (Some subscription) =
    record {
      client = subscription.client;
      reply = AvailableImage pair.source pair.subscription log.session log.stream
          (position_at ends (begins_at log) pair.source) (identity_of log);
    }
    ∷ []

unfoldable pub available_for : State → List End → Pair → List Message
available_for s ends pair =
    available_to ends pair (source_at s.streams.sources pair.source)
    (subscription_at s.streams.subscriptions pair.subscription)

-- first of the pairs that went, then of those that came, each by source and then subscription
unfoldable pub images_told : State → Inputs → List Pair → List Pair → List Message
images_told s inputs gone come = flat_map (unavailable_for s) gone ++ flat_map (available_for s inputs.ends) come

-- ---- what is reported to those who audit

-- what the policy in force decides on the pair of a subscription
abbrev pub image_decision : State → Subscription → ℕ → Decision
image_decision s subscription principal = record {
  principal = principal;
  act = Image;
  subject = subscription.number;
  stream = subscription.stream;
  verdict = verdict_of s.policy s.epoch (image_question principal subscription);
}

abbrev pub decided_for : State → Subscription → Option ℕ → List Decision
decided_for s subscription None = []
decided_for s subscription (Some principal) = image_decision s subscription principal ∷ []

abbrev pub decided_to : State → Option LogRow → Option Subscription → List Decision
decided_to s None subscription = []
decided_to s (Some log) None = []
decided_to s (Some log) (Some subscription) =
    decided_for s subscription (principal_at s.clients.rows subscription.client)

-- nothing is decided on a pair whose log or subscription went: it is the policy that takes the others away
unfoldable pub decided_on : State → Pair → List Decision
decided_on s pair =
    decided_to s (source_at s.streams.sources pair.source)
    (subscription_at s.streams.subscriptions pair.subscription)

-- under another policy, which goes by this number
abbrev pub under : State → Rules → ℕ → State
under s policy epoch = record s { policy = policy; epoch = epoch }

unfoldable pub images_decided : State → List Pair → List Pair → List Decision
images_decided s gone come = flat_map (decided_on s) gone ++ flat_map (decided_on s) come

-- ---- the whole change

-- the pairs that an event takes away, and those that it brings
abbrev pub gone_from : State → State → List Pair
gone_from before after = lacking (pairs_of before) (pairs_of after)

abbrev pub come_to : State → State → List Pair
come_to before after = lacking (pairs_of after) (pairs_of before)

-- the event's own replies, those of images, and the later ones
unfoldable pub renewed : State → Inputs → Draft → Change
renewed before inputs draft = record {
  after = draft.after;
  outcome = record {
    response = draft.response;
    replies = draft.replies
        ++ (images_told draft.after inputs (gone_from before draft.after) (come_to before draft.after) ++ draft.later);
    decisions = draft.decisions
        ++ images_decided draft.after (gone_from before draft.after) (come_to before draft.after);
    opens = draft.opens;
    closes = draft.closes;
    gone = gone_from before draft.after;
    come = come_to before draft.after;
  };
}

-- where no pair goes or comes
abbrev pub outcome_kept : Report → Outcome
outcome_kept told = record {
  response = told.response;
  replies = told.replies ++ told.later;
  decisions = told.decisions;
  opens = told.opens;
  closes = told.closes;
  gone = [];
  come = [];
}

-- where these pairs go, which are reported already, and none comes
abbrev pub outcome_gone : Report → List Pair → Outcome
outcome_gone told gone = record (outcome_kept told) { gone = gone }

-- what an event's draft reports once the pairs are renewed
abbrev pub outcome_by : State → Inputs → Draft → Outcome
outcome_by before inputs draft = (renewed before inputs draft).outcome

-- ---- where clients go

-- what is reported of a pair that goes: nothing where its subscription is one of theirs
abbrev pub unavailable_beside : State → List ℕ → Pair → List Message
unavailable_beside s clients pair = if is_of_any s.streams clients pair then [] else unavailable_for s pair

-- ---- where a subscription comes

-- what is reported to its client of a log that it reads
abbrev pub available_on : List LogRow → List End → Subscription → Pair → List Message
available_on logs ends subscription pair =
    available_to ends pair (source_at logs pair.source) (Some subscription)

-- what is decided on it
abbrev pub decided_with : State → Subscription → Pair → List Decision
decided_with s subscription pair =
    decided_to s (source_at s.streams.sources pair.source) (Some subscription)

-- the outcome where a subscription comes, from what the event's own rule reports
abbrev pub outcome_coming : State → Inputs → Report → Subscription → Outcome
outcome_coming s inputs told subscription =
    let come : List Pair = pairs_with s.clients.rows s.policy s.epoch s.streams.sources subscription in
    record {
      response = told.response;
      replies = told.replies ++ flat_map (available_on s.streams.sources inputs.ends subscription) come;
      decisions = told.decisions ++ flat_map (decided_with s subscription) come;
      opens = told.opens;
      closes = told.closes;
      gone = [];
      come = come;
    }

-- ---- where a log comes

-- those of these subscriptions that read it
abbrev pub reading : State → LogRow → List Subscription → List Subscription
reading s log subscriptions = filter (is_pair s.clients.rows s.policy s.epoch log) subscriptions

-- what is reported to the client of such a subscription
abbrev pub available_from : List End → LogRow → Subscription → List Message
available_from ends log subscription = available_to ends (pair_of log subscription) (Some log) (Some subscription)

-- what is decided on it
abbrev pub decided_from : State → Subscription → List Decision
decided_from s subscription = decided_for s subscription (principal_at s.clients.rows subscription.client)

-- the outcome where a log comes, from what the event's own rule reports
abbrev pub outcome_opening : State → Inputs → Report → LogRow → Outcome
outcome_opening s inputs told log =
    let readers : List Subscription = reading s log s.streams.subscriptions in
    record {
      response = told.response;
      replies = told.replies ++ flat_map (available_from inputs.ends log) readers;
      decisions = told.decisions ++ flat_map (decided_from s) readers;
      opens = told.opens;
      closes = told.closes;
      gone = [];
      come = map (pair_of log) readers;
    }
