-- Clients leave, and the driver goes: all pairs of what they had go.
use Rattle.std.proofs.Common.{◌≡◌, ℕ, max, Bool, true, false, not, cond, List, [], filter, get_or, Option, None, Result, Ok, Err, refl, subst, ap, ◌∙◌}
use Rattle.driver_core.specs.declared.state.event.Inputs.{Inputs}
use Rattle.driver_core.specs.declared.state.refused.Refused.{Refused}
use Rattle.driver_core.specs.declared.state.replies.Reply.TheVariants.{OperationSuccess}
use Rattle.driver_core.specs.Closing.{close}
use Rattle.driver_core.specs.Commands.{at_request, heard}
use Rattle.driver_core.specs.Deciding.{decision_by}
use Rattle.driver_core.specs.Draft.{Draft, replied, told}
use Rattle.driver_core.specs.Leaving.{left}
use Rattle.driver_core.specs.Pairs.{pairs_of}
use Rattle.driver_core.specs.Refusing.{denied, refused_by}
use Rattle.driver_core.specs.Renewal.{decided_on, outcome_by, outcome_gone, subscription_at, unavailable_for}
use Rattle.driver_core.specs.State.{State, at_moment}
use Rattle.driver_core.specs.Terminating.{stopped_for_good, terminate, terminated, terminating_of, termination_decision}
use Rattle.driver_core.specs.Report.{report_of, tells_reply}
use Rattle.driver_core.proofs.GoneLemmas.{flat_none, found_in_part, none_of_part, not_decided, not_told, silent_outcome}
use Rattle.driver_core.proofs.PairLemmas.{pairs_heard}
use Rattle.client_registry.specs.declared.client.Client.{Client}
use Rattle.client_registry.specs.Clients.{cleared as nobody, touched}
use Rattle.log_readers.specs.Numbering.{Rises, number_of}
use Rattle.log_readers.specs.Readers.{is_of_others}
use Rattle.log_readers.specs.Turnover.{IsTurnover, is_of_client}
use Rattle.log_readers.proofs.TurnoverLemmas.{cleared_turnover, left_turnover, others_by_number}
use Rattle.policy_core.specs.declared.decision.Decision.{Decision}
use Rattle.stream_registry.specs.declared.pairs.Pair.{Pair}
use Rattle.stream_registry.specs.declared.row.Subscription.{Subscription}
use Rattle.stream_registry.specs.Leaving.{has_subscription, left as left_in}
use Rattle.stream_registry.specs.Lingering.{settled}
use Rattle.stream_registry.specs.Streams.{Streams}

-- ---- a client's subscriptions are gone

turned_over : (had : Bool) (found : Option Subscription) → cond (not had) found None ≡ cond had None found
turned_over true found = refl
turned_over false found = refl

pub left_at : (s : Streams) (client now number last : ℕ) → Rises number_of 0 last s.subscriptions →
    subscription_at (left_in s client now).subscriptions number
    ≡ cond (has_subscription s client number) None (subscription_at s.subscriptions number)
unfolding left_in settled
left_at s client now number last up =
    ap (λ (rows : List Subscription). subscription_at rows number) (others_by_number s client 0 last up)
    ∙ found_in_part number_of (is_of_others s client) number s.subscriptions
    ∙ turned_over (has_subscription s client number) (subscription_at s.subscriptions number)

-- ---- CLIENT_CLOSE

-- the pairs of its subscriptions go
close_turnover : (s : State) (now handle : ℕ) (client : Client) (correlation last : ℕ) → Rises number_of 0 last s.streams.subscriptions →
    IsTurnover (pairs_of s) (pairs_of (close (at_request s now handle) client correlation).after)
    (filter (is_of_client s.streams client.number) (pairs_of s)) []
unfolding close left replied told heard at_moment pairs_of
close_turnover s now handle client correlation last up =
    subst (λ (pairs : List Pair).
    IsTurnover pairs (pairs_of (close (at_request s now handle) client correlation).after)
    (filter (is_of_client s.streams client.number) pairs) []) (pairs_heard s now handle)
    (left_turnover s.policy s.epoch s.streams (touched s.clients handle (max s.moment now)) client.number (max s.moment now) 0 last up)

close_at : (s : State) (now handle : ℕ) (client : Client) (correlation last : ℕ) → Rises number_of 0 last s.streams.subscriptions →
    (pair : Pair) → is_of_client s.streams client.number pair ≡ true →
    subscription_at (close (at_request s now handle) client correlation).after.streams.subscriptions pair.subscription ≡ None
unfolding close left replied told heard at_moment
close_at s now handle client correlation last up pair is =
    left_at s.streams client.number (max s.moment now) pair.subscription last up
    ∙ ap (λ (b : Bool). cond b None (subscription_at s.streams.subscriptions pair.subscription)) is

pub closed_outcome : (s : State) (last now handle : ℕ) (inputs : Inputs) (client : Client) (correlation : ℕ) →
    Rises number_of 0 last s.streams.subscriptions →
    outcome_by s inputs (close (at_request s now handle) client correlation)
    ≡ outcome_gone (tells_reply [] client.number (OperationSuccess correlation))
    (filter (is_of_client s.streams client.number) (pairs_of s))
unfolding close replied told
closed_outcome s last now handle inputs client correlation up =
    let draft : Draft = close (at_request s now handle) client correlation in
    let nobody_at = close_at s now handle client correlation last up in
    silent_outcome s inputs draft (filter (is_of_client s.streams client.number) (pairs_of s))
    (close_turnover s now handle client correlation last up)
    (none_of_part (is_of_client s.streams client.number) (unavailable_for draft.after) (pairs_of s)
    (λ pair is. not_told draft.after pair (nobody_at pair is)))
    (none_of_part (is_of_client s.streams client.number) (decided_on draft.after) (pairs_of s)
    (λ pair is. not_decided draft.after pair (nobody_at pair is)))

-- ---- TERMINATE_DRIVER

terminated_turnover : (s : State) (now handle : ℕ) (client : Client) (correlation : ℕ) →
    IsTurnover (pairs_of s) (pairs_of (terminated (at_request s now handle) client correlation).after) (pairs_of s) []
unfolding terminated stopped_for_good heard at_moment pairs_of
terminated_turnover s now handle client correlation =
    subst (λ (pairs : List Pair).
    IsTurnover pairs (pairs_of (terminated (at_request s now handle) client correlation).after) pairs []) (pairs_heard s now handle)
    (cleared_turnover s.streams (touched s.clients handle (max s.moment now)).rows (nobody (touched s.clients handle (max s.moment now))).rows
    s.policy s.epoch)

nobody_left : (s : State) (client : Client) (correlation : ℕ) (pair : Pair) →
    subscription_at (terminated s client correlation).after.streams.subscriptions pair.subscription ≡ None
unfolding terminated stopped_for_good
nobody_left s client correlation pair = refl

pub terminated_outcome : (s : State) (now handle : ℕ) (inputs : Inputs) (client : Client) (correlation : ℕ) →
    outcome_by s inputs (terminated (at_request s now handle) client correlation)
    ≡ outcome_gone (report_of (terminated (at_request s now handle) client correlation)) (pairs_of s)
terminated_outcome s now handle inputs client correlation =
    let draft : Draft = terminated (at_request s now handle) client correlation in
    let nobody_at = nobody_left (at_request s now handle) client correlation in
    silent_outcome s inputs draft (pairs_of s) (terminated_turnover s now handle client correlation)
    (flat_none (unavailable_for draft.after) (pairs_of s) (λ k d within. not_told draft.after (get_or (pairs_of s) k d) (nobody_at (get_or (pairs_of s) k d))))
    (flat_none (decided_on draft.after) (pairs_of s) (λ k d within. not_decided draft.after (get_or (pairs_of s) k d) (nobody_at (get_or (pairs_of s) k d))))

pub terminating_same : (s : State) (now handle : ℕ) (client : Client) →
    terminating_of (at_request s now handle) client ≡ terminating_of s client
unfolding terminating_of decision_by heard at_moment
terminating_same s now handle client = refl

-- ---- by what is decided

abbrev pub terminate_as : State → Client → ℕ → Result Decision Refused → Draft
terminate_as s client correlation (Ok decision) = terminated s client correlation
terminate_as s client correlation (Err why) = refused_by s client.number correlation why

decided_as : (s : State) (client : Client) (correlation : ℕ) (allow : Bool) →
    (termination_decision s client).verdict.allow ≡ allow →
    terminate s client correlation ≡ terminate_as s client correlation (terminating_of s client)
unfolding terminate terminating_of
decided_as s client correlation true allow = rw allow refl
decided_as s client correlation false allow = rw allow refl

pub terminate_is : (s : State) (client : Client) (correlation : ℕ) (decided : Result Decision Refused) →
    terminating_of s client ≡ decided →
    terminate s client correlation ≡ terminate_as s client correlation decided
terminate_is s client correlation decided is = rw (← is) (decided_as s client correlation _ refl)

granted_by : (s : State) (client : Client) (decision : Decision) (allow : Bool) →
    (termination_decision s client).verdict.allow ≡ allow → terminating_of s client ≡ Ok decision →
    decision ≡ termination_decision s client
unfolding terminating_of
granted_by s client decision true allow is =
    let same : Ok (termination_decision s client) ≡ Ok decision = (rw allow refl) ∙ is in
    cc
granted_by s client decision false allow is =
    let never : Err (denied (termination_decision s client)) ≡ Ok decision = (rw allow refl) ∙ is in
    absurd cc

pub granted : (s : State) (client : Client) (decision : Decision) → terminating_of s client ≡ Ok decision →
    decision ≡ termination_decision s client
granted s client decision is = granted_by s client decision _ refl is
