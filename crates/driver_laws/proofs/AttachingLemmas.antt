-- A client that attaches comes exactly where the driver was not stopped and there is room.
use Rattle.std.proofs.Common.{◌≡◌, ℕ, ◌+◌, ◌||◌, ◌==◌, Bool, true, false, cond, List, [], ◌∷◌, Option, Some, refl}
use Rattle.std.specs.List.{Contains, list_any}
use Rattle.std.specs.Option.{option_map}
use Rattle.std.specs.Prelude.{All, find, is_some}
use Rattle.std.proofs.lemmas.List.{append-nil}
use Rattle.std.proofs.lemmas.List.Elements.{All-contains_itself, All-weaker}
use Rattle.driver_core.specs.declared.state.event.Event.TheVariants.{Attach}
use Rattle.driver_core.specs.declared.state.event.Inputs.{Inputs}
use Rattle.driver_core.specs.declared.state.outcome.Response.{Response}
use Rattle.driver_core.specs.declared.state.outcome.Response.TheVariants.{Attached, Full, Stopped}
use Rattle.driver_core.specs.Attaching.{attach, attached}
use Rattle.driver_core.specs.Conduct.{conduct, drafted}
use Rattle.driver_core.specs.Draft.{answered}
use Rattle.driver_core.specs.Pairs.{pairs_of}
use Rattle.driver_core.specs.Renewal.{renewed}
use Rattle.driver_core.specs.State.{State, at_moment, ruled}
use Rattle.driver_core.specs.Unread.{dropping}
use Rattle.driver_laws.specs.AttachingLaws.{IsAttached, IsAttachedExactly, IsOnlyAnswered, NobodyComes}
use Rattle.driver_laws.specs.OwnerLaws.{HaveTheirClients}
use Rattle.client_registry.specs.declared.client.Client.{Client}
use Rattle.client_registry.specs.Clients.{admitted, has_room}
use Rattle.log_readers.specs.Numbering.{IsOwned}
use Rattle.log_readers.proofs.SameLemmas.{admitted_alike}
use Rattle.driver_laws.proofs.TurningLemmas.{owned_at, turns_to}

-- ---- whose subscriptions these are is there

found_step : (b : Bool) (row : Client) (rest : Option Client) (later : Bool) →
    (later ≡ true → is_some (option_map (λ (c : Client). c.principal) rest) ≡ true) → (b || later) ≡ true →
    is_some (option_map (λ (c : Client). c.principal) (cond b (Some row) rest)) ≡ true
found_step true row rest later more is = refl
found_step false row rest later more is = more is

found_principal : (rows : List Client) (number : ℕ) → list_any (λ (row : Client). row.number == number) rows ≡ true →
    is_some (option_map (λ (c : Client). c.principal) (find (λ (row : Client). row.number == number) rows)) ≡ true
found_principal [] number is = absurd (cc)
found_principal (row ∷ rows) number is =
    found_step (row.number == number) row (find (λ (r : Client). r.number == number) rows)
    (list_any (λ (r : Client). r.number == number) rows) (found_principal rows number) is

all_owned : (s : State) → HaveTheirClients s → All (IsOwned s.clients.rows) s.streams.subscriptions
all_owned s owned =
    All-weaker (Contains s.streams.subscriptions) (IsOwned s.clients.rows)
    (λ subscription has. found_principal s.clients.rows subscription.client (owned.subscriptions subscription has))
    s.streams.subscriptions (All-contains_itself s.streams.subscriptions)

-- ---- no pair is by a client that has nothing yet

answered_pairs : (s : State) (now : ℕ) (response : Response) →
    pairs_of (answered (at_moment s now) response).after ≡ pairs_of s
unfolding answered at_moment pairs_of
answered_pairs s now response = refl

attached_pairs : (s : State) (now principal : ℕ) → HaveTheirClients s →
    pairs_of (attached (at_moment s now) principal).after ≡ pairs_of s
unfolding attached answered at_moment pairs_of
attached_pairs s now principal owned =
    (admitted_alike s.policy s.epoch s.streams s.clients principal (at_moment s now).moment (all_owned s owned)).pairs

-- ---- what is told

only_answered : (before s : State) (inputs : Inputs) (after : State) (response : Response) → pairs_of after ≡ pairs_of s →
    IsOnlyAnswered before s after inputs response (dropping before (renewed before inputs (answered after response)))
unfolding dropping renewed answered
only_answered before s inputs after response same = record {
  response_is = refl;
  turns = turns_to before inputs (answered after response) s refl same;
  replies = append-nil _;
  decisions = refl;
}

nobody_comes : (before s : State) (now : ℕ) (inputs : Inputs) (response : Response) →
    NobodyComes before s now inputs response (
    dropping before (renewed before inputs (answered (at_moment s now) response)))
unfolding dropping renewed answered
nobody_comes before s now inputs response = record {
  after_is = refl;
  answered = only_answered before s inputs (at_moment s now) response (answered_pairs s now response);
}

one_comes : (before s : State) (now principal : ℕ) (inputs : Inputs) → HaveTheirClients s →
    IsAttached before s now principal inputs (
    dropping before (renewed before inputs (attached (at_moment s now) principal)))
unfolding dropping renewed attached answered admitted at_moment
one_comes before s now principal inputs owned = record {
  after_is = refl;
  answered = only_answered before s inputs _ (Attached (s.clients.last + 1)) (attached_pairs s now principal owned);
}

-- ---- where it comes

when_stopped : (s : State) (now principal : ℕ) → s.stopped ≡ true →
    attach (at_moment s now) principal ≡ answered (at_moment s now) Stopped
unfolding attach at_moment
when_stopped s now principal stopped = rw stopped refl

when_room : (s : State) (now principal : ℕ) → s.stopped ≡ false → has_room s.clients ≡ true →
    attach (at_moment s now) principal ≡ attached (at_moment s now) principal
unfolding attach at_moment
when_room s now principal runs room = rw (runs, room) refl

when_full : (s : State) (now principal : ℕ) → s.stopped ≡ false → has_room s.clients ≡ false →
    attach (at_moment s now) principal ≡ answered (at_moment s now) Full
unfolding attach at_moment
when_full s now principal runs full = rw (runs, full) refl

comes_by : (before s : State) → HaveTheirClients s → (now principal : ℕ) (inputs : Inputs) →
    IsAttachedExactly before s now principal inputs (
    dropping before (renewed before inputs (attach (at_moment s now) principal)))
comes_by before s owned now principal inputs = record {
  stopped = λ stopped. rw (when_stopped s now principal stopped) (nobody_comes before s now inputs Stopped);
  attached = λ runs room. rw (when_room s now principal runs room) (one_comes before s now principal inputs owned);
  full = λ runs full. rw (when_full s now principal runs full) (nobody_comes before s now inputs Full);
}

pub attached_exactly : (s : State) → HaveTheirClients s → (now principal : ℕ) (inputs : Inputs) →
    IsAttachedExactly s (ruled s now) now principal inputs (conduct s (Attach now principal) inputs)
unfolding conduct drafted
attached_exactly s owned now principal inputs = comes_by s (ruled s now) (owned_at s now owned) now principal inputs
