-- After an event that takes a client away neither it nor a row of it is there.
use Rattle.std.proofs.Common.{◌≡◌, ℕ, ◌==◌, ◌&&◌, not, Bool, true, false, List, [], ◌∷◌, refl, sym, ap, ⊎_elim}
use Rattle.std.specs.List.{Contains}
use Rattle.std.proofs.lemmas.Bool.{eqb-true, eq-eqb}
use Rattle.std.proofs.lemmas.List.Elements.{All-contains, Contains-append_cases, filter_passes}
use Rattle.std.proofs.lemmas.Map.Views.{any-filter_same}
use Rattle.driver_core.specs.declared.state.event.Event.{Event}
use Rattle.driver_core.specs.declared.state.event.Event.TheVariants.{Tick}
use Rattle.driver_core.specs.declared.state.event.Inputs.{Inputs}
use Rattle.driver_core.specs.Closing.{close}
use Rattle.driver_core.specs.Commands.{heard, at_request}
use Rattle.driver_core.specs.Conduct.{coming_to, conduct, drafted, state_after}
use Rattle.driver_core.specs.Deciding.{decision_by}
use Rattle.driver_core.specs.Draft.{replied, told}
use Rattle.driver_core.specs.Leaving.{all_left, left}
use Rattle.driver_core.specs.Renewal.{renewed}
use Rattle.driver_core.specs.Requests.{termination_question}
use Rattle.driver_core.specs.State.{State, at_moment}
use Rattle.driver_core.specs.Terminating.{stopped_for_good, terminate, terminated, termination_decision}
use Rattle.driver_core.specs.Ticking.{closed_past, late, tick, ticked}
use Rattle.driver_core.specs.Unread.{dropping, without_unread}
use Rattle.driver_core.specs.Verdicts.{verdict_on}
use Rattle.driver_laws.specs.LeavingLaws.{HasNothing, IsClosedBy, IsGoneBy, IsTerminatedBy, IsTimedOutBy, is_there}
use Rattle.client_registry.specs.declared.client.Client.{Client}
use Rattle.client_registry.specs.Clients.{is_other, without}
use Rattle.command_codec.specs.declared.command.Body.TheVariants.{ClientClose as Closes, TerminateDriver as Terminates}
use Rattle.counters.specs.Counters.{is_of_another, without_those_of}
use Rattle.log_readers.specs.Unread.{without_unread as without_unread_in}
use Rattle.stream_registry.specs.Leaving.{is_registration_of_another, is_subscription_of_another, left as left_in}
use Rattle.stream_registry.specs.Lingering.{closed, settled}
use Rattle.driver_core.proofs.ListLemmas.{contains_none, left_was_there, only_one}
use Rattle.driver_laws.proofs.RemovedExactlyLemmas.{body_is_asked}
use Rattle.driver_laws.proofs.SubscribingLemmas.{found_number}

-- neither the client nor a row of it is there
record IsGone (after : State) (client : ℕ) : Type 0 where
  absent : is_there after client ≡ false
  nothing : HasNothing after client

-- ---- one client goes

-- the rows are there but for the client's
pub there_left : (s : State) (gone client : ℕ) →
    is_there (left s gone) client ≡ (not (client == gone) && is_there s client)
unfolding left without
there_left s gone client =
    any-filter_same (λ (row : Client). row.number == client) (is_other gone) (not (client == gone))
    (λ row same. ap (λ (n : ℕ). not (n == gone)) (eqb-true row.number client same)) s.clients.rows

differs : (client gone : ℕ) → not (client == gone) ≡ true → client ≡ gone → ⊥
differs client gone other same = absurd (cc (other, eq-eqb client gone same))

one_has_nothing : (s : State) (client : ℕ) → HasNothing (left s client) client
unfolding left left_in settled without_those_of
one_has_nothing s client = record {
  registrations = λ registration has.
      differs registration.client client
      (All-contains (λ r. is_registration_of_another client r ≡ true) _ registration
      (filter_passes (is_registration_of_another client) s.streams.registrations) has);
  subscriptions = λ subscription has.
      differs subscription.client client
      (All-contains (λ r. is_subscription_of_another client r ≡ true) _ subscription
      (filter_passes (is_subscription_of_another client) s.streams.subscriptions) has);
  counters = λ counter has.
      differs counter.client client
      (All-contains (λ c. is_of_another client c ≡ true) _ counter
      (filter_passes (is_of_another client) s.counters) has);
}

one_gone : (s : State) (client : ℕ) → IsGone (left s client) client
one_gone s client = record {
  absent = rw (there_left s client client, eq-eqb client client refl) refl;
  nothing = one_has_nothing s client;
}

-- ---- others go behind it

both_false : (b : Bool) → (b && false) ≡ false
both_false true = refl
both_false false = refl

still_nothing : (s : State) (other client : ℕ) → HasNothing s client → HasNothing (left s other) client
unfolding left left_in settled without_those_of
still_nothing s other client nothing = record {
  registrations = λ registration has.
      nothing.registrations registration
      (left_was_there (is_registration_of_another other) s.streams.registrations registration has);
  subscriptions = λ subscription has.
      nothing.subscriptions subscription
      (left_was_there (is_subscription_of_another other) s.streams.subscriptions subscription has);
  counters = λ counter has.
      nothing.counters counter (left_was_there (is_of_another other) s.counters counter has);
}

still_gone : (s : State) (other client : ℕ) → IsGone s client → IsGone (left s other) client
still_gone s other client gone = record {
  absent = rw (there_left s other client, gone.absent) (both_false (not (client == other)));
  nothing = still_nothing s other client gone.nothing;
}

all_still_gone : (s : State) (others : List ℕ) (client : ℕ) → IsGone s client → IsGone (all_left s others) client
all_still_gone s [] client gone = gone
all_still_gone s (other ∷ others) client gone =
    all_still_gone (left s other) others client (still_gone s other client gone)

all_gone : (s : State) (clients : List ℕ) (client : ℕ) → Contains clients client → IsGone (all_left s clients) client
all_gone s [] client has = absurd (contains_none client has)
all_gone s (first ∷ clients) client has =
    ⊎_elim
    (λ one.
    all_still_gone (left s first) clients client (rw (sym (only_one first client one)) (one_gone s first)))
    (λ later. all_gone (left s first) clients client later)
    (Contains-append_cases (first ∷ []) clients client has)

-- ---- by each event

tick_takes : (s : State) (now client : ℕ) (inputs : Inputs) →
    IsGone (all_left (at_moment s now) (late (at_moment s now))) client → IsGone (drafted s (Tick now) inputs).after client
unfolding drafted tick ticked closed_past closed
tick_takes s now client inputs gone = record {
  absent = gone.absent;
  nothing = record {
    registrations = gone.nothing.registrations;
    subscriptions = gone.nothing.subscriptions;
    counters = gone.nothing.counters;
  };
}

timed_out : (s : State) (event : Event) (inputs : Inputs) (client : ℕ) → IsTimedOutBy s event client →
    IsGone (drafted s event inputs).after client
unfolding at_moment
timed_out s event inputs client by =
    rw by.event_is
    (tick_takes s by.moment client inputs (all_gone (at_moment s by.moment) (late (at_moment s by.moment)) client by.is_late))

close_takes : (s : State) (row : Client) (correlation client : ℕ) → row.number ≡ client →
    IsGone (close s row correlation).after client
unfolding close replied told
close_takes s row correlation client own = rw own (one_gone s client)

closed_itself : (s : State) (event : Event) (inputs : Inputs) (client : ℕ) → IsClosedBy s event client →
    IsGone (drafted s event inputs).after client
closed_itself s event inputs client by =
    rw (by.event_is, body_is_asked s by.moment client by.correlation by.bytes inputs by.row Closes by.asks)
    (close_takes (at_request s by.moment client) by.row by.correlation client
    (found_number s.clients.rows client by.row by.asks.attached))

end_takes : (s : State) (row : Client) (correlation client : ℕ) → IsGone (terminated s row correlation).after client
unfolding terminated stopped_for_good
end_takes s row correlation client = record {
  absent = refl;
  nothing = record {
    registrations = λ registration has. absurd (contains_none registration has);
    subscriptions = λ subscription has. absurd (contains_none subscription has);
    counters = λ counter has. absurd (contains_none counter has);
  };
}

allowed_end : (s : State) (row : Client) (correlation : ℕ) → (termination_decision s row).verdict.allow ≡ true →
    terminate s row correlation ≡ terminated s row correlation
unfolding terminate
allowed_end s row correlation allows = rw allows refl

allowed_then : (s : State) (now handle : ℕ) (row : Client) → (verdict_on s (termination_question row)).allow ≡ true →
    (termination_decision (at_request s now handle) row).verdict.allow ≡ true
unfolding decision_by heard at_moment
allowed_then s now handle row allows = allows

-- the draft of an allowed request that the driver end
pub end_is : (s : State) (event : Event) (inputs : Inputs) (by : IsTerminatedBy s event) →
    drafted s event inputs ≡ terminated (at_request s by.moment by.handle) by.client by.correlation
end_is s event inputs by =
    rw (by.event_is, body_is_asked s by.moment by.handle by.correlation by.bytes inputs by.client (Terminates by.fields) by.asks)
    (allowed_end (at_request s by.moment by.handle) by.client by.correlation
    (allowed_then s by.moment by.handle by.client by.allowed))

ended : (s : State) (event : Event) (inputs : Inputs) (client : ℕ) → IsTerminatedBy s event →
    IsGone (drafted s event inputs).after client
ended s event inputs client by =
    rw (end_is s event inputs by) (end_takes (at_request s by.moment by.handle) by.client by.correlation client)

gone_by : (s : State) (event : Event) (inputs : Inputs) (client : ℕ) → IsGoneBy s event client →
    IsGone (drafted s event inputs).after client
gone_by s event inputs client goes =
    ⊎_elim
    (λ by. timed_out s event inputs client by)
    (λ others. ⊎_elim (λ by. closed_itself s event inputs client by) (λ by. ended s event inputs client by) others)
    goes

-- ---- the laws

-- where images go that none reads, the rows are as they were
kept_nothing : (s : State) (client : ℕ) → HasNothing s client → HasNothing (without_unread s) client
unfolding without_unread without_unread_in
kept_nothing s client nothing = record {
  registrations = nothing.registrations;
  subscriptions = nothing.subscriptions;
  counters = nothing.counters;
}

pub clients_gone : (s : State) (event : Event) (inputs : Inputs) (client : ℕ) →
    IsGoneBy (coming_to s event) event client → is_there (state_after s event inputs) client ≡ false
unfolding conduct renewed dropping without_unread
clients_gone s event inputs client goes = (gone_by (coming_to s event) event inputs client goes).absent

pub rows_gone : (s : State) (event : Event) (inputs : Inputs) (client : ℕ) →
    IsGoneBy (coming_to s event) event client → HasNothing (state_after s event inputs) client
unfolding conduct renewed dropping
rows_gone s event inputs client goes =
    kept_nothing (drafted (coming_to s event) event inputs).after client
    (gone_by (coming_to s event) event inputs client goes).nothing
