-- What an event brings has a number above those that were drawn before.
use Rattle.std.proofs.Common.{◌≡◌, ℕ, ◌+◌, ◌<◌, ◌≤◌, List, [], ◌∷◌, inl, inr, refl, sym, subst, ap, ◌∙◌, ◌⊎◌, ⊎_elim, arith}
use Rattle.std.proofs.lemmas.Bool.{cond_both}
use Rattle.driver_core.specs.declared.state.event.Event.{Event}
use Rattle.driver_core.specs.declared.state.event.Event.TheVariants.{Attach, Command, Reload, Setup, Tick}
use Rattle.driver_core.specs.declared.state.event.Inputs.{Inputs}
use Rattle.driver_core.specs.Conduct.{coming_to, state_after, state_of}
use Rattle.driver_core.specs.Reloading.{has_room_for_policy}
use Rattle.driver_core.specs.State.{State, at_moment, ruled}
use Rattle.driver_laws.specs.GrantLaws.{IsCounterMadeBy, StoodBefore}
use Rattle.driver_laws.specs.NumberLaws.{AreRising, ComesAbove, NeverLowers, NumbersAreNeverDrawnAgain, WasAttached}
use Rattle.driver_laws.specs.PublishingLaws.{IsImageMadeBy, IsLogMadeBy, IsRegisteredBy, WasLive}
use Rattle.driver_laws.specs.ReloadLaws.{Numbered, in_force_at, newest_after}
use Rattle.driver_laws.specs.SubscribingLaws.{IsMadeBy}
use Rattle.client_registry.specs.declared.client.Client.{Client}
use Rattle.counters.specs.declared.counter.Counter.{Counter}
use Rattle.stream_registry.specs.declared.row.LogRow.{LogRow}
use Rattle.stream_registry.specs.declared.row.Registration.{Registration}
use Rattle.stream_registry.specs.declared.row.Subscription.{Subscription}
use Rattle.driver_laws.proofs.ClientComingLemmas.{clients_come}
use Rattle.driver_laws.proofs.GrantOnlyLemmas.{counts_and_ends_only}
use Rattle.driver_laws.proofs.NumberLemmas.{event_rises, numbers_rise}
use Rattle.driver_laws.proofs.PublishingOnlyLemmas.{published_only}
use Rattle.driver_laws.proofs.ReloadLemmas.{newest_in_force}
use Rattle.driver_laws.proofs.SubscribingOnlyLemmas.{grants_only}

-- ---- one event

-- the policy is the one before, or has a number above that one's
abbrev IsOrAbove : State → Numbered → Type 0
IsOrAbove s numbered = (numbered ≡ in_force_at s) ⊎ (s.epoch < numbered.epoch)

newest_above : (s : State) (event : Event) → IsOrAbove s (newest_after s event)
newest_above s (Attach now principal) = inl refl
newest_above s (Command now handle bytes) = inl refl
newest_above s (Reload now policy) =
    cond_both (has_room_for_policy (at_moment s now) policy) _ _ (IsOrAbove s) (λ room. inr (omega arith)) (λ full. inl refl)
newest_above s (Tick now) = inl refl
newest_above s (Setup now local from setup) = inl refl

policy_above : (s : State) (event : Event) (inputs : Inputs) → IsOrAbove s (in_force_at (state_after s event inputs))
policy_above s event inputs =
    subst (IsOrAbove s) (sym (newest_in_force s event inputs)) (newest_above s event)

-- an image has the next number
pub image_number : (s : State) (event : Event) (log : LogRow) → IsImageMadeBy s event log → log.number ≡ s.last_number + 1
unfolding at_moment
image_number s event log made = ap (λ (p : LogRow). p.number) made.log_is

pub comes_above : (s : State) (event : Event) (inputs : Inputs) → ComesAbove s (state_after s event inputs)
unfolding ruled
comes_above s event inputs = record {
  clients = clients_come s event inputs;
  sources = λ log has.
      ⊎_elim (λ before. inl before)
      (λ others.
      ⊎_elim
      (λ (made : IsLogMadeBy (coming_to s event) event log).
      let is : log.number ≡ s.last_number + 1 = ap (λ (p : LogRow). p.number) made.made_is in
      inr (omega (arith, is)))
      (λ (made : IsImageMadeBy (coming_to s event) event log).
      let is : log.number ≡ s.last_number + 1 = image_number (coming_to s event) event log made in
      inr (omega (arith, is)))
      others)
      ((published_only s event inputs).logs log has);
  registrations = λ row has.
      ⊎_elim (λ before. inl before)
      (λ (made : IsRegisteredBy (coming_to s event) event row).
      let is : row.number ≡ s.last_number + 1 = ap (λ (r : Registration). r.number) made.made_is in
      inr (omega (arith, is)))
      ((published_only s event inputs).registrations row has);
  subscriptions = λ row has.
      ⊎_elim (λ before. inl before)
      (λ (made : (correlation : ℕ) × IsMadeBy (coming_to s event) event correlation row).
      let is : row.number ≡ s.last_number + 1 = ap (λ (r : Subscription). r.number) made.1.made_is in
      inr (omega (arith, is)))
      ((grants_only s event inputs).stands row has);
  counters = λ counter has.
      ⊎_elim
      (λ (stood : StoodBefore (coming_to s event) counter).
      inl (record { before = stood.before; stood = stood.stood; same = stood.same }))
      (λ (made : IsCounterMadeBy (coming_to s event) event counter).
      let is : counter.number ≡ s.last_number + 1 = ap (λ (c : Counter). c.number) made.made_is in
      inr (omega (arith, is)))
      ((counts_and_ends_only s event inputs).counters counter has);
  policy = policy_above s event inputs;
}

-- ---- many

nothing_comes : (s : State) → ComesAbove s s
nothing_comes s = record {
  clients = λ client has. inl (record { before = client; stood = has; same = refl });
  sources = λ log has. inl (record { before = log; stood = has; same = refl });
  registrations = λ row has. inl has;
  subscriptions = λ row has. inl has;
  counters = λ counter has. inl (record { before = counter; stood = has; same = refl });
  policy = inl refl;
}

client_above : (s between : State) (client : Client) → NeverLowers s between → ComesAbove s between →
    WasAttached between client ⊎ (between.clients.last < client.number) →
    WasAttached s client ⊎ (s.clients.last < client.number)
client_above s between client lowers first last =
    ⊎_elim
    (λ (was : WasAttached between client).
    let number = ap (λ (c : Client). c.number) was.same in
    ⊎_elim
    (λ (stood : WasAttached s was.before).
    inl (record {
      before = stood.before;
      stood = stood.stood;
      same = was.same ∙ ap (λ (c : Client). record c { heard = client.heard }) stood.same;
    }))
    (λ new. inr (omega (arith, number, new)))
    (first.clients was.before was.stood))
    (λ new.
    let low = lowers.last_client in
    inr (omega (arith, low, new)))
    last

log_above : (s between : State) (log : LogRow) → NeverLowers s between → ComesAbove s between →
    WasLive between.streams log ⊎ (between.last_number < log.number) →
    WasLive s.streams log ⊎ (s.last_number < log.number)
log_above s between log lowers first last =
    ⊎_elim
    (λ (was : WasLive between.streams log).
    let number = ap (λ (p : LogRow). p.number) was.same in
    ⊎_elim
    (λ (stood : WasLive s.streams was.before).
    inl (record {
      before = stood.before;
      stood = stood.stood;
      same = was.same ∙ stood.same;
    }))
    (λ new. inr (omega (arith, number, new)))
    (first.sources was.before was.stood))
    (λ new.
    let low = lowers.last in
    inr (omega (arith, low, new)))
    last

counter_above : (s between : State) (counter : Counter) → NeverLowers s between → ComesAbove s between →
    StoodBefore between counter ⊎ (between.last_number < counter.number) →
    StoodBefore s counter ⊎ (s.last_number < counter.number)
counter_above s between counter lowers first last =
    ⊎_elim
    (λ (was : StoodBefore between counter).
    let number = ap (λ (c : Counter). c.number) was.same in
    ⊎_elim
    (λ (stood : StoodBefore s was.before).
    inl (record {
      before = stood.before;
      stood = stood.stood;
      same = was.same ∙ ap (λ (c : Counter). record c { value = counter.value }) stood.same;
    }))
    (λ new. inr (omega (arith, number, new)))
    (first.counters was.before was.stood))
    (λ new.
    let low = lowers.last in
    inr (omega (arith, low, new)))
    last

row_above : (Stood Was : Type 0) (last middle number : ℕ) → last ≤ middle → (Stood → Was ⊎ (last < number)) →
    Stood ⊎ (middle < number) → Was ⊎ (last < number)
row_above Stood Was last middle number low first from =
    ⊎_elim first (λ new. inr (omega (arith, low, new))) from

policy_after : (s between after : State) → NeverLowers s between → IsOrAbove s (in_force_at between) →
    IsOrAbove between (in_force_at after) → IsOrAbove s (in_force_at after)
policy_after s between after lowers first last =
    ⊎_elim
    (λ same.
    ⊎_elim (λ still. inl (same ∙ still))
    (λ above.
    let epoch = ap (λ (n : Numbered). n.epoch) same in
    inr (omega (arith, epoch, above)))
    first)
    (λ above.
    let low = lowers.epoch in
    inr (omega (arith, low, above)))
    last

comes_after : (s between after : State) → NeverLowers s between → ComesAbove s between → ComesAbove between after →
    ComesAbove s after
comes_after s between after lowers first last = record {
  clients = λ client has. client_above s between client lowers first (last.clients client has);
  sources = λ log has. log_above s between log lowers first (last.sources log has);
  registrations = λ row has.
      row_above _ _ s.last_number between.last_number row.number lowers.last (first.registrations row)
      (last.registrations row has);
  subscriptions = λ row has.
      row_above _ _ s.last_number between.last_number row.number lowers.last (first.subscriptions row)
      (last.subscriptions row has);
  counters = λ counter has. counter_above s between counter lowers first (last.counters counter has);
  policy = policy_after s between after lowers first.policy last.policy;
}

all_above : (s : State) (later : List (Event × Inputs)) → AreRising s → ComesAbove s (state_of s later)
all_above s [] rising = nothing_comes s
all_above s (event ∷ later) rising =
    let next = event_rises s event.0 event.1 rising in
    comes_after s (state_after s event.0 event.1) (state_of (state_after s event.0 event.1) later) next.draws
    (comes_above s event.0 event.1)
    (all_above (state_after s event.0 event.1) later next.rises)

pub never_drawn_again : NumbersAreNeverDrawnAgain
never_drawn_again settings policy peers events later = all_above _ later (numbers_rise settings policy peers events)
