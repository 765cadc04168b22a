-- What clients that go leave of the rows of others, and of logs.
use Rattle.std.proofs.Common.{◌≡◌, ℕ, ◌-◌, ◌<◌, ◌==◌, not, Bool, true, false, List, [], ◌∷◌, map, filter, Option, Some, None, inl, inr, if◌then◌else◌, refl, sym, subst, ap, ◌∙◌, ◌⊎◌, ⊎_elim, arith}
use Rattle.std.specs.List.{Contains}
use Rattle.std.specs.Prelude.{unwrap_or}
use Rattle.std.proofs.lemmas.Bool.{cases_Bool, eqb-true, le-ltb, ltb-true, not_from_false}
use Rattle.std.proofs.lemmas.List.Elements.{All-contains, All-contains_itself, All-map, All-weaker, Contains-append_cases, Contains-append_left, Contains-append_right, Contains-push}
use Rattle.driver_core.specs.Leaving.{all_left, left}
use Rattle.driver_core.specs.Soundness.{log_of}
use Rattle.driver_core.specs.State.{State}
use Rattle.driver_laws.specs.ClosingLaws.{IsSameLog}
use Rattle.driver_laws.specs.LeavingLaws.{is_there}
use Rattle.counters.specs.declared.counter.Counter.{Counter}
use Rattle.counters.specs.Counters.{is_of_another, without_those_of}
use Rattle.stream_registry.specs.declared.row.Origin.{Origin}
use Rattle.stream_registry.specs.declared.row.Origin.TheVariants.{Published, Remote}
use Rattle.stream_registry.specs.declared.row.LogRow.{LogRow}
use Rattle.stream_registry.specs.declared.row.Registration.{Registration}
use Rattle.stream_registry.specs.Leaving.{left as left_in}
use Rattle.stream_registry.specs.Lingering.{is_past, is_past_since, is_used, left_alone, place_of, settled, settled_one}
use Rattle.stream_registry.specs.Origins.{left_by, lingering_by, unlingering}
use Rattle.driver_core.proofs.ListLemmas.{contains_none, left_was_there, only_one, passes_are_left}
use Rattle.driver_laws.proofs.GoneLemmas.{there_left}

-- ---- lists

pub mapped : {X Y : Type 0} (f : X → Y) (xs : List X) (x : X) → Contains xs x → Contains (map f xs) (f x)
mapped f [] x has = absurd (contains_none x has)
mapped f (y ∷ ys) x has =
    ⊎_elim
    (λ first.
    Contains-append_left (f y ∷ []) (map f ys) (f x) (rw (ap f (sym (only_one y x first))) (Contains-push [] (f y))))
    (λ later. Contains-append_right (f y ∷ []) (map f ys) (f x) (mapped f ys x later))
    (Contains-append_cases (y ∷ []) ys x has)

-- what an image is of
pub record IsImage {X Y : Type 0} (f : X → Y) (xs : List X) (y : Y) : Type 0 where
  pub of : X
  pub stood : Contains xs of
  pub is : y ≡ f of

pub from_map : {X Y : Type 0} (f : X → Y) (xs : List X) (y : Y) → Contains (map f xs) y → IsImage f xs y
from_map f xs y has =
    All-contains (IsImage f xs) (map f xs) y
    (All-map (IsImage f xs) f xs
    (All-weaker (Contains xs) (λ x. IsImage f xs (f x)) (λ x there. record { of = x; stood = there; is = refl }) xs
    (All-contains_itself xs)))
    has

-- a row stays where its owner is another one
owned_or_stays : {X : Type 0} (owner : X → ℕ) (client : ℕ) (xs : List X) (x : X) → Contains xs x →
    Contains (filter (λ y. not (owner y == client)) xs) x ⊎ (owner x ≡ client)
owned_or_stays owner client xs x has =
    ⊎_elim
    (λ own. inr (eqb-true (owner x) client own))
    (λ other. inl (passes_are_left (λ y. not (owner y == client)) xs x (not_from_false (owner x == client) other) has))
    (cases_Bool (owner x == client))

-- ---- a log that lingers

-- the log is as it was, or lingers, since that moment where it did not before
abbrev pub Settles : ℕ → LogRow → LogRow → Type 0
Settles now before after = (after ≡ before) ⊎ (after ≡ left_alone now before)

settled_either : (b : Bool) (now : ℕ) (log : LogRow) → Settles now log (if b then log else left_alone now log)
settled_either true now log = inl refl
settled_either false now log = inr refl

left_twice : (now : ℕ) (origin : Origin) → left_by now (left_by now origin) ≡ left_by now origin
left_twice now (Published exclusive since) = refl
left_twice now (Remote address initial_term join) = refl

alone_twice : (now : ℕ) (log : LogRow) → left_alone now (left_alone now log) ≡ left_alone now log
alone_twice now log = ap (λ (origin : Origin). record log { origin = origin }) (left_twice now log.origin)

settles_twice : (now : ℕ) (first next last : LogRow) → Settles now first next → Settles now next last →
    Settles now first last
settles_twice now first next last one two =
    ⊎_elim
    (λ same. rw (← same) two)
    (λ alone.
    ⊎_elim
    (λ as_it_is. inr (as_it_is ∙ alone))
    (λ again. inr (again ∙ ap (left_alone now) alone ∙ alone_twice now first))
    two)
    one

-- ---- what is left

-- behind clients that go: what goes is theirs, and logs linger or not
pub record Left (now : ℕ) (s after : State) (Goes : ℕ → Type 0) : Type 0 where
  pub clients : (client : ℕ) → is_there s client ≡ true → (is_there after client ≡ true) ⊎ Goes client
  pub registrations :
      (registration : Registration) → Contains s.streams.registrations registration →
      Contains after.streams.registrations registration ⊎ Goes registration.client
  pub counters :
      (counter : Counter) → Contains s.counters counter → Contains after.counters counter ⊎ Goes counter.client
  pub values : (counter : Counter) → Contains after.counters counter → Contains s.counters counter
  pub logs :
      (log : LogRow) → Contains s.streams.sources log →
      (later : LogRow) × Contains after.streams.sources later × Settles now log later
  pub were :
      (log : LogRow) → Contains after.streams.sources log →
      (before : LogRow) × Contains s.streams.sources before × Settles now before log
  pub moment : after.moment ≡ now

there_or_gone : (s : State) (gone client : ℕ) → is_there s client ≡ true →
    (is_there (left s gone) client ≡ true) ⊎ (client ≡ gone)
there_or_gone s gone client there =
    ⊎_elim
    (λ own. inr (eqb-true client gone own))
    (λ other. inl (rw (there_left s gone client, not_from_false (client == gone) other, there) refl))
    (cases_Bool (client == gone))

pub settled_logs : (registrations : List Registration) (now : ℕ) (logs : List LogRow) (log : LogRow) →
    Contains logs log →
    (later : LogRow) × Contains (map (settled_one registrations now) logs) later × Settles now log later
settled_logs registrations now logs log has = (
  settled_one registrations now log,
  mapped (settled_one registrations now) logs log has,
  settled_either (is_used registrations log.number) now log,
)

pub settled_were : (registrations : List Registration) (now : ℕ) (logs : List LogRow) (log : LogRow) →
    Contains (map (settled_one registrations now) logs) log →
    (before : LogRow) × Contains logs before × Settles now before log
settled_were registrations now logs log has =
    let image = from_map (settled_one registrations now) logs log has in (
      image.of,
      image.stood,
      subst (Settles now image.of) (sym image.is)
          (settled_either (is_used registrations image.of.number) now image.of),
    )

pub one_left : (s : State) (now client : ℕ) → s.moment ≡ now → Left now s (left s client) (λ n. n ≡ client)
unfolding left left_in settled without_those_of
one_left s now client at = record {
  clients = λ other there. there_or_gone s client other there;
  registrations = λ registration has.
      owned_or_stays (λ (r : Registration). r.client) client s.streams.registrations registration has;
  counters = λ counter has. owned_or_stays (λ (c : Counter). c.client) client s.counters counter has;
  values = λ counter has. left_was_there (is_of_another client) s.counters counter has;
  logs = λ log has. rw (← at) (settled_logs _ s.moment s.streams.sources log has);
  were = λ log has. rw (← at) (settled_were _ s.moment s.streams.sources log has);
  moment = at;
}

left_both : {A B C : ℕ → Type 0} (now : ℕ) (s between after : State) → Left now s between A → Left now between after B →
    ((n : ℕ) → A n → C n) → ((n : ℕ) → B n → C n) → Left now s after C
left_both now s between after one two first last = record {
  clients = λ client there.
      ⊎_elim
      (λ stays. ⊎_elim (λ still. inl still) (λ goes. inr (last client goes)) (two.clients client stays))
      (λ goes. inr (first client goes))
      (one.clients client there);
  registrations = λ registration has.
      ⊎_elim
      (λ stays.
      ⊎_elim (λ still. inl still) (λ goes. inr (last registration.client goes)) (two.registrations registration stays))
      (λ goes. inr (first registration.client goes))
      (one.registrations registration has);
  counters = λ counter has.
      ⊎_elim
      (λ stays. ⊎_elim (λ still. inl still) (λ goes. inr (last counter.client goes)) (two.counters counter stays))
      (λ goes. inr (first counter.client goes))
      (one.counters counter has);
  values = λ counter has. one.values counter (two.values counter has);
  logs = λ log has.
      let there = one.logs log has in
      let end = two.logs there.0 there.1 in
      (end.0, end.1, settles_twice now log there.0 end.0 there.2 end.2);
  were = λ log has.
      let there = two.were log has in
      let start = one.were there.0 there.1 in
      (start.0, start.1, settles_twice now start.0 there.0 log start.2 there.2);
  moment = two.moment;
}

left_none : (s : State) (now : ℕ) → s.moment ≡ now → Left now s s (Contains [])
left_none s now at = record {
  clients = λ client there. inl there;
  registrations = λ registration has. inl has;
  counters = λ counter has. inl has;
  values = λ counter has. has;
  logs = λ log has. (log, has, inl refl);
  were = λ log has. (log, has, inl refl);
  moment = at;
}

pub each_left : (s : State) (now : ℕ) (clients : List ℕ) → s.moment ≡ now →
    Left now s (all_left s clients) (Contains clients)
each_left s now [] at = left_none s now at
each_left s now (client ∷ clients) at =
    let first = one_left s now client at in
    left_both now s (left s client) (all_left (left s client) clients) first
    (each_left (left s client) now clients first.moment)
    (λ n own. rw own (Contains-append_left (client ∷ []) clients client (Contains-push [] client)))
    (λ n later. Contains-append_right (client ∷ []) clients n later)

-- ---- how long a log lingers

-- a log that lingers from now on is not past its time, and to one that did before it makes no difference
alone_since : (linger now : ℕ) (since : Option ℕ) →
    is_past_since linger now (Some (unwrap_or since now)) ≡ is_past_since linger now since
alone_since linger now None = le-ltb linger (now - now) (omega arith)
alone_since linger now (Some since) = refl

left_since : (linger now : ℕ) (origin : Origin) →
    is_past_since linger now (lingering_by (left_by now origin)) ≡ is_past_since linger now (lingering_by origin)
left_since linger now (Published exclusive since) = alone_since linger now since
left_since linger now (Remote address initial_term join) = refl

pub past_settles : (now : ℕ) (before after : LogRow) → Settles now before after →
    is_past now after ≡ is_past now before
past_settles now before after settles =
    ⊎_elim
    (λ same. ap (is_past now) same)
    (λ alone. ap (is_past now) alone ∙ left_since before.measures.linger now before.origin)
    settles

pub place_settles : (now : ℕ) (before after : LogRow) → Settles now before after → place_of after ≡ place_of before
place_settles now before after settles = ⊎_elim (λ same. ap place_of same) (λ alone. ap place_of alone) settles

left_origin : (now : ℕ) (origin : Origin) → unlingering (left_by now origin) ≡ unlingering origin
left_origin now (Published exclusive since) = refl
left_origin now (Remote address initial_term join) = refl

pub same_but_alone : (now : ℕ) (log : LogRow) → IsSameLog (left_alone now log) log
same_but_alone now log = ap (λ (origin : Origin). record log { origin = origin }) (left_origin now log.origin)

pub same_but_since : (now : ℕ) (before after : LogRow) → Settles now before after → IsSameLog after before
same_but_since now before after settles =
    ⊎_elim (λ same. ap log_of same) (λ alone. ap log_of alone ∙ same_but_alone now before) settles

pub past_since : (linger now : ℕ) (since : Option ℕ) → is_past_since linger now since ≡ true →
    (moment : ℕ) × (since ≡ Some moment) × (linger < now - moment)
past_since linger now None past = absurd (cc past)
past_since linger now (Some moment) past = (moment, refl, ltb-true linger (now - moment) past)
