-- Verdicts that were cached stay right behind each event, and one that is decided joins them.
use Rattle.std.proofs.Common.{◌≡◌, ℕ, ◌<◌, ◌≤◌, Bool, true, false, cond, List, [], ◌∷◌, find, Some, ◌⊎◌, ⊎_elim, refl, sym, subst, ap, ◌∙◌, arith}
use Rattle.std.specs.Prelude.{Contains}
use Rattle.std.proofs.lemmas.Bool.{eqb-true}
use Rattle.std.proofs.lemmas.List.Elements.{All-contains, Contains-append_cases, Contains-append_left, Contains-append_right, Contains-push}
use Rattle.decision_cache.specs.declared.key.Key.{Key}
use Rattle.decision_cache.specs.Entries.{AddsAtMost, IsSoundAt, key_of}
use Rattle.driver_core.specs.Cached.{AreCached, IsCached, offer_question, poll_question}
use Rattle.driver_core.specs.Conduct.{state_after}
use Rattle.driver_core.specs.declared.state.event.Event.{Event}
use Rattle.driver_core.specs.declared.state.event.Inputs.{Inputs}
use Rattle.driver_core.specs.Renewal.{source_at}
use Rattle.driver_core.specs.State.{State}
use Rattle.log_readers.specs.Numbering.{Rises, number_of as subscribed_as, registered_as, source_of}
use Rattle.log_readers.proofs.RisingLemmas.{all_above, all_below}
use Rattle.policy_core.specs.declared.act.Act.TheVariants.{Offer}
use Rattle.policy_core.specs.declared.verdict.Verdict.{Verdict}
use Rattle.policy_core.specs.Moments.{at}
use Rattle.policy_core.specs.Question.{Question}
use Rattle.policy_core.specs.Rules.{verdict_of}
use Rattle.stream_registry.specs.declared.row.LogRow.{LogRow}
use Rattle.stream_registry.specs.declared.row.Registration.{Registration}
use Rattle.stream_registry.specs.declared.row.Subscription.{Subscription}
use Rattle.driver_core.proofs.ListLemmas.{contains_none, only_one}
use Rattle.driver_core.proofs.StayLemmas.{Stays, WasLog, event_stays}

-- a row of a number that was drawn was there
was_there : (Was : Type 0) (last number : ℕ) → number ≤ last → Was ⊎ (last < number) → Was
was_there Was last number drawn from = ⊎_elim (λ was. was) (λ new. absurd (omega (arith, drawn, new))) from

-- under the number of the policy in force it is the same policy
same_policy : (s after : State) (epoch moment : ℕ) (verdict : Verdict) (question : Question) → Stays s after → epoch ≤ s.epoch →
    epoch ≡ after.epoch → (epoch ≡ s.epoch → verdict ≡ verdict_of (at s.given moment) s.epoch question) →
    verdict ≡ verdict_of (at after.given moment) after.epoch question
same_policy s after epoch moment verdict question stays known now by =
    ⊎_elim
    (λ (same : (after.given ≡ s.given) × (after.epoch ≡ s.epoch)).
    rw (same.0, same.1) (by (now ∙ same.1)))
    (λ newer. absurd (omega (arith, known, now, newer)))
    stays.policy

one_stays : (s after : State) (entry : Key × Verdict) → Stays s after → IsCached s entry → IsCached after entry
one_stays s after entry stays cached =
    let drawn = cached.subject in
    let known = cached.epoch in
    let last = stays.last in
    let registered : (row : Registration) → Contains after.streams.registrations row → row.number ≡ entry.0.subject →
    Contains s.streams.registrations row =
    λ row has number.
    was_there _ s.last_number row.number (omega (arith, drawn, number)) (stays.registrations row has) in
    record {
      epoch = ⊎_elim
          (λ (same : (after.given ≡ s.given) × (after.epoch ≡ s.epoch)). let epoch = same.1 in omega (arith, known, epoch))
          (λ newer. omega (arith, known, newer))
          stays.policy;
      subject = omega (arith, drawn, last);
      source = λ row has number act.
          let below = cached.source row (registered row has number) number act in
          omega (arith, below, last);
      offer = λ row log has stands number source epoch act.
          let there = registered row has number in
          let below = cached.source row there number act in
          let was : WasLog s.streams.sources log =
          was_there _ s.last_number log.number (omega (arith, below, source)) (stays.logs log stands) in
          same_policy s after entry.0.epoch entry.0.moment entry.1 (offer_question entry.0.principal row log) stays known epoch
          (λ now.
          cached.offer row was.before there was.stood number (was.source_is ∙ source) now act
          ∙ ap (λ stream.
          verdict_of (at s.given entry.0.moment) s.epoch
          (record { principal = entry.0.principal; act = Offer; channel = row.channel; stream = stream })) was.stream_is);
      poll = λ row has number epoch act.
          let there : Contains s.streams.subscriptions row =
          was_there _ s.last_number row.number (omega (arith, drawn, number)) (stays.subscriptions row has) in
          same_policy s after entry.0.epoch entry.0.moment entry.1 (poll_question entry.0.principal row) stays known epoch
          (λ now. cached.poll row there number now act);
    }

all_stay : (s after : State) (entries : List (Key × Verdict)) → Stays s after → AreCached s entries →
    AreCached after entries
all_stay s after entries stays cached = record {
  each = λ entry has. one_stays s after entry stays (cached.each entry has);
}

pub cached_after : (s : State) (event : Event) (inputs : Inputs) (entries : List (Key × Verdict)) → AreCached s entries →
    AreCached (state_after s event inputs) entries
cached_after s event inputs entries = all_stay s (state_after s event inputs) entries (event_stays s event inputs)

pub cached_none : (s : State) → AreCached s []
cached_none s = record { each = λ entry has. absurd (contains_none entry has) }

-- ---- where numbers rise, each row has its own

above : {A : Type 0} (number_of : A → ℕ) (low last : ℕ) (rows : List A) (row : A) → Rises number_of low last rows →
    Contains rows row → low < number_of row
above number_of low last rows row up has =
    All-contains (λ one. low < number_of one) rows row (all_above number_of low last rows up) has

below : {A : Type 0} (number_of : A → ℕ) (low last : ℕ) (rows : List A) (row : A) → Rises number_of low last rows →
    Contains rows row → number_of row ≤ last
below number_of low last rows row up has =
    All-contains (λ one. number_of one ≤ last) rows row (all_below number_of low last rows up) has

unique : {A : Type 0} (number_of : A → ℕ) (low last : ℕ) (rows : List A) (row other : A) →
    Rises number_of low last rows → Contains rows row → Contains rows other → number_of row ≡ number_of other →
    row ≡ other
unique number_of low last [] row other up has stands same = absurd (contains_none row has)
unique number_of low last (first ∷ rows) row other up has stands same =
    ⊎_elim
    (λ here.
    let is : first ≡ row = only_one first row here in
    let number = ap number_of is in
    ⊎_elim
    (λ there. sym is ∙ only_one first other there)
    (λ later.
    let high = above number_of (number_of first) last rows other up.1 later in
    absurd (omega (arith, number, high, same)))
    (Contains-append_cases (first ∷ []) rows other stands))
    (λ later.
    ⊎_elim
    (λ there.
    let number = ap number_of (only_one first other there) in
    let high = above number_of (number_of first) last rows row up.1 later in
    absurd (omega (arith, number, high, same)))
    (λ rest. unique number_of (number_of first) last rows row other up.1 later rest same)
    (Contains-append_cases (first ∷ []) rows other stands))
    (Contains-append_cases (first ∷ []) rows row has)

-- ---- a verdict that is decided

pub offer_cached : (s : State) (moment principal : ℕ) (registration : Registration) (log : LogRow) →
    Rises source_of 0 s.last_number s.streams.sources →
    Rises registered_as 0 s.last_number s.streams.registrations →
    Contains s.streams.registrations registration → Contains s.streams.sources log → log.number ≡ registration.source →
    IsCached s (
      key_of s.epoch moment registration.number (offer_question principal registration log),
      verdict_of (at s.given moment) s.epoch (offer_question principal registration log),
    )
offer_cached s moment principal registration log sources registered has stands with =
    let last = s.last_number in
    let own : (row : Registration) → Contains s.streams.registrations row → row.number ≡ registration.number →
    registration ≡ row =
    λ row there number. unique registered_as 0 last s.streams.registrations registration row registered has there (sym number) in
    record {
      epoch = omega arith;
      subject = below registered_as 0 last s.streams.registrations registration registered has;
      source = λ row there number act.
          let is = ap (λ (r : Registration). r.source) (own row there number) in
          let low = below source_of 0 last s.streams.sources log sources stands in
          omega (arith, is, low, with);
      offer = λ row other there live number source epoch act.
          let is : registration ≡ row = own row there number in
          let from : log.number ≡ other.number = with ∙ ap (λ (r : Registration). r.source) is ∙ sym source in
          let same : log ≡ other = unique source_of 0 last s.streams.sources log other sources stands live from in
          ap (λ (r : Registration). verdict_of (at s.given moment) s.epoch (offer_question principal r log)) is
          ∙ ap (λ (l : LogRow). verdict_of (at s.given moment) s.epoch (offer_question principal row l)) same;
      poll = λ row there number epoch act. absurd (cc act);
    }

pub poll_cached : (s : State) (moment principal : ℕ) (subscription : Subscription) →
    Rises subscribed_as 0 s.last_number s.streams.subscriptions → Contains s.streams.subscriptions subscription →
    IsCached s (
      key_of s.epoch moment subscription.number (poll_question principal subscription),
      verdict_of (at s.given moment) s.epoch (poll_question principal subscription),
    )
poll_cached s moment principal subscription numbers has =
    let last = s.last_number in
    record {
      epoch = omega arith;
      subject = below subscribed_as 0 last s.streams.subscriptions subscription numbers has;
      source = λ row there number act. absurd (cc act);
      offer = λ row other there live number source epoch act. absurd (cc act);
      poll = λ row there number epoch act.
          ap (λ (r : Subscription). verdict_of (at s.given moment) s.epoch (poll_question principal r))
          (unique subscribed_as 0 last s.streams.subscriptions subscription row numbers has there (sym number));
    }

pub cached_more : (s : State) (old new : List (Key × Verdict)) (entry : Key × Verdict) → AreCached s old →
    AddsAtMost old new entry.0 entry.1 → IsCached s entry → AreCached s new
cached_more s old new entry cached adds one = record {
  each = λ other has.
      ⊎_elim (λ was. cached.each other was) (λ is. subst (IsCached s) (sym is) one) (adds other has);
}

-- ---- a row that is found

pub record IsFound {X : Type 0} (test : X → Bool) (xs : List X) (x : X) : Type 0 where
  pub stands : Contains xs x
  pub passes : test x ≡ true

found_first : {X : Type 0} (test : X → Bool) (y x : X) (ys : List X) (b : Bool) → test y ≡ b →
    (find test ys ≡ Some x → IsFound test ys x) → cond b (Some y) (find test ys) ≡ Some x → IsFound test (y ∷ ys) x
found_first test y x ys true passes later found =
    let same : y ≡ x = cc found in
    record {
      stands = subst (Contains (y ∷ ys)) same (Contains-append_left (y ∷ []) ys y (Contains-push [] y));
      passes = subst (λ z. test z ≡ true) same passes;
    }
found_first test y x ys false passes later found =
    let rest = later found in
    record { stands = Contains-append_right (y ∷ []) ys x rest.stands; passes = rest.passes }

pub found_in : {X : Type 0} (test : X → Bool) (xs : List X) (x : X) → find test xs ≡ Some x → IsFound test xs x
found_in test [] x found = absurd (cc found)
found_in test (y ∷ ys) x found = found_first test y x ys (test y) refl (found_in test ys x) found

pub found_log : (logs : List LogRow) (source : ℕ) (log : LogRow) → source_at logs source ≡ Some log →
    Contains logs log × (log.number ≡ source)
found_log logs source log found =
    let is = found_in _ logs log found in
    (is.stands, eqb-true log.number source is.passes)

-- ---- what the policy in force is asked by the cache

pub offer_sound : (s : State) (entries : List (Key × Verdict)) (moment principal : ℕ) (registration : Registration)
    (log : LogRow) → AreCached s entries → Contains s.streams.registrations registration →
    Contains s.streams.sources log → log.number ≡ registration.source →
    IsSoundAt entries s.given s.epoch moment registration.number (offer_question principal registration log)
offer_sound s entries moment principal registration log cached has stands with = λ verdict there.
    (cached.each (key_of s.epoch moment registration.number (offer_question principal registration log), verdict) there).offer
    registration log has stands refl with refl refl

pub poll_sound : (s : State) (entries : List (Key × Verdict)) (moment principal : ℕ) (subscription : Subscription) →
    AreCached s entries → Contains s.streams.subscriptions subscription →
    IsSoundAt entries s.given s.epoch moment subscription.number (poll_question principal subscription)
poll_sound s entries moment principal subscription cached has = λ verdict there.
    (cached.each (key_of s.epoch moment subscription.number (poll_question principal subscription), verdict) there).poll
    subscription has refl refl refl
