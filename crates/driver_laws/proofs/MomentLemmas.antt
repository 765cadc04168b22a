-- What moments take and give, and what they never do.
use Rattle.std.proofs.Common.{◌≡◌, ℕ, ◌≤◌, ◌==◌, max, not, Bool, true, false, Some, length, refl, sym, subst, ap, ◌∙◌, ⊎_elim, arith}
use Rattle.std.specs.List.{Contains, list_any}
use Rattle.std.proofs.Math.Nat.{le-max_left}
use Rattle.std.proofs.lemmas.Bool.{and_parts, cases_Bool, eq-eqb, eqb-true, not-true}
use Rattle.driver_core.specs.Change.{Change}
use Rattle.driver_core.specs.declared.state.event.Event.{Event}
use Rattle.driver_core.specs.declared.state.event.Event.TheVariants.{Tick}
use Rattle.driver_core.specs.declared.state.event.Inputs.{Inputs}
use Rattle.driver_core.specs.declared.state.outcome.Response.TheVariants.{Nothing}
use Rattle.driver_core.specs.Conduct.{coming_to, conduct, drafted, moment_told, outcome_of, state_after}
use Rattle.driver_core.specs.Looking.{IsAtItsMoment}
use Rattle.driver_core.specs.Pairs.{is_lacked_by, is_same_pair, lacking, pairs_of, prospects_of}
use Rattle.driver_core.specs.Renewal.{renewed}
use Rattle.driver_core.specs.State.{State, opened, ruled}
use Rattle.driver_core.specs.Ticking.{tick, ticked}
use Rattle.driver_core.specs.Unread.{dropping}
use Rattle.driver_core.specs.Verdicts.{verdict_on}
use Rattle.driver_laws.specs.ImageLaws.{IsOfReader, IsReadBy}
use Rattle.driver_laws.specs.MomentLaws.{AreTaken, IsNeverFull, MomentsTakeAndGiveExactly, PoliciesStandAtTheirMoment, RefusesImage, RegistriesStayBetweenBounds, StaysBetweenBounds, TakesAndGives, TicksAreNeverFull}
use Rattle.driver_laws.specs.NumberLaws.{AreRising}
use Rattle.driver_laws.specs.OwnerLaws.{HaveTheirClients}
use Rattle.driver_laws.specs.Turning.{TurnsTo}
use Rattle.client_registry.specs.Clients.{principal_at}
use Rattle.policy_core.proofs.Bounds.{steady, steady_coming}
use Rattle.stream_registry.specs.declared.pairs.Pair.{Pair}
use Rattle.stream_registry.specs.declared.row.LogRow.{LogRow}
use Rattle.stream_registry.specs.declared.row.Subscription.{Subscription}
use Rattle.stream_registry.specs.Pairs.{image_question, pair_of}
use Rattle.driver_core.proofs.ListLemmas.{left_was_there, passes_are_left}
use Rattle.driver_core.proofs.MomentLemmas.{opened_timely, run_timely}
use Rattle.driver_core.proofs.RuledLemmas.{ruled_so}
use Rattle.driver_core.proofs.VerdictLemmas.{by_policy}
use Rattle.driver_laws.proofs.DroppingLemmas.{Found, found_of, is_any, passes_test}
use Rattle.driver_laws.proofs.ImageLemmas.{has_pair, has_reader}
use Rattle.driver_laws.proofs.LimitLemmas.{IsWithin, all_within, event_within}
use Rattle.driver_laws.proofs.NumberLemmas.{numbers_rise}
use Rattle.driver_laws.proofs.PairCountLemmas.{pairs_are_prospects, prospects_ruled}
use Rattle.driver_laws.proofs.RisingLemmas.{rises_unique}
use Rattle.driver_laws.proofs.TurningLemmas.{rising_at}

-- ---- which policy it is

pub policies_stand : PoliciesStandAtTheirMoment
policies_stand settings policy peers events =
    run_timely (opened settings policy peers) events (opened_timely settings policy peers)

stays_so : (s : State) → IsAtItsMoment s → StaysBetweenBounds s
stays_so s timely event before =
    let later : ℕ = max s.moment (moment_told event) in
    let up : s.moment ≤ later = le-max_left s.moment (moment_told event) in
    ruled_so s (moment_told event) later refl (steady s.given s.moment later up before ∙ sym timely.0)
    (steady_coming s.given s.moment later up before ∙ sym timely.1)

pub stays_between : RegistriesStayBetweenBounds
stays_between settings policy peers events = stays_so _ (policies_stand settings policy peers events)

-- ---- what it takes

same_itself : (pair : Pair) → is_same_pair pair pair ≡ true
same_itself pair = rw (eq-eqb pair.source pair.source refl, eq-eqb pair.subscription pair.subscription refl) refl

-- what stands in the one registry stands in the other
record StandsIn (from to : State) : Type 0 where
  logs : (log : LogRow) → Contains from.streams.sources log → Contains to.streams.sources log
  rows : (row : Subscription) → Contains from.streams.subscriptions row → Contains to.streams.subscriptions row

-- a pair that the other lacks is one that its policy refuses
lacked_is_refused : (from to : State) (log : LogRow) (subscription : Subscription) → StandsIn from to →
    IsReadBy from log subscription → is_lacked_by (pairs_of to) (pair_of log subscription) ≡ true →
    RefusesImage to subscription
lacked_is_refused from to log subscription stand reads lacks principal attached =
    ⊎_elim
    (λ allows.
    let there : Contains (pairs_of to) (pair_of log subscription) =
    has_pair to log subscription (record {
      principal = principal;
      is_live = stand.logs log reads.is_live;
      stands = stand.rows subscription reads.stands;
      fitting = reads.fitting;
      attached = attached;
      by = by_policy to (image_question principal subscription);
      allowed = allows;
    }) in
    let any : list_any (is_same_pair (pair_of log subscription)) (pairs_of to) ≡ true =
    is_any (is_same_pair (pair_of log subscription)) (pairs_of to) (pair_of log subscription) there
    (same_itself (pair_of log subscription)) in
    let never : false ≡ true =
    sym (not-true (list_any (is_same_pair (pair_of log subscription)) (pairs_of to)) lacks) ∙ any in
    absurd (cc never))
    (λ denies. denies)
    (cases_Bool (verdict_on to (image_question principal subscription)).allow)

-- and no pair of a subscription that its policy refuses is there
refused_is_lacked : (from to : State) (log : LogRow) (subscription : Subscription) → AreRising to → StandsIn from to →
    IsReadBy from log subscription → RefusesImage to subscription →
    list_any (is_same_pair (pair_of log subscription)) (pairs_of to) ≡ true → ⊥
refused_is_lacked from to log subscription rises stand reads refused any =
    let same : Pair → Bool = is_same_pair (pair_of log subscription) in
    let found : Found same (pairs_of to) = found_of same (pairs_of to) any in
    let reader : IsOfReader to found.one = has_reader to found.one found.there in
    let parts = and_parts (log.number == found.one.source) (subscription.number == found.one.subscription) found.passes in
    let number : subscription.number ≡ reader.subscription.number =
    eqb-true subscription.number found.one.subscription parts.1 ∙ ap (λ (p : Pair). p.subscription) reader.pair_is in
    let one : subscription ≡ reader.subscription =
    rises_unique (λ (row : Subscription). row.number) 0 to.last_number to.streams.subscriptions subscription
    reader.subscription rises.subscriptions (stand.rows subscription reads.stands) reader.reads.stands number in
    let principal : ℕ = reader.reads.principal in
    let denied : (verdict_on to (image_question principal subscription)).allow ≡ false =
    refused principal
    (subst (λ (row : Subscription). principal_at to.clients.rows row.client ≡ Some principal) (sym one)
    reader.reads.attached) in
    let allowed : (verdict_on to (image_question principal subscription)).allow ≡ true =
    subst (λ (row : Subscription). (verdict_on to (image_question principal row)).allow ≡ true) (sym one)
    reader.reads.allowed in
    let never : false ≡ true = sym denied ∙ allowed in
    absurd (cc never)

are_taken : (from to : State) → AreRising to → StandsIn from to → AreTaken from to (lacking (pairs_of from) (pairs_of to))
are_taken from to rises stand = record {
  only = λ pair has.
      let reader : IsOfReader from pair =
      has_reader from pair (left_was_there (is_lacked_by (pairs_of to)) (pairs_of from) pair has) in
      let lacks : is_lacked_by (pairs_of to) pair ≡ true =
      passes_test (is_lacked_by (pairs_of to)) (pairs_of from) pair has in
      record {
        log = reader.log;
        subscription = reader.subscription;
        pair_is = reader.pair_is;
        reads = reader.reads;
        refused = lacked_is_refused from to reader.log reader.subscription stand reader.reads
            (subst (λ (p : Pair). is_lacked_by (pairs_of to) p ≡ true) reader.pair_is lacks);
      };
  exactly = λ log subscription reads refused.
      passes_are_left (is_lacked_by (pairs_of to)) (pairs_of from) (pair_of log subscription)
      (⊎_elim
      (λ any. absurd (refused_is_lacked from to log subscription rises stand reads refused any))
      (λ none. ap not none)
      (cases_Bool (list_any (is_same_pair (pair_of log subscription)) (pairs_of to))))
      (has_pair from log subscription reads);
}

-- the registry to which an event comes has the rows of the one before
stands_at : (s : State) (now : ℕ) → StandsIn s (ruled s now)
unfolding ruled
stands_at s now = record { logs = λ log has. has; rows = λ row has. has }

stood_at : (s : State) (now : ℕ) → StandsIn (ruled s now) s
unfolding ruled
stood_at s now = record { logs = λ log has. has; rows = λ row has. has }

epoch_at : (s : State) (now : ℕ) → (ruled s now).epoch ≡ s.epoch
unfolding ruled
epoch_at s now = refl

takes : (s : State) → AreRising s → (event : Event) (change : Change) → TurnsTo s (coming_to s event) change →
    TakesAndGives s (coming_to s event) change
takes s rises event change turns =
    let now : ℕ = moment_told event in
    record {
      gone = subst (AreTaken s (coming_to s event)) (sym turns.gone)
          (are_taken s (coming_to s event) (rising_at s now rises) (stands_at s now));
      come = subst (AreTaken (coming_to s event) s) (sym turns.come)
          (are_taken (coming_to s event) s rises (stood_at s now));
      epoch = epoch_at s now;
    }

pub moments_take : MomentsTakeAndGiveExactly
moments_take settings policy peers events event change turns =
    takes _ (numbers_rise settings policy peers events) event change turns

-- ---- what it never does

tick_answers : (s : State) (now : ℕ) (inputs : Inputs) → (outcome_of s (Tick now) inputs).response ≡ Nothing
unfolding conduct renewed dropping drafted tick ticked
tick_answers s now inputs = refl

few_brought : (s : State) → length (prospects_of s) ≤ 4096 → length (pairs_of s) ≤ 4096
few_brought s few =
    let fewer = pairs_are_prospects s in
    omega (arith, few, fewer)

never_full : (s : State) → IsAtItsMoment s → HaveTheirClients s → IsWithin s → (now : ℕ) (inputs : Inputs) →
    IsNeverFull s now inputs
never_full s timely owned within now inputs =
    let few = within.prospects in
    let no_more = prospects_ruled s now timely in
    let later : length (prospects_of (ruled s now)) ≤ 4096 = omega (arith, few, no_more) in
    record {
      response = tick_answers s now inputs;
      pairs = few_brought (state_after s (Tick now) inputs)
          (event_within s (Tick now) inputs timely owned within).prospects;
      brought = few_brought (ruled s now) later;
      later = later;
    }

pub ticks_full : TicksAreNeverFull
ticks_full settings policy peers events now inputs =
    let all = all_within settings policy peers events in
    never_full _ all.0 all.1.0 all.1.1 now inputs
