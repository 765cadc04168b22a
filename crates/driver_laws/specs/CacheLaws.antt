-- Over every list of events: until when a verdict that is kept is right.
use Rattle.std.specs.Prelude.{◌≡◌, ◌≤◌, true, List, Contains}
use Rattle.decision_cache.specs.declared.key.Key.{Key}
use Rattle.driver_core.specs.Cached.{AreCached}
use Rattle.driver_core.specs.State.{State}
use Rattle.driver_core.specs.Verdicts.{verdict_on}
use Rattle.driver_laws.specs.Acts.{asked, offer, poll}
use Rattle.driver_laws.specs.Events.{AfterAnyEvents}
use Rattle.client_registry.specs.declared.client.Client.{Client}
use Rattle.policy_core.specs.declared.act.Act.TheVariants.{Offer, Receive}
use Rattle.policy_core.specs.declared.verdict.Verdict.{Verdict}
use Rattle.policy_core.specs.MomentLaws.{is_before}
use Rattle.policy_core.specs.Moments.{steady_until}
use Rattle.stream_registry.specs.declared.row.Registration.{Registration}
use Rattle.stream_registry.specs.declared.row.LogRow.{LogRow}
use Rattle.stream_registry.specs.declared.row.Subscription.{Subscription}

-- it was kept under the policy in force, at a moment from which on no rule of that began or ended up to the registry's
pub record IsStillSteady (s : State) (key : Key) : Type 0 where
  pub epoch : key.epoch ≡ s.epoch
  pub past : key.moment ≤ s.moment
  pub steady : is_before s.moment (steady_until s.given key.moment) ≡ true

-- it is the verdict that the policy has now, on an offer by the registration of its number, or on a poll by the subscription
pub record IsStillRight (s : State) (entry : Key × Verdict) : Type 0 where
  pub offered :
      (client : Client) (registration : Registration) (log : LogRow) → client.principal ≡ entry.0.principal →
      Contains s.streams.registrations registration → Contains s.streams.sources log →
      registration.number ≡ entry.0.subject → log.number ≡ registration.source → entry.0.act ≡ Offer →
      entry.1 ≡ verdict_on s (asked (offer client registration log))
  pub polled :
      (client : Client) (subscription : Subscription) → client.principal ≡ entry.0.principal →
      Contains s.streams.subscriptions subscription → subscription.number ≡ entry.0.subject → entry.0.act ≡ Receive →
      entry.1 ≡ verdict_on s (asked (poll client subscription))

abbrev pub CachedVerdictsAreRightUntilTheNextBound : Type 0
CachedVerdictsAreRightUntilTheNextBound =
    AfterAnyEvents (λ s.
    (entries : List (Key × Verdict)) (entry : Key × Verdict) → AreCached s entries → Contains entries entry →
    IsStillSteady s entry.0 → IsStillRight s entry)
