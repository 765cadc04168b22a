-- Verdicts on offers and polls that a cache holds. Whatever policies came before, an entry under the number of the policy
-- in force has that policy's verdict, as of the entry's moment, on the row of its number.
use Rattle.std.specs.Prelude.{◌≡◌, ℕ, ◌≤◌, List, Contains}
use Rattle.decision_cache.specs.declared.key.Key.{Key}
use Rattle.driver_core.specs.State.{State}
use Rattle.policy_core.specs.declared.act.Act.TheVariants.{Offer, Receive}
use Rattle.policy_core.specs.declared.verdict.Verdict.{Verdict}
use Rattle.policy_core.specs.Moments.{at}
use Rattle.policy_core.specs.Question.{Question}
use Rattle.policy_core.specs.Rules.{verdict_of}
use Rattle.stream_registry.specs.declared.row.LogRow.{LogRow}
use Rattle.stream_registry.specs.declared.row.Registration.{Registration}
use Rattle.stream_registry.specs.declared.row.Subscription.{Subscription}

-- what the policy is asked of a principal's offer by the registration, whose log that is
abbrev pub offer_question : ℕ → Registration → LogRow → Question
offer_question principal registration log =
    record { principal = principal; act = Offer; channel = registration.channel; stream = log.stream }

-- what it is asked of a principal's poll by the subscription
abbrev pub poll_question : ℕ → Subscription → Question
poll_question principal subscription =
    record { principal = principal; act = Receive; channel = subscription.channel; stream = subscription.stream }

-- An entry by numbers that were drawn: no row and no policy to come has them. One under the number of the policy in force
-- has that policy's verdict, as of the entry's moment, on the row of its number, if there is one.
pub record IsCached (s : State) (entry : Key × Verdict) : Type 0 where
  pub epoch : entry.0.epoch ≤ s.epoch
  pub subject : entry.0.subject ≤ s.last_number
  pub source :
      (registration : Registration) → Contains s.streams.registrations registration →
      registration.number ≡ entry.0.subject → entry.0.act ≡ Offer → registration.source ≤ s.last_number
  pub offer :
      (registration : Registration) (log : LogRow) → Contains s.streams.registrations registration →
      Contains s.streams.sources log → registration.number ≡ entry.0.subject →
      log.number ≡ registration.source → entry.0.epoch ≡ s.epoch → entry.0.act ≡ Offer →
      entry.1 ≡ verdict_of (at s.given entry.0.moment) s.epoch (offer_question entry.0.principal registration log)
  pub poll :
      (subscription : Subscription) → Contains s.streams.subscriptions subscription →
      subscription.number ≡ entry.0.subject → entry.0.epoch ≡ s.epoch → entry.0.act ≡ Receive →
      entry.1 ≡ verdict_of (at s.given entry.0.moment) s.epoch (poll_question entry.0.principal subscription)

-- each entry is so
pub record AreCached (s : State) (entries : List (Key × Verdict)) : Type 0 where
  pub each : (entry : Key × Verdict) → Contains entries entry → IsCached s entry
