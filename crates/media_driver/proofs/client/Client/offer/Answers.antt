use Rattle.std.proofs.Common.{refl}
use Rattle.media_driver.proofs.RunLemmas.{one_refused, one_taken}
use Rattle.media_driver.proofs.client.Client.offer.Goals as goal

pub returns-in-Ok-clause-known : goal.returns-in-Ok-clause-known
returns-in-Ok-clause-known g c =
    let came = one_taken _ _ (λ s p t goes. rw goes.0 refl) g.N.Naming.home c.args.registration c.args.message.now _ _ _ _ c.args.self.now c.offer_many.new.self refl c.in-Ok.is c.offer_many.ensures in came.2.known

pub returns-in-Ok-clause-moment : goal.returns-in-Ok-clause-moment
returns-in-Ok-clause-moment g c =
    let came = one_taken _ _ (λ s p t goes. rw goes.0 refl) g.N.Naming.home c.args.registration c.args.message.now _ _ _ _ c.args.self.now c.offer_many.new.self refl c.in-Ok.is c.offer_many.ensures in came.2.moment

pub returns-in-Ok-clause-same : goal.returns-in-Ok-clause-same
returns-in-Ok-clause-same g c =
    let came = one_taken _ _ (λ s p t goes. rw goes.0 refl) g.N.Naming.home c.args.registration c.args.message.now _ _ _ _ c.args.self.now c.offer_many.new.self refl c.in-Ok.is c.offer_many.ensures in came.2.new_is

pub returns-in-Ok-clause-counted : goal.returns-in-Ok-clause-counted
returns-in-Ok-clause-counted g c =
    let came = one_taken _ _ (λ s p t goes. rw goes.0 refl) g.N.Naming.home c.args.registration c.args.message.now _ _ _ _ c.args.self.now c.offer_many.new.self refl c.in-Ok.is c.offer_many.ensures in came.2.counted

pub returns-in-Ok-clause-step : goal.returns-in-Ok-clause-step
returns-in-Ok-clause-step g c =
    let came = one_taken _ _ (λ s p t goes. rw goes.0 refl) g.N.Naming.home c.args.registration c.args.message.now _ _ _ _ c.args.self.now c.offer_many.new.self refl c.in-Ok.is c.offer_many.ensures in rw came.1.1 came.2.step

pub returns-in-Ok-clause-audit : goal.returns-in-Ok-clause-audit
returns-in-Ok-clause-audit g c =
    let came = one_taken _ _ (λ s p t goes. rw goes.0 refl) g.N.Naming.home c.args.registration c.args.message.now _ _ _ _ c.args.self.now c.offer_many.new.self refl c.in-Ok.is c.offer_many.ensures in rw came.1.1 came.2.audit

pub returns-in-Err-clause-known : goal.returns-in-Err-clause-known
returns-in-Err-clause-known g c =
    let offered = one_refused _ _ (λ s p t goes. rw goes.0 refl) g.N.Naming.home c.args.registration c.args.message.now _ _ _ _ c.args.self.now c.offer_many.new.self refl c.in-Err.is c.offer_many.ensures in offered.known

pub returns-in-Err-clause-moment : goal.returns-in-Err-clause-moment
returns-in-Err-clause-moment g c =
    let offered = one_refused _ _ (λ s p t goes. rw goes.0 refl) g.N.Naming.home c.args.registration c.args.message.now _ _ _ _ c.args.self.now c.offer_many.new.self refl c.in-Err.is c.offer_many.ensures in offered.moment

pub returns-in-Err-clause-same : goal.returns-in-Err-clause-same
returns-in-Err-clause-same g c =
    let offered = one_refused _ _ (λ s p t goes. rw goes.0 refl) g.N.Naming.home c.args.registration c.args.message.now _ _ _ _ c.args.self.now c.offer_many.new.self refl c.in-Err.is c.offer_many.ensures in offered.new_is

pub returns-in-Err-clause-counted : goal.returns-in-Err-clause-counted
returns-in-Err-clause-counted g c =
    let offered = one_refused _ _ (λ s p t goes. rw goes.0 refl) g.N.Naming.home c.args.registration c.args.message.now _ _ _ _ c.args.self.now c.offer_many.new.self refl c.in-Err.is c.offer_many.ensures in offered.counted

pub returns-in-Err-clause-step : goal.returns-in-Err-clause-step
returns-in-Err-clause-step g c =
    let offered = one_refused _ _ (λ s p t goes. rw goes.0 refl) g.N.Naming.home c.args.registration c.args.message.now _ _ _ _ c.args.self.now c.offer_many.new.self refl c.in-Err.is c.offer_many.ensures in offered.step

pub returns-in-Err-clause-audit : goal.returns-in-Err-clause-audit
returns-in-Err-clause-audit g c =
    let offered = one_refused _ _ (λ s p t goes. rw goes.0 refl) g.N.Naming.home c.args.registration c.args.message.now _ _ _ _ c.args.self.now c.offer_many.new.self refl c.in-Err.is c.offer_many.ensures in offered.audit

pub returns-in-Err-clause-unseen : goal.returns-in-Err-clause-unseen
returns-in-Err-clause-unseen g c =
    let offered = one_refused _ _ (λ s p t goes. rw goes.0 refl) g.N.Naming.home c.args.registration c.args.message.now _ _ _ _ c.args.self.now c.offer_many.new.self refl c.in-Err.is c.offer_many.ensures in offered.unseen
