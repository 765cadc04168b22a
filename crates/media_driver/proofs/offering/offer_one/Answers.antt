use Rattle.std.proofs.Common.{◌≡◌, ◌+◌, ◌⊎◌, true, is_some, inl, inr, ⊎_elim}
use Rattle.log_slots.specs.Counting.{taken_by}
use Rattle.media_driver.proofs.OfferLemmas.{of_some}
use Rattle.media_driver.proofs.RunLemmas.{held_offered, unseen_offered}
use Rattle.media_driver.proofs.offering.offer_one.Goals as goal

pub returns-in_default-clause-offered : goal.returns-in_default-clause-offered
returns-in_default-clause-offered g c attached same =
    unseen_offered g.N.Naming.home c.args.registration c.args.now c.args.message.now attached c.args.pass c.said_now-pass.result.0 c.args.mine.now.number (is_some c.args.ended.now)
    c.args.audit.now c.said_now-pass.ensures.known

pub returns-clause-offered : goal.returns-clause-offered
returns-clause-offered g c attached same =
    let look = c.said_now-pass.result.0 in
    let said = c.in-Some.said in
    let is = of_some _ c.said_now-pass.result.1 said c.in-Some.is c.said_now-pass.ensures.said in
    let told = c.offer-told.result in
    let before = c.args.mine.now.number in
    let after = c.offer-told.new.mine.number in
    let end = is_some c.offer-told.new.ended in
    let counts : (after ≡ before + taken_by told.answer) ⊎ ((after ≡ before) × (end ≡ true)) =
    ⊎_elim (λ more. inl more) (λ ends. ⊎_elim (λ passed. inl passed.0) (λ full. inr (full.1, ends)) c.offer-told.ensures.counted) c.offer-told.ensures.ended in
    rw c.tell.ensures
    (held_offered g.N.Naming.home c.args.client c.args.registration c.args.now c.args.message.now attached c.args.pass look before after (is_some c.args.ended.now) end
    c.args.audit.now said c.args.slot.now.kept c.offer-told.new.self.kept.log told c.position_of.result same c.said_now-pass.ensures.known is.0 is.1
    (record { own = c.holds.ensures.own; whole = c.holds.ensures.whole }) c.offer-told.ensures.moved c.offer-told.ensures.decides counts
    c.position_of.ensures.answer c.position_of.ensures.counted (c.position_of.ensures.seen _ _))
