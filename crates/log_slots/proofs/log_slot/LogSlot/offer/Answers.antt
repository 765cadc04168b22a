use Rattle.std.proofs.Common.{rules, ◌≡◌, Some, ap, arith}
use Rattle.log_steps.specs.Held.{HeldLog}
use Rattle.log_slots.proofs.MoveCounts.{held_takes}
use Rattle.log_slots.specs.Slots.{messages_in}
use Rattle.log_slots.proofs.log_slot.LogSlot.offer.Goals as goal

pub returns-clause-messages : goal.returns-clause-messages
returns-clause-messages g c =
    let held : HeldLog = c.in-Some.log in
    let here : c.args.self.now.log ≡ Some held = search rules in
    let was = ap messages_in here in
    let takes = held_takes c.args.timeout c.args.request.now c.args.now c.args.message.now held c.offer_step.new.log c.offer_step.result.answer c.offer_step.ensures.does c.has_whole.ensures.whole in
    omega (arith, was, takes)
