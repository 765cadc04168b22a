use Rattle.std.proofs.Common.{rules, ◌≡◌, ◌∙◌, Some, ap, sym}
use Rattle.log_steps.specs.Held.{HeldLog}
use Rattle.log_slots.proofs.MoveCounts.{rejoined_keeps}
use Rattle.log_slots.specs.Slots.{messages_in}
use Rattle.log_slots.proofs.log_slot.LogSlot.rejoin.Goals as goal
use Rattle.log_traffic.specs.Held.{messages_held}

pub returns-clause-messages : goal.returns-clause-messages
returns-clause-messages g c =
    let held : HeldLog = c.in-Some.log in
    let here : c.args.self.now.log ≡ Some held = search rules in
    ap (λ (h : HeldLog). messages_held h.log) c.rejoin.ensures.exact ∙ rejoined_keeps c.args.subscriptions.now held.log ∙ sym (ap messages_in here)
