use Rattle.std.proofs.Common.{rules, ◌≡◌, ◌∙◌, Some, ap, sym}
use Rattle.log_steps.specs.declared.answer.Answer.{Answer}
use Rattle.log_steps.specs.declared.answer.Answer.TheVariants.{Gone}
use Rattle.log_steps.specs.Held.{HeldLog}
use Rattle.log_steps.specs.Moves.{Does, for_source}
use Rattle.log_steps.specs.Sending.{send_move}
use Rattle.log_slots.proofs.MoveCounts.{gated_keeps, held_keeps, send_keeps}
use Rattle.log_slots.proofs.SlotLemmas.{either_way}
use Rattle.log_slots.specs.Slots.{messages_in}
use Rattle.log_slots.proofs.log_slot.LogSlot.send.Goals as goal
use Rattle.log_traffic.specs.Held.{messages_held}

pub returns-clause-messages : goal.returns-clause-messages
returns-clause-messages g c =
    let held : HeldLog = c.in-Some.log in
    let after : HeldLog = c.send_step.new.log in
    let move = for_source c.args.source (send_move (g.V.View.shows c.args.view.now) c.args.now) Gone in
    let here : c.args.self.now.log ≡ Some held = search rules in
    either_way (λ (answer : Answer). Does move held after answer) (after ≡ held) (messages_held after.log ≡ messages_held held.log)
    (λ answer does. held_keeps move held after answer does c.has_whole.ensures.whole (gated_keeps c.args.source (send_move (g.V.View.shows c.args.view.now) c.args.now) Gone (send_keeps (g.V.View.shows c.args.view.now) c.args.now)))
    (λ same. ap (λ (h : HeldLog). messages_held h.log) same)
    c.send_step.result c.send_step.ensures.does c.send_step.ensures.err
    ∙ sym (ap messages_in here)
