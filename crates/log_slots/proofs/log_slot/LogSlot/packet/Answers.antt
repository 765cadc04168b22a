use Rattle.std.proofs.Common.{rules, ◌≡◌, ◌∙◌, Option, Some, true, ap, subst, sym}
use Rattle.log_steps.specs.declared.answered.Answered.{Answered}
use Rattle.log_steps.specs.Held.{HeldLog}
use Rattle.log_steps.specs.Moves.{Does}
use Rattle.log_steps.specs.Packets.{packet_move}
use Rattle.frame_codec.specs.Datagram.{content}
use Rattle.log_slots.proofs.MoveCounts.{held_keeps, packet_keeps}
use Rattle.log_slots.proofs.SlotLemmas.{either_way, is_for}
use Rattle.log_slots.specs.Slots.{IsOwn, IsSlot, is_of, messages_in}
use Rattle.log_slots.proofs.log_slot.LogSlot.packet.Goals as goal
use Rattle.log_traffic.specs.Held.{made_held, messages_held}

pub packet_step-requires : goal.packet_step-requires
packet_step-requires g c =
    let slot = c.self.inside in
    let there : slot.log ≡ Some c.in-Some.log = search rules in
    let own : IsOwn g.N.Naming.home slot.source slot.session slot.stream c.in-Some.log =
    subst (λ (log : Option HeldLog). IsSlot g.N.Naming.home slot.source slot.session slot.stream log) there c.self.invariant in
    let of : is_of slot.session slot.stream (content c.args.packet) ≡ true = search rules in
    is_for (made_held c.in-Some.log.log) slot.session slot.stream (content c.args.packet) own.made_is c.requires of

pub returns-clause-messages : goal.returns-clause-messages
returns-clause-messages g c =
    let held : HeldLog = c.in-Some.log in
    let after : HeldLog = c.packet_step.new.log in
    let move = packet_move c.args.now c.args.from.now c.args.request.now (content c.args.packet) in
    let here : c.args.self.now.log ≡ Some held = search rules in
    either_way (λ (told : Answered). Does move held after told.answer) (after ≡ held) (messages_held after.log ≡ messages_held held.log)
    (λ told does. held_keeps move held after told.answer does c.has_whole.ensures.whole (packet_keeps c.args.now c.args.from.now c.args.request.now (content c.args.packet)))
    (λ same. ap (λ (h : HeldLog). messages_held h.log) same)
    c.packet_step.result c.packet_step.ensures.does c.packet_step.ensures.err
    ∙ sym (ap messages_in here)
