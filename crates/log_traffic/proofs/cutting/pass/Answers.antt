use Rattle.log_traffic.specs.Cutting.{passed, span_of}
use Rattle.log_traffic.proofs.cutting.pass.Goals as goal
use Rattle.std.proofs.Common.{◌≡◌, ℕ, ◌+◌, arith, ap, subst, sym, ◌∙◌}
use Rattle.term_log.specs.Frames.{total}
use Rattle.term_log.specs.Sender.{Sending}
use Rattle.term_log.specs.SenderSteps.{IsStartIn, next_frames, sent_on, sent_to}
use Rattle.term_log.specs.Whole.{Stands}

pub overflow_add-sender_position : goal.overflow_add-sender_position
overflow_add-sender_position c =
    omega (arith, c.requires.fits, c.sender_position.ensures.value)

pub returns-in-Frames-clause-whole : goal.returns-in-Frames-clause-whole
unfolding sent_on
returns-in-Frames-clause-whole c =
    let old = c.args.log.now in
    let span : ℕ = c.args.cut.now.span in
    let position : ℕ = c.sender_position.result in
    let first = c.sender_position.ensures in
    let last : IsStartIn old (position + span) = subst (λ (n : ℕ). IsStartIn old (n + span)) (sym first.value) c.requires.start in
    let carried = c.sent.ensures.whole last in
    record {
      on = λ w s.
          let here : position ≡ w.sender.position = first.value ∙ ap (λ (x : Sending). x.position) s.sender in
          let spans : span ≡ total (next_frames w) = c.requires.on w s ∙ ap (span_of w) c.in-Frames.is in
          let end : position + span ≡ w.sender.position + total (next_frames w) = omega (arith, here, spans) in
          let sent : Stands c.sent.new.self (sent_on w) = subst (λ (n : ℕ). Stands c.sent.new.self (sent_to n w)) end (carried.on w s) in
          subst (λ k. Stands c.datagram_sent.new.self (passed c.args.now k w)) (sym c.in-Frames.is)
          (c.datagram_sent.ensures.whole.on (sent_on w) sent);
    }
