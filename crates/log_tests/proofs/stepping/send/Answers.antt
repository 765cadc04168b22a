-- Where the sender stands a frame begins, so it stands behind the frames that it sent.
use Rattle.std.proofs.Common.{◌≡◌, ℕ, ◌+◌, ap, ap₂, refl, sym, subst, ◌∙◌}
use Rattle.term_log.specs.Frames.{total}
use Rattle.term_log.specs.Reading.{frames_left, spans}
use Rattle.term_log.specs.Sender.{Sending, budget_of}
use Rattle.term_log.specs.SenderSteps.{IsStartIn, frames_for, next_frames, sent_to, sent_on}
use Rattle.term_log.specs.Whole.{Stands}
use Rattle.log_tests.proofs.stepping.send.Goals as goal

pub returns-in-Udp : goal.returns-in-Udp
unfolding sent_on
returns-in-Udp c kind =
    let old = c.args.log.now in
    let position : ℕ = c.sender_position-position.result in
    let span : ℕ = c.bytes_and_span-span.result.1 in
    let first = c.sender_position-position.ensures.start in
    let last : IsStartIn old (position + span) = subst (λ (n : ℕ). IsStartIn old (position + n)) (sym c.bytes_and_span-span.ensures.span) (c.frames_from-frames.ensures.end first) in
    let carried = c.sent.ensures.whole last in
    record {
      on = λ w s.
          let here : position ≡ w.sender.position = c.sender_position-position.ensures.value ∙ ap (λ (x : Sending). x.position) s.sender in
          let budget : c.send_budget.result ≡ budget_of w.sender w.ident.mtu =
          c.send_budget.ensures ∙ rw (s.sender, s.ident) refl in
          let read : spans (frames_left c.frames_from-frames.result) ≡ total (frames_for w position c.send_budget.result) =
          (c.frames_from-frames.ensures.whole.on w s (first.on w s)).1 in
          let is : position + span ≡ w.sender.position + total (next_frames w) =
          ap (λ (n : ℕ). position + n) (c.bytes_and_span-span.ensures.span ∙ read)
          ∙ ap₂ (λ (p b : ℕ). p + total (frames_for w p b)) here budget in
          subst (λ (n : ℕ). Stands c.sent.new.self (sent_to n w)) is (carried.on w s);
    }
