-- The tests, in their order. Where the sender stands a frame begins, so what is read from there are the frames that it sends
-- next.
use Rattle.log_traffic.specs.declared.cutting.DatagramKind.TheVariants as kinds
use Rattle.log_traffic.specs.Cutting.{IsDue, SomeDue}
use Rattle.log_traffic.proofs.CuttingLemmas.{HasFrames, due_behind, due_setup, next_is, next_none, err_given, frames_sent, reads_next, some_due, spans_next}
use Rattle.log_traffic.proofs.cutting.next_datagram.Goals as goal
use Rattle.std.proofs.Common.{◌≡◌, ℕ, ◌+◌, List, Some, None, true, false, arith, length, ap, refl, sym, subst, ◌∙◌}
use Rattle.std.specs.Prelude.{nat_lt}
use Rattle.std.proofs.lemmas.Bool.Decides.{nat_tests}
use Rattle.term_log.specs.Log.{Log}
use Rattle.term_log.specs.Reading.{Given, frames_left, sent_bytes, spans}
use Rattle.term_log.specs.SenderSteps.{IsStartIn}

pub returns-in_err-bytes-clause-without_memory : goal.returns-in_err-bytes-clause-without_memory
returns-in_err-bytes-clause-without_memory c =
    let l : Log = c.args.log.now in
    let due : IsDue c.args.pace.now c.args.now l (Some kinds.Setup) =
    due_setup c.args.pace.now c.args.now l (sym c.setup_due.ensures ∙ c.if-setup_due.true) in
    err_given (SomeDue c.args.pace.now c.args.now l) (some_due c.args.pace.now c.args.now l kinds.Setup due) c.from_residual.result

pub returns-then-setup_due-clause-next : goal.returns-then-setup_due-clause-next
returns-then-setup_due-clause-next c =
    let l : Log = c.args.log.now in
    next_is c.args.pace.now c.args.now c.args.lingers l _
    (due_setup c.args.pace.now c.args.now l (sym c.setup_due.ensures ∙ c.if-setup_due.true))
    (λ w s. c.in_ok-bytes.ensures ∙ rw (s.ident, s.sender) refl)

pub returns-in_err-bytes-2-clause-without_memory : goal.returns-in_err-bytes-2-clause-without_memory
returns-in_err-bytes-2-clause-without_memory c =
    let l : Log = c.args.log.now in
    let bytes : List ℕ = c.bytes_and_span-span.result.0.now in
    let first = c.sender_position-position.ensures in
    let has : HasFrames l (nat_lt 0 (length bytes)) =
    frames_sent l c.sender_position-position.result c.send_budget.result _ bytes c.frames_from-frames.ensures.whole first.value c.send_budget.ensures first.start c.bytes_and_span-span.ensures.bytes in
    let some : nat_lt 0 (length bytes) ≡ true = grind (arith, nat_tests, c.is_empty.ensures, c.if-not-is_empty.true) in
    let due : IsDue c.args.pace.now c.args.now l (Some kinds.Frames) =
    due_behind c.args.pace.now c.args.now l (Some kinds.Frames) (nat_lt 0 (length bytes)) has
    (rw (sym c.setup_due.ensures ∙ c.if-setup_due.false, some) refl) in
    err_given (SomeDue c.args.pace.now c.args.now l) (some_due c.args.pace.now c.args.now l kinds.Frames due)
    c.from_residual-in_err-bytes-2.result

pub returns-then-not-is_empty-clause-next : goal.returns-then-not-is_empty-clause-next
returns-then-not-is_empty-clause-next c =
    let l : Log = c.args.log.now in
    let bytes : List ℕ = c.bytes_and_span-span.result.0.now in
    let first = c.sender_position-position.ensures in
    let has : HasFrames l (nat_lt 0 (length bytes)) =
    frames_sent l c.sender_position-position.result c.send_budget.result _ bytes c.frames_from-frames.ensures.whole first.value c.send_budget.ensures first.start c.bytes_and_span-span.ensures.bytes in
    let some : nat_lt 0 (length bytes) ≡ true = grind (arith, nat_tests, c.is_empty.ensures, c.if-not-is_empty.true) in
    let due : IsDue c.args.pace.now c.args.now l (Some kinds.Frames) =
    due_behind c.args.pace.now c.args.now l (Some kinds.Frames) (nat_lt 0 (length bytes)) has
    (rw (sym c.setup_due.ensures ∙ c.if-setup_due.false, some) refl) in
    next_is c.args.pace.now c.args.now c.args.lingers l _ due
    (λ w s.
    c.in_ok-bytes-2.ensures.items ∙ c.bytes_and_span-span.ensures.bytes
    ∙ ap (λ (gs : List Given). sent_bytes gs)
    (reads_next l w c.sender_position-position.result c.send_budget.result _ c.frames_from-frames.ensures.whole first.value c.send_budget.ensures first.start s))

pub returns-then-not-is_empty-clause-passes : goal.returns-then-not-is_empty-clause-passes
returns-then-not-is_empty-clause-passes c =
    let l : Log = c.args.log.now in
    let first = c.sender_position-position.ensures in
    let span : ℕ = c.bytes_and_span-span.result.1 in
    let spanned = c.bytes_and_span-span.ensures.span in
    let read = c.frames_from-frames.ensures in
    let end : c.sender_position-position.result + spans (frames_left c.frames_from-frames.result) ≡ l.sender.position + span = omega (arith, first.value, spanned) in
    record {
      within = rw (← first.value, spanned) read.within;
      fits = rw (← first.value, spanned) read.fits;
      start = subst (λ (n : ℕ). IsStartIn l n) end (read.end first.start);
      on = λ w s.
          spanned
          ∙ spans_next l w c.sender_position-position.result c.send_budget.result _ read.whole first.value c.send_budget.ensures first.start s;
    }

pub returns-in_err-bytes-3-clause-without_memory : goal.returns-in_err-bytes-3-clause-without_memory
returns-in_err-bytes-3-clause-without_memory c =
    let l : Log = c.args.log.now in
    let bytes : List ℕ = c.bytes_and_span-span.result.0.now in
    let first = c.sender_position-position.ensures in
    let has : HasFrames l (nat_lt 0 (length bytes)) =
    frames_sent l c.sender_position-position.result c.send_budget.result _ bytes c.frames_from-frames.ensures.whole first.value c.send_budget.ensures first.start c.bytes_and_span-span.ensures.bytes in
    let some : nat_lt 0 (length bytes) ≡ false = grind (arith, nat_tests, c.is_empty.ensures, c.if-not-is_empty.false) in
    let due : IsDue c.args.pace.now c.args.now l (Some kinds.Heartbeat) =
    due_behind c.args.pace.now c.args.now l (Some kinds.Heartbeat) (nat_lt 0 (length bytes)) has
    (rw (sym c.setup_due.ensures ∙ c.if-setup_due.false, some, sym c.heartbeat_due.ensures ∙ c.if-heartbeat_due.true) refl) in
    err_given (SomeDue c.args.pace.now c.args.now l) (some_due c.args.pace.now c.args.now l kinds.Heartbeat due)
    c.from_residual-in_err-bytes-3.result

pub returns-then-heartbeat_due-clause-next : goal.returns-then-heartbeat_due-clause-next
returns-then-heartbeat_due-clause-next c =
    let l : Log = c.args.log.now in
    let bytes : List ℕ = c.bytes_and_span-span.result.0.now in
    let first = c.sender_position-position.ensures in
    let has : HasFrames l (nat_lt 0 (length bytes)) =
    frames_sent l c.sender_position-position.result c.send_budget.result _ bytes c.frames_from-frames.ensures.whole first.value c.send_budget.ensures first.start c.bytes_and_span-span.ensures.bytes in
    let some : nat_lt 0 (length bytes) ≡ false = grind (arith, nat_tests, c.is_empty.ensures, c.if-not-is_empty.false) in
    let due : IsDue c.args.pace.now c.args.now l (Some kinds.Heartbeat) =
    due_behind c.args.pace.now c.args.now l (Some kinds.Heartbeat) (nat_lt 0 (length bytes)) has
    (rw (sym c.setup_due.ensures ∙ c.if-setup_due.false, some, sym c.heartbeat_due.ensures ∙ c.if-heartbeat_due.true) refl) in
    next_is c.args.pace.now c.args.now c.args.lingers l _ due (λ w s. c.in_ok-bytes-3.ensures ∙ rw (s.ident, s.sender) refl)

pub returns-clause-next : goal.returns-clause-next
returns-clause-next c =
    let l : Log = c.args.log.now in
    let bytes : List ℕ = c.bytes_and_span-span.result.0.now in
    let first = c.sender_position-position.ensures in
    let has : HasFrames l (nat_lt 0 (length bytes)) =
    frames_sent l c.sender_position-position.result c.send_budget.result _ bytes c.frames_from-frames.ensures.whole first.value c.send_budget.ensures first.start c.bytes_and_span-span.ensures.bytes in
    let some : nat_lt 0 (length bytes) ≡ false = grind (arith, nat_tests, c.is_empty.ensures, c.if-not-is_empty.false) in
    let due : IsDue c.args.pace.now c.args.now l None =
    due_behind c.args.pace.now c.args.now l None (nat_lt 0 (length bytes)) has
    (rw (sym c.setup_due.ensures ∙ c.if-setup_due.false, some, sym c.heartbeat_due.ensures ∙ c.if-heartbeat_due.false) refl) in
    next_none c.args.pace.now c.args.now c.args.lingers l due
