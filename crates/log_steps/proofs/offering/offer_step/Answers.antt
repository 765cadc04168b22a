use Rattle.std.proofs.Common.{rules, ◌≡◌, ℕ, ◌==◌, true, false, refl, sym, subst}
use Rattle.log_steps.specs.declared.answer.Answer.TheVariants.{Offered as OfferedAs}
use Rattle.log_steps.specs.declared.answer.Offered.TheVariants.{Closed}
use Rattle.log_steps.specs.Held.{HeldLog, LiesAsBefore}
use Rattle.log_steps.specs.Moves.{Does, offers, term_held}
use Rattle.log_steps.proofs.GateLemmas.{has_after}
use Rattle.log_steps.proofs.MoveLemmas.{held_lies, offer_closed, offer_passed}
use Rattle.log_steps.proofs.DecidedLemmas.{elsewhere_decides, own_decides, unregistered_decides}
use Rattle.log_steps.proofs.offering.offer_step.Goals as goal
use Rattle.log_steps.proofs.offering.offer_step.Goals.{in-Term, in-Image}
use Rattle.log_traffic.specs.declared.any_log.AnyLog.{AnyLog}
use Rattle.log_traffic.specs.declared.any_log.AnyLog.TheVariants.{Term}
use Rattle.log_traffic.specs.Whole.{HasWhole}

pub invariant_of-log : goal.invariant_of-log
invariant_of-log c =
    let source : ℕ = c.log.inside.source in
    let kept = c.log.inside.recovery in
    elim c.match-log.branch [
      | in-Term w ↦
          rw w.log-inside-is
          (has_after _ (term_held source kept w.in-Term.term) (term_held source kept w.offer_to-answer.new.log) w.offer_to-answer.result
          (w.offer_to-answer.ensures.does source kept)
          (subst HasWhole w.in-Term.is c.log.invariant))
      | in-Image w ↦ rw w.log-inside-is c.log.invariant
    ]

pub returns-clause-does : goal.returns-clause-does
returns-clause-does c =
    let source : ℕ = c.log.inside.source in
    let kept = c.log.inside.recovery in
    let held : HeldLog = record { source = source; log = c.log.inside.log; recovery = kept } in
    let request = c.in-Some.request in
    let verdict = request.decision.verdict in
    let own : request.source ≡ source = search rules in
    elim c.match-log.branch [
      | in-Term w ↦
          let after : HeldLog = term_held source kept w.offer_to-answer.new.log in
          let does : Does (offers c.args.now c.args.timeout verdict c.args.message.now) held after w.offer_to-answer.result =
          subst (λ (l : AnyLog). Does (offers c.args.now c.args.timeout verdict c.args.message.now) (record { source = source; log = l; recovery = kept }) after w.offer_to-answer.result)
          (sym w.in-Term.is)
          (w.offer_to-answer.ensures.does source kept) in
          rw (← c.log.view_is, w.log-inside-is, w.answer-is, c.in-Some.is)
          (offer_passed c.args.timeout c.args.now c.args.message.now held after request w.offer_to-answer.result own does)
      | in-Image w ↦
          rw (← c.log.view_is, w.log-inside-is, w.answer-is, c.in-Some.is)
          (offer_passed c.args.timeout c.args.now c.args.message.now held held request (OfferedAs Closed) own
          (offer_closed c.args.now c.args.timeout verdict c.args.message.now held w.in-Image.field-0 w.in-Image.is))
    ]

pub returns-clause-lies : goal.returns-clause-lies
returns-clause-lies c =
    let source : ℕ = c.log.inside.source in
    let kept = c.log.inside.recovery in
    elim c.match-log.branch [
      | in-Term w ↦
          rw (← c.log.view_is, w.log-inside-is)
          (subst (λ (l : AnyLog). LiesAsBefore (record { source = source; log = l; recovery = kept }) (term_held source kept w.offer_to-answer.new.log)) (sym w.in-Term.is)
          (held_lies source kept kept (Term w.in-Term.term) (Term w.offer_to-answer.new.log) w.offer_to-answer.ensures.lies))
      | in-Image w ↦ rw (← c.log.view_is, w.log-inside-is) record { plot_is = refl; made_is = refl }
    ]

pub returns-in_default-clause-decides : goal.returns-in_default-clause-decides
returns-in_default-clause-decides c = rw (c.closed.ensures, c.in_default.is) (unregistered_decides c.args.log.now)

pub returns-then-request-log-clause-decides : goal.returns-then-request-log-clause-decides
returns-then-request-log-clause-decides c =
    let held : HeldLog = record { source = c.log.inside.source; log = c.log.inside.log; recovery = c.log.inside.recovery } in
    let other : (c.in-Some.request.source == c.log.inside.source) ≡ false = search rules in
    rw (c.closed-then-request-log.ensures, ← c.log.view_is, c.in-Some.is) (elsewhere_decides held c.in-Some.request other)

pub returns-clause-decides : goal.returns-clause-decides
returns-clause-decides c =
    let held : HeldLog = record { source = c.log.inside.source; log = c.log.inside.log; recovery = c.log.inside.recovery } in
    let own : (c.in-Some.request.source == c.log.inside.source) ≡ true = search rules in
    rw (← c.log.view_is, c.in-Some.is) (own_decides held c.in-Some.request own)
