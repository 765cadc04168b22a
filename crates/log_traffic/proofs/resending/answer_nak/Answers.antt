-- What is granted is held, so that what meets it of what is held is all that meets it.
use Rattle.std.proofs.Common.{rules, ◌≡◌, ◌∙◌, ℕ, ap, subst, sym, unsigned_abs}
use Rattle.frame_codec.specs.declared.nak.Nak.{Nak}
use Rattle.log_traffic.specs.Datagrams.{Resending, datagrams_of}
use Rattle.log_traffic.specs.Resending.{ResendsOver, asked_at, asking_of}
use Rattle.log_traffic.proofs.ResendingLemmas.{resends_over}
use Rattle.log_traffic.proofs.resending.answer_nak.Goals as goal
use Rattle.retransmit_gate.specs.declared.answer.Answer.TheVariants.{Resend}
use Rattle.retransmit_gate.specs.ResendLaws.{answer_to}
use Rattle.term_log.specs.declared.ident.Ident.{Ident}
use Rattle.term_log.specs.declared.ranges.FramesOver.{FramesOver}
use Rattle.term_log.specs.Log.{Log}
use Rattle.term_log.specs.Ranges.{GivesOver, over_left}

pub returns-in-Resend-clause-answer : goal.returns-in-Resend-clause-answer
returns-in-Resend-clause-answer c =
    let l : Log = c.args.log.now in
    let nak : Nak = c.args.nak.now in
    let over : FramesOver = c.frames_over-frames.result in
    let granted : answer_to c.args.gate.now (asking_of c.args.now l nak) ≡ Resend = search rules in
    let at : c.asked_at-position.result ≡ asked_at l.kept.ident nak = search rules in
    let size : c.from.result ≡ unsigned_abs nak.length = search rules in
    let gives : GivesOver l.kept (asked_at l.kept.ident nak) (unsigned_abs nak.length) (over_left over) =
    subst (λ (p : ℕ). GivesOver l.kept p (unsigned_abs nak.length) (over_left over)) at
    (subst (λ (n : ℕ). GivesOver l.kept c.asked_at-position.result n (over_left over)) size c.frames_over-frames.ensures.gives) in
    let is = c.new.ensures
    ∙ ap (λ (i : Ident). let r : Resending = record { mtu = i.mtu; datagrams = datagrams_of i.term_length i.mtu (over_left over) } in r) c.ident-ident.ensures.value in (
      search rules,
      granted,
      subst (λ (r : Resending). ResendsOver l nak r) (sym is)
          (resends_over c.args.gate.now c.args.now l nak over c.ident-ident.ensures.sound granted gives),
    )
