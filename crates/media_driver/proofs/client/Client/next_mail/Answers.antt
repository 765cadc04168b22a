use Rattle.std.proofs.Common.{◌≡◌, Option, Some, ap, subst, sym, ◌∙◌}
use Rattle.media_agents.specs.Mails.{Posted}
use Rattle.media_driver.proofs.MailLemmas.{none_left, none_passed, one_passed}
use Rattle.media_driver.specs.Clients.{Attached, Pops, TakesMail}
use Rattle.media_driver.proofs.client.Client.next_mail.Goals as goal

pub loop-passed-init : goal.loop-passed-init
loop-passed-init g c = none_passed c.args.self.now

pub loop-passed-preserved : goal.loop-passed-preserved
loop-passed-preserved g c =
    let old = c.args.self.now in
    let mail = c.in_ok-mail.mail in
    let so = c.loop-passed.invariant in
    let pops : Pops c.loop-passed.self c.pop.new.self (Some mail) = c.in_ok-mail.ensures in
    let number = λ (a : Attached). a.number in
    let same : c.self.inside.number ≡ old.number = ap number c.self.view_is ∙ (ap number pops ∙ ap number so.passes.new_is) in
    one_passed old c.loop-passed.self c.pop.new.self mail c.loop-passed._passed so pops (λ own. c.if-client-self.false (c.client.ensures ∙ (own ∙ sym same)))

pub returns-in_err-mail : goal.returns-in_err-mail
returns-in_err-mail g c =
    subst (λ (mail : Option Posted). TakesMail c.args.self.now c.pop.new.self mail) (sym c.from_residual.ensures)
    (none_left c.args.self.now c.loop-passed.self c.pop.new.self c.loop-passed._passed c.loop-passed.invariant c.in_err-mail.ensures)
