use Rattle.media_driver.proofs.MailLemmas.{Passed}
use Rattle.media_driver.proofs.client.Client.next_mail.Given as goal

abbrev pub invariant-loop-passed : goal.invariant-loop-passed
invariant-loop-passed g l = Passed l.fn.self l.self l._passed
