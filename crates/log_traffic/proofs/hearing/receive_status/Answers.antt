-- What the log does with the message is what becomes of each whole log that it stands for.
use Rattle.std.proofs.Common.{rules, ◌∙◌, sym}
use Rattle.log_traffic.proofs.HearingLemmas.{carries_elicited, carries_heard}
use Rattle.log_traffic.proofs.hearing.receive_status.Goals as goal

pub returns-then-asks_for_setup-clause-whole : goal.returns-then-asks_for_setup-clause-whole
returns-then-asks_for_setup-clause-whole c =
    carries_elicited c.args.now c.args.message.now c.args.log.now c.elicit.new.self (sym c.asks_for_setup.ensures ∙ c.if-asks_for_setup.true) c.elicit.ensures.whole

pub returns-in-Accepted-clause-whole : goal.returns-in-Accepted-clause-whole
returns-in-Accepted-clause-whole c =
    carries_heard c.args.now c.args.message.now c.args.log.now c.status.new.self c.position-position.result
    (sym c.asks_for_setup.ensures ∙ c.if-asks_for_setup.false)
    (search rules) c.status.ensures.whole

pub returns-in-OutOfWindow-clause-whole : goal.returns-in-OutOfWindow-clause-whole
returns-in-OutOfWindow-clause-whole c =
    carries_heard c.args.now c.args.message.now c.args.log.now c.status.new.self c.position-position.result
    (sym c.asks_for_setup.ensures ∙ c.if-asks_for_setup.false)
    (search rules) c.status.ensures.whole
