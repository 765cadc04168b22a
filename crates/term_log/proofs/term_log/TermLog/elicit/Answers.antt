use Rattle.std.proofs.Common.{◌≡◌, true, rules}
use Rattle.term_log.specs.Log.{Log}
use Rattle.term_log.proofs.Sends.{elicit_stands}
use Rattle.term_log.proofs.term_log.TermLog.elicit.Goals as goal

pub returns-clause-whole : goal.returns-clause-whole
returns-clause-whole c =
    let s = c.self.inside in
    let old : Log = record { kept = s.appender; pairs = s.pairs; sender = s.sender } in
    let new : Log = record { kept = s.appender; pairs = s.pairs; sender = c.elicit.new.self } in
    let exact : new ≡ record old { sender = record old.sender { elicited = true } } = search rules in
    rw (← c.self.view_is) (elicit_stands old new exact)
