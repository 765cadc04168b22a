use Rattle.std.proofs.Common.{◌≡◌, rules}
use Rattle.term_log.specs.Log.{Log}
use Rattle.term_log.specs.Sender.{after_setup}
use Rattle.term_log.proofs.Sends.{setup_stands}
use Rattle.term_log.proofs.term_log.TermLog.setup_sent.Goals as goal

pub returns-clause-whole : goal.returns-clause-whole
returns-clause-whole c =
    let s = c.self.inside in
    let old : Log = record { kept = s.appender; pairs = s.pairs; sender = s.sender } in
    let new : Log = record { kept = s.appender; pairs = s.pairs; sender = c.setup_sent.new.self } in
    let exact : new ≡ record old { sender = after_setup c.args.now old.sender } = search rules in
    rw (← c.self.view_is) (setup_stands old new c.args.now exact)
