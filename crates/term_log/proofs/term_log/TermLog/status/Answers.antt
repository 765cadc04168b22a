use Rattle.std.proofs.Common.{◌≡◌, ◌/◌, min, rules}
use Rattle.term_log.specs.Log.{Log}
use Rattle.term_log.specs.Sender.{status_of, after_status}
use Rattle.term_log.proofs.Sends.{status_stands}
use Rattle.term_log.proofs.term_log.TermLog.status.Goals as goal

pub returns-clause-whole : goal.returns-clause-whole
returns-clause-whole c =
    let s = c.self.inside in
    let old : Log = record { kept = s.appender; pairs = s.pairs; sender = s.sender } in
    let new : Log = record { kept = s.appender; pairs = s.pairs; sender = c.status.new.self } in
    let answered : c.status.result ≡ status_of old.sender c.args.position (min c.args.window (old.kept.ident.term_length / 2)) = search rules in
    let exact : new ≡ record old { sender = after_status c.status.result c.args.now old.sender } = search rules in
    rw (← c.self.view_is) (status_stands old new c.status.result c.args.now c.args.position c.args.window answered exact)
