use Rattle.std.proofs.Common.{◌≡◌, rules}
use Rattle.term_log.specs.Log.{Log}
use Rattle.term_log.specs.Sender.{later_of}
use Rattle.term_log.proofs.Sends.{datagram_stands}
use Rattle.term_log.proofs.term_log.TermLog.datagram_sent.Goals as goal

pub returns-clause-whole : goal.returns-clause-whole
returns-clause-whole c =
    let s = c.self.inside in
    let old : Log = record { kept = s.appender; pairs = s.pairs; sender = s.sender } in
    let new : Log = record { kept = s.appender; pairs = s.pairs; sender = c.datagram_sent.new.self } in
    let exact : new ≡ record old { sender = record old.sender { datagram = later_of old.sender.datagram c.args.now } } = search rules in
    rw (← c.self.view_is) (datagram_stands old new c.args.now exact)
