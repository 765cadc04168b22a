use Rattle.std.proofs.Common.{ap, arith}
use Rattle.term_log.specs.Log.{Log}
use Rattle.term_log.proofs.Nears.{sender_within}
use Rattle.term_log.proofs.Sends.{sender_held, sender_starts}
use Rattle.term_log.proofs.term_log.TermLog.sender_position.Goals as goal

pub returns-clause-within : goal.returns-clause-within
returns-clause-within c =
    let s = c.self.inside in
    let i = s.appender.ident in
    let within = sender_within i.kind i.start s.appender.tail i.term_length s.sender.position c.self.invariant.sender_near in
    let tail = ap (λ (l : Log). l.kept.tail) c.self.view_is in
    omega (arith, within.1)

pub returns-clause-held : goal.returns-clause-held
returns-clause-held c =
    let s = c.self.inside in
    let held = sender_held s.appender.ident.kind s.appender s.sender.position c.self.invariant.sender_near in
    rw (← c.self.view_is, c.position.ensures) held

pub returns-clause-start : goal.returns-clause-start
returns-clause-start c =
    let s = c.self.inside in
    let l : Log = record { kept = s.appender; pairs = s.pairs; sender = s.sender } in
    rw (← c.self.view_is, c.position.ensures) (sender_starts l)
