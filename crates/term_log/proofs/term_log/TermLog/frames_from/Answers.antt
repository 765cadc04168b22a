use Rattle.term_log.specs.Log.{Log}
use Rattle.term_log.specs.Reading.{frames_left}
use Rattle.term_log.proofs.Sends.{reads_whole, reads_to}
use Rattle.term_log.proofs.term_log.TermLog.frames_from.Goals as goal

pub returns-clause-whole : goal.returns-clause-whole
returns-clause-whole c =
    let s = c.self.inside in
    let l : Log = record { kept = s.appender; pairs = s.pairs; sender = s.sender } in
    rw (← c.self.view_is) (reads_whole l c.args.position c.args.bytes (frames_left c.frames_from.result) c.frames_from.ensures.gives)

pub returns-clause-end : goal.returns-clause-end
returns-clause-end c =
    let s = c.self.inside in
    let l : Log = record { kept = s.appender; pairs = s.pairs; sender = s.sender } in
    rw (← c.self.view_is) (reads_to l c.args.position c.args.bytes (frames_left c.frames_from.result) c.frames_from.ensures.gives)
