-- All frames up to the tail meet the range up to there.
use Rattle.std.proofs.Common.{◌++◌, ◌-◌, arith}
use Rattle.term_log.specs.Kept.{Kept}
use Rattle.term_log.specs.Ranges.{over_left}
use Rattle.term_log.specs.Reading.{frames_left}
use Rattle.term_log.proofs.Terms.{gives_behind}
use Rattle.term_log.proofs.appender.Appender.frames_behind.Goals as goal

pub returns-clause-all : goal.returns-clause-all
returns-clause-all c =
    let s = c.self.inside in
    let k : Kept = record { ident = s.ident; tail = s.tail; messages = s.messages; buffers = s.buffers.seen; marks = s.marks } in
    let high = rw (← c.self.view_is) at c.requires.high in
    let all = rw (← c.self.view_is) at c.terms_from.ensures.all in
    let terms = c.terms_from.result in
    rw (← c.self.view_is)
    (gives_behind k c.args.position (s.tail - c.args.position) (frames_left terms.0 ++ frames_left terms.1 ++ frames_left terms.2) (over_left c.new.result) (omega (arith, high)) all c.new.ensures)
