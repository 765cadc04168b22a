-- It is the term of the tail, or one of the two before it.
use Rattle.std.proofs.Common.{◌-◌, ◌*◌, ◌/◌, ◌≤◌, arith}
use Rattle.term_log.proofs.Offsets.{before_start, newest_start, oldest_start}
use Rattle.term_log.proofs.appender.Appender.term_start.Goals as goal

pub returns-then-newest-position : goal.returns-then-newest-position
returns-then-newest-position c =
    let s = c.self.inside in
    let sound = c.self.invariant in
    let term_low = sound.ident.term_low in
    let high = rw (← c.self.view_is) at c.requires.high in
    let offset = sound.offset_is in
    let is = newest_start s.tail c.args.position s.ident.term_length (omega arith) (omega arith) high in
    rw (← c.self.view_is) (omega (arith, is))

pub returns-then-before-position : goal.returns-then-before-position
returns-then-before-position c =
    let s = c.self.inside in
    let sound = c.self.invariant in
    let term_low = sound.ident.term_low in
    let offset = sound.offset_is in
    let length = c.from-term_length.ensures in
    let is = before_start s.tail c.args.position s.ident.term_length (omega arith) (omega arith) (omega arith) in
    rw (← c.self.view_is) (omega (arith, is))

pub returns : goal.returns
returns c =
    let s = c.self.inside in
    let sound = c.self.invariant in
    let term_low = sound.ident.term_low in
    let low = rw (← c.self.view_is) at c.requires.low in
    let offset = sound.offset_is in
    let length = c.from-term_length.ensures in
    let held : (s.tail / s.ident.term_length - 2) * s.ident.term_length ≤ c.args.position = omega (arith, low) in
    let is = oldest_start s.tail c.args.position s.ident.term_length (omega arith) (omega arith) held in
    rw (← c.self.view_is) (omega (arith, is))
