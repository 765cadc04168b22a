-- The frames of three terms are all up to the tail.
use Rattle.std.proofs.Common.{ℕ, List, ◌++◌}
use Rattle.std.proofs.lemmas.List.Elements.{All-append}
use Rattle.term_log.specs.Kept.{Kept}
use Rattle.term_log.specs.Reading.{Given, frames_left, EndsBy}
use Rattle.term_log.proofs.Ends.{end_by}
use Rattle.term_log.proofs.Terms.{gives_all}
use Rattle.term_log.proofs.appender.Appender.terms_from.Goals as goal

pub returns-clause-all : goal.returns-clause-all
returns-clause-all c =
    let s = c.self.inside in
    let k : Kept = record { ident = s.ident; tail = s.tail; messages = s.messages; buffers = s.buffers.seen; marks = s.marks } in
    let low = rw (← c.self.view_is) at c.requires.low in
    let second = rw (← c.self.view_is) at c.next_term-second.ensures.value in
    let third = rw (← c.self.view_is) at c.next_term-third.ensures.value in
    let a = rw (← c.self.view_is) at c.frames_from.ensures.gives in
    let b = rw (← c.self.view_is) at c.frames_from-2.ensures.gives in
    let d = rw (← c.self.view_is) at c.frames_from-3.ensures.gives in
    rw (← c.self.view_is)
    (gives_all k c.args.position c.next_term-second.result c.next_term-third.result (frames_left c.frames_from.result) (frames_left c.frames_from-2.result)
    (frames_left c.frames_from-3.result) c.self.invariant.ident low a b d second third)

pub returns-clause-within : goal.returns-clause-within
returns-clause-within c =
    let tail : ℕ = c.args.self.now.tail in
    let first : List Given = frames_left c.frames_from.result in
    let second : List Given = frames_left c.frames_from-2.result in
    let third : List Given = frames_left c.frames_from-3.result in
    All-append (EndsBy tail) (first ++ second) third
    (All-append (EndsBy tail) first second
    (end_by c.args.position tail first c.frames_from.ensures.behind c.frames_from.ensures.within)
    (end_by c.next_term-second.result tail second c.frames_from-2.ensures.behind c.frames_from-2.ensures.within))
    (end_by c.next_term-third.result tail third c.frames_from-3.ensures.behind c.frames_from-3.ensures.within)
