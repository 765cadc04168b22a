-- A mark that is behind the start of the range's term is nearer to the range.
use Rattle.std.proofs.Common.{ℕ, ◌≤◌, Contains, min, subst, arith}
use Rattle.term_log.specs.Kept.{Kept}
use Rattle.term_log.specs.Ranges.{over_start}
use Rattle.term_log.proofs.Terms.{mark_search, over_search}
use Rattle.term_log.proofs.appender.Appender.search_start.Goals as goal

pub returns-in-Some-clause-starts : goal.returns-in-Some-clause-starts
returns-in-Some-clause-starts c =
    let k : Kept = c.args.self.now in
    let mark : ℕ = c.in-Some.mark in
    let start = c.over_start-start.ensures in
    let found = c.in-Some.ensures in
    let low : mark ≤ min c.args.position c.self.inside.tail = omega (arith, found.0, c.min.ensures) in
    let near : mark ≤ min c.args.position k.tail = subst (λ (k : Kept). mark ≤ min c.args.position k.tail) c.self.view_is low in
    let there : Contains k.marks mark = subst (λ (k : Kept). Contains k.marks mark) c.self.view_is found.1 in
    rw (c.max.ensures, start.value)
    (mark_search k c.args.position (over_start k c.args.position) mark there near (over_search k c.args.position start.sound start.start))

pub returns-in-None-clause-starts : goal.returns-in-None-clause-starts
returns-in-None-clause-starts c =
    let start = c.over_start-start.ensures in
    rw start.value (over_search c.args.self.now c.args.position start.sound start.start)
