-- Of all frames from the search's start on, those are given that meet the range.
use Rattle.std.proofs.Common.{ℕ, List, ◌++◌, All, sym, subst}
use Rattle.std.proofs.lemmas.List.Elements.{All-append, All-filter}
use Rattle.term_log.specs.Kept.{Kept}
use Rattle.term_log.specs.Ranges.{meets, over_left}
use Rattle.term_log.specs.Reading.{Given, frames_left, EndsBy}
use Rattle.term_log.proofs.Ends.{end_by}
use Rattle.term_log.proofs.Terms.{gives_over}
use Rattle.term_log.proofs.appender.Appender.frames_over.Goals as goal

pub returns-clause-gives : goal.returns-clause-gives
returns-clause-gives c =
    let k : Kept = c.args.self.now in
    let start = c.search_start-first.ensures in
    gives_over k c.args.position c.args.size c.search_start-first.result c.next_term-second.result c.next_term-third.result
    c.over_budget.result c.over_budget-2.result c.over_budget-3.result
    (frames_left c.frames_from.result) (frames_left c.frames_from-2.result) (frames_left c.frames_from-3.result) (over_left c.new.result)
    start.sound start.starts start.fits
    c.frames_from.ensures.gives c.frames_from-2.ensures.gives c.frames_from-3.ensures.gives
    c.over_budget.ensures c.over_budget-2.ensures c.over_budget-3.ensures
    c.next_term-second.ensures.value c.next_term-third.ensures.value c.new.ensures

pub returns-clause-within : goal.returns-clause-within
returns-clause-within c =
    let tail : ℕ = c.args.self.now.tail in
    let first : List Given = frames_left c.frames_from.result in
    let second : List Given = frames_left c.frames_from-2.result in
    let third : List Given = frames_left c.frames_from-3.result in
    subst (λ (gs : List Given). All (EndsBy tail) gs) (sym c.new.ensures)
    (All-filter (meets c.args.position c.args.size) (EndsBy tail) (first ++ second ++ third)
    (All-append (EndsBy tail) (first ++ second) third
    (All-append (EndsBy tail) first second
    (end_by c.search_start-first.result tail first c.frames_from.ensures.behind c.frames_from.ensures.within)
    (end_by c.next_term-second.result tail second c.frames_from-2.ensures.behind c.frames_from-2.ensures.within))
    (end_by c.next_term-third.result tail third c.frames_from-3.ensures.behind c.frames_from-3.ensures.within)))
