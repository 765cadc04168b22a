use Rattle.std.proofs.Common.{◌≡◌, ◌∙◌, ◌+◌, arith, find, sym, rules}
use Rattle.std.specs.List.{range_with_len}
use Rattle.std.proofs.lemmas.List.{at_drop_all}
use Rattle.stream_registry.specs.LogPages.{fits, free_place}
use Rattle.stream_registry.proofs.PageLemmas.{least_end, least_is}
use Rattle.stream_registry.proofs.streams.Streams.free_place.Goals as goal

pub returns : goal.returns
unfolding free_place
returns c =
    let logs = c.as_slice-logs.result.now in
    let test = fits logs c.args.arena_pages c.args.pages in
    let all = at_drop_all (λ rest. least_end test rest c.loop-log.least) logs c.loop-log.log-index (omega (arith, c.loop-log-test.false)) in
    let least = least_is logs c.args.arena_pages c.args.pages c.ranges.arena_pages.fits (sym c.fits.ensures ∙ c.if-fits.false) in
    let found : c.loop-log.least ≡ find test (range_with_len 0 (c.args.arena_pages + 1)) = sym all ∙ (c.loop-log.invariant ∙ least) in
    search (rules, found)
