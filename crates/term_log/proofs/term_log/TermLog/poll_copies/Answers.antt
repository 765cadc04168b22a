use Rattle.std.proofs.Common.{◌≡◌, None, Some, map, sym, ◌∙◌, rules}
use Rattle.term_log.specs.Log.{Log}
use Rattle.log_pairs.specs.Pairs.{position_of, moved_one}
use Rattle.term_log.proofs.Standing.{fetches, fetches_new, poll_new_stands, poll_stands}
use Rattle.term_log.proofs.term_log.TermLog.poll_copies.Goals as goal

pub returns-in_ok-copies-in-Some-clause-copies : goal.returns-in_ok-copies-in-Some-clause-copies
returns-in_ok-copies-in-Some-clause-copies c =
    let s = c.self.inside in
    let l : Log = record { kept = s.appender; pairs = s.pairs; sender = s.sender } in
    let found : position_of c.args.self.now.pairs c.args.subscription ≡ Some c.in-Some.position = sym c.pair_position.ensures.position ∙ c.in-Some.is in
    let here = rw (← c.self.view_is) at found in
    rw (← c.self.view_is) (fetches l c.args.subscription c.args.limit c.in-Some.position c.in_ok-copies-in-Some.copies here c.in_ok-copies-in-Some.ensures.gives)

pub returns-in_ok-copies-in-Some-clause-whole : goal.returns-in_ok-copies-in-Some-clause-whole
returns-in_ok-copies-in-Some-clause-whole c =
    let s = c.self.inside in
    let l : Log = record { kept = s.appender; pairs = s.pairs; sender = s.sender } in
    let found : position_of c.args.self.now.pairs c.args.subscription ≡ Some c.in-Some.position = sym c.pair_position.ensures.position ∙ c.in-Some.is in
    let here = rw (← c.self.view_is) at found in
    let exact : c.advance.new.self ≡ record l { pairs = map (moved_one c.args.subscription c.in_ok-copies-in-Some.end) l.pairs } = search rules in
    rw (← c.self.view_is) (poll_stands l c.advance.new.self c.args.subscription c.args.limit c.in-Some.position c.in_ok-copies-in-Some.end here c.in_ok-copies-in-Some.ensures.exact exact)

pub returns-in-None-clause-copies : goal.returns-in-None-clause-copies
returns-in-None-clause-copies c =
    let found : position_of c.args.self.now.pairs c.args.subscription ≡ None = sym c.pair_position.ensures.position ∙ c.in-None.is in
    fetches_new c.args.self.now c.args.subscription c.args.limit c.new.result found c.new.ensures

pub returns-in-None-clause-whole : goal.returns-in-None-clause-whole
returns-in-None-clause-whole c =
    let found : position_of c.args.self.now.pairs c.args.subscription ≡ None = sym c.pair_position.ensures.position ∙ c.in-None.is in
    poll_new_stands c.args.self.now c.args.subscription c.args.limit c.new.result found
