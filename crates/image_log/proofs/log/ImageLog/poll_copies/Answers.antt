use Rattle.std.proofs.Common.{◌≡◌, ℕ, None, Some, Option, sym, ap, ◌∙◌, subst}
use Rattle.image_log.specs.Log.{Log}
use Rattle.log_pairs.specs.Pairs.{ReadsUpTo, position_of}
use Rattle.image_log.specs.Polling.{Poll}
use Rattle.image_log.specs.Rebuilt.{advanced, settled}
use Rattle.image_log.proofs.Polls.{new_gives, new_passes, polled_some}
use Rattle.image_log.proofs.log.ImageLog.poll_copies.Goals as goal

pub advance-requires-clause-from : goal.advance-requires-clause-from
advance-requires-clause-from c =
    let found : position_of c.args.self.now.rebuilt.pairs c.args.subscription ≡ Some c.in-Some.position = sym c.pair_position.ensures.position ∙ c.in-Some.is in
    subst (λ (o : Option ℕ). ReadsUpTo o c.in_ok-copies-in-Some.end) (sym found) c.in_ok-copies-in-Some.ensures.ahead.ahead

pub returns-in_ok-copies-in-Some-clause-copies : goal.returns-in_ok-copies-in-Some-clause-copies
returns-in_ok-copies-in-Some-clause-copies c =
    let now : Log = c.args.self.now in
    let found : position_of now.rebuilt.pairs c.args.subscription ≡ Some c.in-Some.position = sym c.pair_position.ensures.position ∙ c.in-Some.is in
    c.in_ok-copies-in-Some.ensures.copies
    ∙ ap (λ (p : Poll). p.fragments) (sym (polled_some now.rebuilt c.args.subscription c.args.limit c.in-Some.position found))

pub returns-in_ok-copies-in-Some-clause-exact : goal.returns-in_ok-copies-in-Some-clause-exact
returns-in_ok-copies-in-Some-clause-exact c =
    let now : Log = c.args.self.now in
    let found : position_of now.rebuilt.pairs c.args.subscription ≡ Some c.in-Some.position = sym c.pair_position.ensures.position ∙ c.in-Some.is in
    c.advance.ensures
    ∙ ap (λ (q : ℕ). let x : Log = record now { rebuilt = settled (advanced now.rebuilt c.args.subscription q) } in x) c.in_ok-copies-in-Some.ensures.exact
    ∙ ap (λ (p : Poll). let x : Log = record now { rebuilt = p.after } in x) (sym (polled_some now.rebuilt c.args.subscription c.args.limit c.in-Some.position found))

pub returns-in-None-clause-copies : goal.returns-in-None-clause-copies
returns-in-None-clause-copies c =
    let found : position_of c.args.self.now.rebuilt.pairs c.args.subscription ≡ None = sym c.pair_position.ensures.position ∙ c.in-None.is in
    new_gives c.args.self.now.rebuilt c.args.subscription c.args.limit c.new.result found c.new.ensures

pub returns-in-None-clause-exact : goal.returns-in-None-clause-exact
returns-in-None-clause-exact c =
    let found : position_of c.args.self.now.rebuilt.pairs c.args.subscription ≡ None = sym c.pair_position.ensures.position ∙ c.in-None.is in
    new_passes c.args.self.now c.args.subscription c.args.limit c.new.result found
