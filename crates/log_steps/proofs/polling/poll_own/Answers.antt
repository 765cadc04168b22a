use Rattle.std.proofs.Common.{rules, ◌≡◌, None, Some, true, refl}
use Rattle.driver_core.specs.LogRequests.{receiving_of}
use Rattle.log_steps.specs.Held.{HeldLog}
use Rattle.log_steps.specs.Memory.{Gives}
use Rattle.log_steps.specs.Moves.{poll_move}
use Rattle.log_steps.proofs.ResultLemmas.{err_given}
use Rattle.log_steps.proofs.MoveLemmas.{held_lies, some_position, poll_given, poll_gives}
use Rattle.log_steps.proofs.DecidedLemmas.{placeless_decides, read_decides, unread_decides}
use Rattle.log_steps.proofs.polling.poll_own.Goals as goal
use Rattle.log_traffic.specs.Held.{position_held}
use Rattle.log_traffic.specs.Whole.{Fetches}

pub returns : goal.returns
returns over c =
    let held : HeldLog = record { source = c.log.inside.source; log = c.log.inside.log; recovery = c.log.inside.recovery } in
    let after : HeldLog = record { source = c.log.inside.source; log = c.poll.new.self; recovery = c.log.inside.recovery } in
    let asked : receiving_of (over.V.View.shows c.args.view.now) c.args.client c.args.subscription held.source ≡ Some c.in-Some.request = search rules in
    let there : ¬ (position_held held.log c.args.subscription ≡ None) = search rules in
    let at = some_position (position_held held.log c.args.subscription) there in
    let allowed : c.in-Some.request.decision.verdict.allow ≡ true = search rules in
    let copies : Fetches held.log c.args.subscription c.args.limit c.in_ok-fragments.fragments = search rules in
    rw (← c.log.view_is) record {
      does = poll_given (over.V.View.shows c.args.view.now) c.args.client c.args.subscription c.args.limit held after
          c.in-Some.request at.0 c.in_ok-fragments.fragments asked at.1 allowed copies refl refl c.in_ok-fragments.ensures.whole;
      decides = read_decides (over.V.View.shows c.args.view.now) c.args.client c.args.subscription held c.in-Some.request at.0 asked at.1;
      lies = held_lies c.log.inside.source c.log.inside.recovery c.log.inside.recovery c.log.inside.log c.poll.new.self c.poll.ensures.lies;
      right = search rules;
      err = tt;
      without_memory = tt;
    }

pub returns-in_err-fragments-clause-without_memory : goal.returns-in_err-fragments-clause-without_memory
returns-in_err-fragments-clause-without_memory over c =
    let held : HeldLog = record { source = c.log.inside.source; log = c.log.inside.log; recovery = c.log.inside.recovery } in
    let asked : receiving_of (over.V.View.shows c.args.view.now) c.args.client c.args.subscription held.source ≡ Some c.in-Some.request = search rules in
    let there : ¬ (position_held held.log c.args.subscription ≡ None) = search rules in
    let at = some_position (position_held held.log c.args.subscription) there in
    let allowed : c.in-Some.request.decision.verdict.allow ≡ true = search rules in
    rw (← c.log.view_is)
    (err_given (Gives (poll_move (over.V.View.shows c.args.view.now) c.args.client c.args.subscription c.args.limit) held)
    (poll_gives (over.V.View.shows c.args.view.now) c.args.client c.args.subscription c.args.limit held c.in-Some.request at.0 asked at.1 allowed)
    c.from_residual.result)

pub returns-in_default-clause-decides : goal.returns-in_default-clause-decides
returns-in_default-clause-decides over c =
    let s = over.V.View.shows c.args.view.now in
    let held : HeldLog = record { source = c.log.inside.source; log = c.log.inside.log; recovery = c.log.inside.recovery } in
    let none : receiving_of s c.args.client c.args.subscription held.source ≡ None = search rules in
    rw (c.gone.ensures, ← c.log.view_is) (unread_decides s c.args.client c.args.subscription held none)

pub returns-then-is_none-clause-decides : goal.returns-then-is_none-clause-decides
returns-then-is_none-clause-decides over c =
    let s = over.V.View.shows c.args.view.now in
    let held : HeldLog = record { source = c.log.inside.source; log = c.log.inside.log; recovery = c.log.inside.recovery } in
    let asked : receiving_of s c.args.client c.args.subscription held.source ≡ Some c.in-Some.request = search rules in
    let none : position_held held.log c.args.subscription ≡ None = search rules in
    rw (c.gone-then-is_none.ensures, ← c.log.view_is) (placeless_decides s c.args.client c.args.subscription held c.in-Some.request asked none)

pub returns-then-not-request-clause-decides : goal.returns-then-not-request-clause-decides
returns-then-not-request-clause-decides over c =
    let s = over.V.View.shows c.args.view.now in
    let held : HeldLog = record { source = c.log.inside.source; log = c.log.inside.log; recovery = c.log.inside.recovery } in
    let asked : receiving_of s c.args.client c.args.subscription held.source ≡ Some c.in-Some.request = search rules in
    let there : ¬ (position_held held.log c.args.subscription ≡ None) = search rules in
    let at = some_position (position_held held.log c.args.subscription) there in
    rw (← c.log.view_is) (read_decides s c.args.client c.args.subscription held c.in-Some.request at.0 asked at.1)
