use Rattle.std.proofs.Common.{List, ap, ◌∙◌}
use Rattle.std.specs.List.{list_any}
use Rattle.log_readers.specs.Turnover.{is_had_by}
use Rattle.stream_registry.specs.declared.row.Subscription.{Subscription}
use Rattle.log_readers.proofs.LateLemmas.{had_by_any}
use Rattle.log_readers.proofs.telling.is_of_any.Goals as goal

-- each subscription is asked once, and each client of the one that is found
pub returns : goal.returns
returns c =
    c.is_had_by_any.ensures
    ∙ ap (λ (subs : List Subscription). list_any (is_had_by c.args.pair.subscription c.args.clients.now) subs) c.subscriptions.ensures.value
    ∙ had_by_any c.args.streams.now c.args.clients.now c.args.pair
