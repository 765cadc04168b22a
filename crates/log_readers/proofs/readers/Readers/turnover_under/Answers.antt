use Rattle.std.proofs.Common.{rules, ◌≡◌, Bool, List, map, subst, ap, ◌∙◌}
use Rattle.std.specs.Prelude.{IfOk}
use Rattle.log_readers.specs.Reloading.{comes, goes, turned_over}
use Rattle.stream_registry.specs.declared.pairs.Pair.{Pair}
use Rattle.stream_registry.specs.Pairs.{is_allowed}
use Rattle.log_readers.proofs.ReloadLemmas.{reload_comes, reload_goes}
use Rattle.log_readers.proofs.readers.Readers.turnover_under.Goals as goal

pub returns-clause-gone : goal.returns-clause-gone
returns-clause-gone c old number low last up exact =
    let asked : c.as_slice.result.now
    ≡ map (is_allowed c.args.clients.now.rows c.args.policy.now c.args.epoch) c.args.streams.now.subscriptions = search rules in
    subst (λ (all : List Pair). IfOk c.turned.result (λ turnover. turnover.gone ≡ all))
    (ap (λ (allowed : List Bool).
    turned_over goes c.args.streams.now.subscriptions allowed c.args.streams.now.sources c.args.self.now) asked
    ∙ ap (turned_over goes c.args.streams.now.subscriptions
    (map (is_allowed c.args.clients.now.rows c.args.policy.now c.args.epoch) c.args.streams.now.subscriptions)
    c.args.streams.now.sources) exact
    ∙ reload_goes c.args.clients.now.rows old c.args.policy.now number c.args.epoch low last c.args.streams.now up)
    c.turned.ensures.gone

pub returns-clause-come : goal.returns-clause-come
returns-clause-come c old number low last up exact =
    let asked : c.as_slice.result.now
    ≡ map (is_allowed c.args.clients.now.rows c.args.policy.now c.args.epoch) c.args.streams.now.subscriptions = search rules in
    subst (λ (all : List Pair). IfOk c.turned.result (λ turnover. turnover.come ≡ all))
    (ap (λ (allowed : List Bool).
    turned_over comes c.args.streams.now.subscriptions allowed c.args.streams.now.sources c.args.self.now) asked
    ∙ ap (turned_over comes c.args.streams.now.subscriptions
    (map (is_allowed c.args.clients.now.rows c.args.policy.now c.args.epoch) c.args.streams.now.subscriptions)
    c.args.streams.now.sources) exact
    ∙ reload_comes c.args.clients.now.rows old c.args.policy.now number c.args.epoch low last c.args.streams.now up)
    c.turned.ensures.come
