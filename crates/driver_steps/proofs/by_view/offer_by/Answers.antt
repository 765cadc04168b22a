use Rattle.std.proofs.Common.{rules, ◌≡◌, Some, ap}
use Rattle.std.specs.Option.{option_map}
use Rattle.driver_core.specs.LogRequests.{offering_of}
use Rattle.log_steps.specs.declared.answer.Answer.TheVariants.{Offered as OfferedAs}
use Rattle.log_steps.specs.declared.answer.Offered.TheVariants.{Closed}
use Rattle.log_steps.specs.Moves.{offer_move}
use Rattle.driver_steps.proofs.EndDecisionLemmas.{offer_decided_first}
use Rattle.driver_steps.proofs.ServingLemmas.{logs_kept, logs_served, offer_is_told, offered_goes}
use Rattle.driver_steps.proofs.by_view.offer_by.Goals as goal

pub returns-in-Some-clause-serves : goal.returns-in-Some-clause-serves
returns-in-Some-clause-serves g c =
    let s = g.V.View.shows c.args.view.now in
    let is : offering_of s c.args.client c.args.registration ≡ Some c.in-Some.request = search rules in
    let asked : option_map (λ request. request.source) (offering_of s c.args.client c.args.registration) ≡ Some c.in-Some.request.source = ap (option_map (λ request. request.source)) is in
    logs_served _ _ _ c.in-Some.request.source (offer_move s c.args.now c.args.client c.args.registration c.args.message.now) (OfferedAs Closed) _
    (λ e. offered_goes s e c.args.now c.args.client c.args.registration c.args.message.now (offering_of s c.args.client c.args.registration) c.in-Some.request.source asked)
    tt (offer_is_told s c.args.now c.args.client c.args.registration c.args.message.now) c.offer.ensures.moved

pub returns-in-Some-clause-decides : goal.returns-in-Some-clause-decides
returns-in-Some-clause-decides g c =
    let s = g.V.View.shows c.args.view.now in
    let is : offering_of s c.args.client c.args.registration ≡ Some c.in-Some.request = search rules in
    let asked : option_map (λ request. request.source) (offering_of s c.args.client c.args.registration) ≡ Some c.in-Some.request.source = ap (option_map (λ request. request.source)) is in
    offer_decided_first s c.args.logs.now c.args.client c.args.registration c.in-Some.request.source c.offer.result.decision asked c.offer.ensures.decides

pub returns-in-Some-clause-kept : goal.returns-in-Some-clause-kept
returns-in-Some-clause-kept g c = logs_kept _ _ c.in-Some.request.source _ _ _ c.offer.ensures.moved
