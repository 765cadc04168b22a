use Rattle.std.proofs.Common.{◌≡◌, ◌<◌, List, length, Some, None, sym, ap, subst, ◌∙◌}
use Rattle.std.specs.Vec.{vec_capacity}
use Rattle.std.proofs.lemmas.List.{get_or_default}
use Rattle.std.specs.Prelude.{slice_set}
use Rattle.log_steps.specs.declared.answer.Answer.TheVariants.{Offered as OfferedAs}
use Rattle.log_steps.specs.declared.answer.Offered.TheVariants.{Closed}
use Rattle.log_steps.specs.Held.{HeldLog, LiesAsBefore}
use Rattle.driver_steps.specs.OpenLogs.{HeldLogs, place_at, MovesFirst, DecidesFirst}
use Rattle.log_steps.specs.Moves.{offer_move}
use Rattle.driver_steps.proofs.OpenLogLemmas.{found_at, moves_at, moves_none}
use Rattle.log_steps.specs.Decided.{offer_decision}
use Rattle.driver_steps.proofs.EndDecisionLemmas.{decides_at, decides_none}
use Rattle.driver_steps.proofs.HousedLemmas.{housed_set}
use Rattle.driver_steps.proofs.open_logs.OpenLogs.offer.Goals as goal

pub returns-in_default-clause-moved : goal.returns-in_default-clause-moved
returns-in_default-clause-moved g c =
    let old : HeldLogs = record { pages = c.self.inside.arena.home.pages; logs = c.self.inside.logs.items; room = vec_capacity c.self.inside.logs } in
    let move = offer_move (g.V.View.shows c.args.view.now) c.args.now c.args.client c.args.registration c.args.message.now in
    let none : place_at old.logs c.args.request.now.source ≡ None =
    ap (λ l. place_at l c.args.request.now.source) (sym c.as_slice.ensures.value) ∙ sym c.place_of.ensures ∙ c.in_default.is in
    subst (λ (h : HeldLogs). MovesFirst c.args.request.now.source move (OfferedAs Closed) h h (OfferedAs Closed)) c.self.view_is
    (moves_none c.args.request.now.source move (OfferedAs Closed) old none)

pub invariant_of-self : goal.invariant_of-self
invariant_of-self g c =
    let logs : List HeldLog = c.self.inside.logs.items in
    let place : place_at logs c.args.request.now.source ≡ Some c.in-Some.at =
    ap (λ l. place_at l c.args.request.now.source) (sym c.as_slice.ensures.value) ∙ sym c.place_of.ensures ∙ c.in-Some.is in
    let within : c.in-Some.at < length logs = (found_at logs c.args.request.now.source c.in-Some.at place).0 in
    housed_set c.self.inside.arena logs c.in-Some.at c.offer_asked.new.log (λ d.
    let was = get_or_default logs c.in-Some.at d c.index_mut.result.now within ∙ sym c.index_mut.ensures.value in
    subst (λ (h : HeldLog). LiesAsBefore h c.offer_asked.new.log) (sym was) c.offer_asked.ensures.lies) c.self.invariant

pub returns-clause-moved : goal.returns-clause-moved
returns-clause-moved g c =
    let old : HeldLogs = record { pages = c.self.inside.arena.home.pages; logs = c.self.inside.logs.items; room = vec_capacity c.self.inside.logs } in
    let move = offer_move (g.V.View.shows c.args.view.now) c.args.now c.args.client c.args.registration c.args.message.now in
    let place : place_at old.logs c.args.request.now.source ≡ Some c.in-Some.at =
    ap (λ l. place_at l c.args.request.now.source) (sym c.as_slice.ensures.value) ∙ sym c.place_of.ensures ∙ c.in-Some.is in
    let new : HeldLogs = record { pages = old.pages; logs = slice_set old.logs c.in-Some.at c.offer_asked.new.log; room = old.room } in
    subst (λ (h : HeldLogs). MovesFirst c.args.request.now.source move (OfferedAs Closed) h new c.offer_asked.result.answer) c.self.view_is
    (moves_at c.args.request.now.source move (OfferedAs Closed) c.offer_asked.result.answer old c.in-Some.at c.index_mut.result.now c.offer_asked.new.log place
    c.index_mut.ensures.value c.offer_asked.ensures.does c.offer_asked.ensures.lies)

pub returns-in_default-clause-decides : goal.returns-in_default-clause-decides
returns-in_default-clause-decides g c =
    let old : HeldLogs = record { pages = c.self.inside.arena.home.pages; logs = c.self.inside.logs.items; room = vec_capacity c.self.inside.logs } in
    let decide = offer_decision (g.V.View.shows c.args.view.now) c.args.client c.args.registration in
    let none : place_at old.logs c.args.request.now.source ≡ None =
    ap (λ l. place_at l c.args.request.now.source) (sym c.as_slice.ensures.value) ∙ sym c.place_of.ensures ∙ c.in_default.is in
    subst (λ (h : HeldLogs). DecidesFirst c.args.request.now.source decide None h) c.self.view_is
    (decides_none c.args.request.now.source decide old none)

pub returns-clause-decides : goal.returns-clause-decides
returns-clause-decides g c =
    let old : HeldLogs = record { pages = c.self.inside.arena.home.pages; logs = c.self.inside.logs.items; room = vec_capacity c.self.inside.logs } in
    let decide = offer_decision (g.V.View.shows c.args.view.now) c.args.client c.args.registration in
    let place : place_at old.logs c.args.request.now.source ≡ Some c.in-Some.at =
    ap (λ l. place_at l c.args.request.now.source) (sym c.as_slice.ensures.value) ∙ sym c.place_of.ensures ∙ c.in-Some.is in
    subst (λ (h : HeldLogs). DecidesFirst c.args.request.now.source decide c.offer_asked.result.decision h) c.self.view_is
    (decides_at c.args.request.now.source decide old c.in-Some.at c.index_mut.result.now c.offer_asked.result.decision place
    c.index_mut.ensures.value c.offer_asked.ensures.decides)
