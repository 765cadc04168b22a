use Rattle.std.proofs.Common.{◌≡◌, ◌<◌, List, length, Some, None, sym, ap, subst, ◌∙◌}
use Rattle.std.specs.Vec.{vec_capacity}
use Rattle.std.specs.Prelude.{slice_set}
use Rattle.std.proofs.lemmas.List.{get_or_default, set-get_or}
use Rattle.log_steps.specs.declared.answer.Answer.TheVariants.{Gone}
use Rattle.log_steps.specs.Held.{HeldLog, LiesAsBefore}
use Rattle.driver_steps.specs.OpenLogs.{HeldLogs, place_at, GivesFirst, MovesFirst}
use Rattle.log_steps.specs.Memory.{Gives}
use Rattle.log_steps.specs.Moves.{Does, for_source}
use Rattle.log_steps.specs.Reporting.{image_move}
use Rattle.log_steps.proofs.ResultLemmas.{err_each, ok_each}
use Rattle.driver_steps.proofs.OpenLogLemmas.{found_at, moves_none}
use Rattle.driver_steps.proofs.FirstLemmas.{gives_for, moves_for}
use Rattle.driver_steps.proofs.HousedLemmas.{housed_set}
use Rattle.driver_steps.proofs.open_logs.OpenLogs.image.Goals as goal

pub returns-in_default-clause-moved : goal.returns-in_default-clause-moved
returns-in_default-clause-moved g c =
    let old : HeldLogs = record { pages = c.self.inside.arena.home.pages; logs = c.self.inside.logs.items; room = vec_capacity c.self.inside.logs } in
    let move = image_move (g.V.View.shows c.args.view.now) c.args.now in
    let none : place_at old.logs c.args.source ≡ None =
    ap (λ l. place_at l c.args.source) (sym c.as_slice.ensures.value) ∙ sym c.place_of.ensures ∙ c.in_default.is in
    subst (λ (h : HeldLogs). MovesFirst c.args.source move Gone h h Gone) c.self.view_is
    (moves_none c.args.source move Gone old none)

pub invariant_of-self : goal.invariant_of-self
invariant_of-self g c =
    let logs : List HeldLog = c.self.inside.logs.items in
    let place : place_at logs c.args.source ≡ Some c.in-Some.at =
    ap (λ l. place_at l c.args.source) (sym c.as_slice.ensures.value) ∙ sym c.place_of.ensures ∙ c.in-Some.is in
    let within : c.in-Some.at < length logs = (found_at logs c.args.source c.in-Some.at place).0 in
    housed_set c.self.inside.arena logs c.in-Some.at c.image_step.new.log (λ d.
    let was = get_or_default logs c.in-Some.at d c.index_mut.result.now within ∙ sym c.index_mut.ensures.value in
    subst (λ (h : HeldLog). LiesAsBefore h c.image_step.new.log) (sym was) c.image_step.ensures.lies) c.self.invariant

pub returns-clause-moved : goal.returns-clause-moved
returns-clause-moved g c =
    let old : HeldLogs = record { pages = c.self.inside.arena.home.pages; logs = c.self.inside.logs.items; room = vec_capacity c.self.inside.logs } in
    let held : HeldLog = c.index_mut.result.now in
    let log : HeldLog = c.image_step.new.log in
    let move = image_move (g.V.View.shows c.args.view.now) c.args.now in
    let place : place_at old.logs c.args.source ≡ Some c.in-Some.at =
    ap (λ l. place_at l c.args.source) (sym c.as_slice.ensures.value) ∙ sym c.place_of.ensures ∙ c.in-Some.is in
    let new : HeldLogs = record { pages = old.pages; logs = slice_set old.logs c.in-Some.at log; room = old.room } in
    ok_each (λ answer. Does (for_source c.args.source move Gone) held log answer) (λ answer. MovesFirst c.args.source move Gone c.args.self.now new answer)
    (λ answer does.
    subst (λ (h : HeldLogs). MovesFirst c.args.source move Gone h new answer) c.self.view_is
    (moves_for c.args.source move Gone answer old c.in-Some.at held log place c.index_mut.ensures.value does c.image_step.ensures.lies))
    c.image_step.result c.image_step.ensures.does

pub returns-clause-err : goal.returns-clause-err
returns-clause-err g c =
    let logs : List HeldLog = c.self.inside.logs.items in
    let held : HeldLog = c.index_mut.result.now in
    let log : HeldLog = c.image_step.new.log in
    let new : HeldLogs = record { pages = c.self.inside.arena.home.pages; logs = slice_set logs c.in-Some.at log; room = vec_capacity c.self.inside.logs } in
    err_each (log ≡ held) (new ≡ c.args.self.now)
    (λ same.
    ap (λ l. let h : HeldLogs = record { pages = c.self.inside.arena.home.pages; logs = l; room = vec_capacity c.self.inside.logs } in h)
    (ap (λ h. slice_set logs c.in-Some.at h) (same ∙ c.index_mut.ensures.value) ∙ set-get_or logs c.in-Some.at held)
    ∙ c.self.view_is)
    c.image_step.result c.image_step.ensures.err

pub returns-clause-without_memory : goal.returns-clause-without_memory
returns-clause-without_memory g c =
    let old : HeldLogs = record { pages = c.self.inside.arena.home.pages; logs = c.self.inside.logs.items; room = vec_capacity c.self.inside.logs } in
    let held : HeldLog = c.index_mut.result.now in
    let move = image_move (g.V.View.shows c.args.view.now) c.args.now in
    let place : place_at old.logs c.args.source ≡ Some c.in-Some.at =
    ap (λ l. place_at l c.args.source) (sym c.as_slice.ensures.value) ∙ sym c.place_of.ensures ∙ c.in-Some.is in
    err_each (Gives (for_source c.args.source move Gone) held) (GivesFirst c.args.source move c.args.self.now)
    (λ gives.
    subst (λ (h : HeldLogs). GivesFirst c.args.source move h) c.self.view_is
    (gives_for c.args.source move Gone old c.in-Some.at held place c.index_mut.ensures.value gives))
    c.image_step.result c.image_step.ensures.without_memory
