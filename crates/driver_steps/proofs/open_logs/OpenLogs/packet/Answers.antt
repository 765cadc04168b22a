use Rattle.std.proofs.Common.{◌≡◌, ◌<◌, IfSome, List, Option, length, Some, None, sym, ap, subst, ◌∙◌}
use Rattle.std.specs.Vec.{vec_capacity}
use Rattle.std.specs.Prelude.{slice_set}
use Rattle.std.proofs.lemmas.List.{get_or_default, set-get_or}
use Rattle.log_traffic.specs.Held.{made_held}
use Rattle.log_steps.specs.Receiving.{unheard}
use Rattle.log_steps.specs.Packets.{IsFor, content_move}
use Rattle.driver_steps.specs.OpenLogs.{IsForFirst, HeldLogs, held_at, place_at, GivesFirst, MovesFirst, DecidesFirst}
use Rattle.frame_codec.specs.Datagram.{content}
use Rattle.policy_core.specs.declared.decision.Decision.{Decision}
use Rattle.log_steps.specs.Held.{HeldLog, LiesAsBefore}
use Rattle.log_steps.specs.Memory.{Gives}
use Rattle.log_steps.specs.Moves.{Does, WholeLog, for_source}
use Rattle.log_steps.proofs.ResultLemmas.{err_each, ok_each}
use Rattle.driver_steps.proofs.OpenLogLemmas.{found_at, moves_none}
use Rattle.log_steps.specs.Decided.{Decides, decision_for}
use Rattle.log_steps.specs.declared.answered.Answered.{Answered}
use Rattle.driver_steps.proofs.EndDecisionLemmas.{decides_none}
use Rattle.driver_steps.proofs.FirstLemmas.{decides_for, gives_for, moves_for}
use Rattle.driver_steps.proofs.HousedLemmas.{housed_set}
use Rattle.driver_steps.proofs.open_logs.OpenLogs.packet.Goals as goal

pub returns-in_default-clause-moved : goal.returns-in_default-clause-moved
returns-in_default-clause-moved c =
    let old : HeldLogs = record { pages = c.self.inside.arena.home.pages; logs = c.self.inside.logs.items; room = vec_capacity c.self.inside.logs } in
    let move = content_move c.args.now c.args.from.now c.args.request.now.decision (content c.args.packet) in
    let none : place_at old.logs c.args.request.now.source ≡ None =
    ap (λ l. place_at l c.args.request.now.source) (sym c.as_slice.ensures.value) ∙ sym c.place_of.ensures ∙ c.in_default.is in
    subst (λ (h : HeldLogs). MovesFirst c.args.request.now.source move unheard h h unheard) c.self.view_is
    (moves_none c.args.request.now.source move unheard old none)

pub packet_step-requires : goal.packet_step-requires
packet_step-requires c =
    let logs : List HeldLog = c.self.inside.logs.items in
    let held : HeldLog = c.index_mut.result.now in
    let source = c.args.request.now.source in
    let sent = content c.args.packet in
    let place : place_at logs source ≡ Some c.in-Some.at =
    ap (λ l. place_at l source) (sym c.as_slice.ensures.value) ∙ sym c.place_of.ensures ∙ c.in-Some.is in
    let found : held_at logs source ≡ Some held = (found_at logs source c.in-Some.at place).1 held ∙ ap Some (sym c.index_mut.ensures.value) in
    let given : IsForFirst logs source sent = subst (λ (h : HeldLogs). IsForFirst h.logs source sent) (sym c.self.view_is) c.requires in
    subst (λ (one : Option HeldLog). IfSome one (λ (h : HeldLog). IsFor (made_held h.log) sent)) found given

pub invariant_of-self : goal.invariant_of-self
invariant_of-self c =
    let logs : List HeldLog = c.self.inside.logs.items in
    let place : place_at logs c.args.request.now.source ≡ Some c.in-Some.at =
    ap (λ l. place_at l c.args.request.now.source) (sym c.as_slice.ensures.value) ∙ sym c.place_of.ensures ∙ c.in-Some.is in
    let within : c.in-Some.at < length logs = (found_at logs c.args.request.now.source c.in-Some.at place).0 in
    housed_set c.self.inside.arena logs c.in-Some.at c.packet_step.new.log (λ d.
    let was = get_or_default logs c.in-Some.at d c.index_mut.result.now within ∙ sym c.index_mut.ensures.value in
    subst (λ (h : HeldLog). LiesAsBefore h c.packet_step.new.log) (sym was) c.packet_step.ensures.lies) c.self.invariant

pub returns-clause-moved : goal.returns-clause-moved
returns-clause-moved c =
    let old : HeldLogs = record { pages = c.self.inside.arena.home.pages; logs = c.self.inside.logs.items; room = vec_capacity c.self.inside.logs } in
    let held : HeldLog = c.index_mut.result.now in
    let log : HeldLog = c.packet_step.new.log in
    let move = content_move c.args.now c.args.from.now c.args.request.now.decision (content c.args.packet) in
    let place : place_at old.logs c.args.request.now.source ≡ Some c.in-Some.at =
    ap (λ l. place_at l c.args.request.now.source) (sym c.as_slice.ensures.value) ∙ sym c.place_of.ensures ∙ c.in-Some.is in
    let new : HeldLogs = record { pages = old.pages; logs = slice_set old.logs c.in-Some.at log; room = old.room } in
    ok_each (λ (told : Answered). Does (for_source c.args.request.now.source move unheard) held log told.answer)
    (λ (told : Answered). MovesFirst c.args.request.now.source move unheard c.args.self.now new told.answer)
    (λ told does.
    subst (λ (h : HeldLogs). MovesFirst c.args.request.now.source move unheard h new told.answer) c.self.view_is
    (moves_for c.args.request.now.source move unheard told.answer old c.in-Some.at held log place c.index_mut.ensures.value does c.packet_step.ensures.lies))
    c.packet_step.result c.packet_step.ensures.does

pub returns-clause-err : goal.returns-clause-err
returns-clause-err c =
    let logs : List HeldLog = c.self.inside.logs.items in
    let held : HeldLog = c.index_mut.result.now in
    let log : HeldLog = c.packet_step.new.log in
    let new : HeldLogs = record { pages = c.self.inside.arena.home.pages; logs = slice_set logs c.in-Some.at log; room = vec_capacity c.self.inside.logs } in
    err_each (log ≡ held) (new ≡ c.args.self.now)
    (λ same.
    ap (λ l. let h : HeldLogs = record { pages = c.self.inside.arena.home.pages; logs = l; room = vec_capacity c.self.inside.logs } in h)
    (ap (λ h. slice_set logs c.in-Some.at h) (same ∙ c.index_mut.ensures.value) ∙ set-get_or logs c.in-Some.at held)
    ∙ c.self.view_is)
    c.packet_step.result c.packet_step.ensures.err

pub returns-clause-without_memory : goal.returns-clause-without_memory
returns-clause-without_memory c =
    let old : HeldLogs = record { pages = c.self.inside.arena.home.pages; logs = c.self.inside.logs.items; room = vec_capacity c.self.inside.logs } in
    let held : HeldLog = c.index_mut.result.now in
    let move = content_move c.args.now c.args.from.now c.args.request.now.decision (content c.args.packet) in
    let place : place_at old.logs c.args.request.now.source ≡ Some c.in-Some.at =
    ap (λ l. place_at l c.args.request.now.source) (sym c.as_slice.ensures.value) ∙ sym c.place_of.ensures ∙ c.in-Some.is in
    err_each (Gives (for_source c.args.request.now.source move unheard) held) (GivesFirst c.args.request.now.source move c.args.self.now)
    (λ gives.
    subst (λ (h : HeldLogs). GivesFirst c.args.request.now.source move h) c.self.view_is
    (gives_for c.args.request.now.source move unheard old c.in-Some.at held place c.index_mut.ensures.value gives))
    c.packet_step.result c.packet_step.ensures.without_memory

pub returns-in_default-clause-decides : goal.returns-in_default-clause-decides
returns-in_default-clause-decides c =
    let old : HeldLogs = record { pages = c.self.inside.arena.home.pages; logs = c.self.inside.logs.items; room = vec_capacity c.self.inside.logs } in
    let decide : WholeLog → Option Decision = λ log. c.args.request.now.decision in
    let none : place_at old.logs c.args.request.now.source ≡ None =
    ap (λ l. place_at l c.args.request.now.source) (sym c.as_slice.ensures.value) ∙ sym c.place_of.ensures ∙ c.in_default.is in
    subst (λ (h : HeldLogs). DecidesFirst c.args.request.now.source decide None h) c.self.view_is
    (decides_none c.args.request.now.source decide old none)

pub returns-clause-decides : goal.returns-clause-decides
returns-clause-decides c =
    let old : HeldLogs = record { pages = c.self.inside.arena.home.pages; logs = c.self.inside.logs.items; room = vec_capacity c.self.inside.logs } in
    let held : HeldLog = c.index_mut.result.now in
    let decide : WholeLog → Option Decision = λ log. c.args.request.now.decision in
    let place : place_at old.logs c.args.request.now.source ≡ Some c.in-Some.at =
    ap (λ l. place_at l c.args.request.now.source) (sym c.as_slice.ensures.value) ∙ sym c.place_of.ensures ∙ c.in-Some.is in
    ok_each (λ (told : Answered). Decides (decision_for c.args.request.now.source decide) held told.decision)
    (λ (told : Answered). DecidesFirst c.args.request.now.source decide told.decision c.args.self.now)
    (λ told decides.
    subst (λ (h : HeldLogs). DecidesFirst c.args.request.now.source decide told.decision h) c.self.view_is
    (decides_for c.args.request.now.source decide old c.in-Some.at held told.decision place c.index_mut.ensures.value decides))
    c.packet_step.result c.packet_step.ensures.decides
