use Rattle.std.proofs.Common.{ℕ, ◌==◌, Bool, cond, Option, Some, None, sym, ap, ◌∙◌, eq-eqb, ne_eqb}
use Rattle.driver_core.specs.State.{State}
use Rattle.driver_core.proofs.SearchLemmas.{own_found, where_it}
use Rattle.driver_core.proofs.state.registry.Registry.own_registration.Goals as goal
use Rattle.log_readers.specs.Numbering.{registered_as}
use Rattle.stream_registry.specs.declared.row.Registration.{Registration}

abbrev is_of : ℕ → Registration → Bool
is_of client registration = registration.client == client

pub returns-then-registration-client : goal.returns-then-registration-client
returns-then-registration-client c =
    let s : State = c.args.self.now in
    let none : Option Registration = None in
    ap (λ (b : Bool). cond b (Some c.in-Some.registration.now) none) (sym (eq-eqb c.in-Some.registration.now.client c.args.client c.if-registration-client.true))
    ∙ ap (where_it (is_of c.args.client)) c.in-Some.ensures.found
    ∙ own_found registered_as (is_of c.args.client) c.args.number 0 s.last_number s.streams.registrations c.in-Some.ensures.order

pub returns-else-registration-client : goal.returns-else-registration-client
returns-else-registration-client c =
    let s : State = c.args.self.now in
    let none : Option Registration = None in
    ap (λ (b : Bool). cond b (Some c.in-Some.registration.now) none) (sym (ne_eqb c.in-Some.registration.now.client c.args.client c.if-registration-client.false))
    ∙ ap (where_it (is_of c.args.client)) c.in-Some.ensures.found
    ∙ own_found registered_as (is_of c.args.client) c.args.number 0 s.last_number s.streams.registrations c.in-Some.ensures.order

pub returns-in-None : goal.returns-in-None
returns-in-None c =
    let s : State = c.args.self.now in
    ap (where_it (is_of c.args.client)) c.in-None.ensures.found
    ∙ own_found registered_as (is_of c.args.client) c.args.number 0 s.last_number s.streams.registrations c.in-None.ensures.order
