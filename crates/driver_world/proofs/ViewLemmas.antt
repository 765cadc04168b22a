-- Registries that are made again, and seats that are taken.
use Rattle.std.proofs.Common.{◌≡◌, ℕ, zero, suc, arith, slice_index_or, ◌+◌, ◌<◌, ◌==◌, Bool, true, false, cond, Option, Some, None, List, [], ◌∷◌, ◌++◌, length, get_or, take, refl, sym, ap, ◌∙◌}
use Rattle.std.proofs.lemmas.List.{take_more}
use Rattle.driver_core.specs.declared.state.event.Event.{Event}
use Rattle.driver_core.specs.declared.state.event.Inputs.{Inputs}
use Rattle.driver_core.specs.Conduct.{state_after, state_of}
use Rattle.driver_core.specs.State.{State}
use Rattle.driver_steps.proofs.EndLemmas.{state_of_both}
use Rattle.driver_world.specs.declared.seats.Seat.{Seat}
use Rattle.driver_world.specs.Views.{client_seated}
use Rattle.driver_world.proofs.PlaceLemmas.{changed, client_at}

abbrev pub Event_taken : Type 0
Event_taken = Event × Inputs

-- one event more
pub next_registry : (s : State) (all : List Event_taken) (at : ℕ) (one : Event_taken) → at < length all → one ≡ get_or all at one →
    state_of s (take (at + 1) all) ≡ state_after (state_of s (take at all)) one.0 one.1
next_registry s all at one within is =
    ap (state_of s) (take_more all at one within)
    ∙ state_of_both s (take at all) (get_or all at one ∷ [])
    ∙ ap (λ (o : Event_taken). state_after (state_of s (take at all)) o.0 o.1) (sym is)

-- what holds of each holds where one more stands behind them
pub all_push : {A : Type 0} (P : A → Type 0) (xs : List A) (y : A) → ((k : ℕ) (d : A) → k < length xs → P (slice_index_or xs k d)) → P y →
    (k : ℕ) (d : A) → k < length (xs ++ y ∷ []) → P (slice_index_or (xs ++ y ∷ []) k d)
all_push P [] y all new zero d within = new
all_push P [] y all new (suc k) d within = absurd (omega (arith, within))
all_push P (x ∷ xs) y all new zero d within = all zero d (omega arith)
all_push P (x ∷ xs) y all new (suc k) d within =
    all_push P xs y (λ j e less. all (suc j) e (omega (arith, less))) new k d (omega (arith, within))

pub seated_changed : (id : ℕ) (seat : Seat) (clients : List (ℕ × Seat)) → client_seated id seat clients ≡ changed id seat clients
seated_changed id seat [] = refl
seated_changed id seat (client ∷ others) =
    ap (λ t. let l : List (ℕ × Seat) = cond (client.0 == id) ((client.0, seat) ∷ others) (client ∷ t) in l) (seated_changed id seat others)

absent_step : (b : Bool) (seat : Seat) (client : ℕ × Seat) (others told : List (ℕ × Seat)) (found : Option (ℕ × Seat)) →
    cond b (Some client) found ≡ None → (found ≡ None → told ≡ others) →
    cond b ((client.0, seat) ∷ others) (client ∷ told) ≡ client ∷ others
absent_step true seat client others told found is rest = absurd (cc)
absent_step false seat client others told found is rest = ap (λ t. client ∷ t) (rest is)

-- a client that no attach named
pub unseated : (id : ℕ) (seat : Seat) (clients : List (ℕ × Seat)) → client_at clients id ≡ None → client_seated id seat clients ≡ clients
unseated id seat [] is = refl
unseated id seat (client ∷ others) is =
    absent_step (client.0 == id) seat client others (client_seated id seat others) (client_at others id) is (unseated id seat others)
