-- Ids rise, whatever is done.
use Rattle.std.proofs.Common.{◌≡◌, ℕ, zero, suc, ◌+◌, ◌<◌, ◌≤◌, Bool, true, false, cond, List, [], ◌∷◌, ◌++◌, Some, Result, Ok, Err, map, refl, sym, ap, subst, ◌∙◌, arith, max}
use Rattle.std.proofs.lemmas.Bool.Decides.{nat_tests}
use Rattle.std.specs.Prelude.{filter, ◌==◌, slice_get}
use Rattle.client_registry.specs.declared.client.Client.{Client}
use Rattle.client_registry.specs.declared.error.AdmitError.{AdmitError}
use Rattle.client_registry.specs.declared.error.AdmitError.TheVariants.{Full}
use Rattle.client_registry.specs.Clients.{ClientList, has_room, admission, admitted, heard_one, touched, is_other, without, client_at}
use Rattle.client_registry.specs.Laws.{Rises, IsOrderly, StaysOrderly, AllAreFound}

-- ---- the list stays orderly

rises_below : (low lower last : ℕ) (rows : List Client) → lower ≤ low → Rises low last rows → Rises lower last rows
rises_below low lower last [] order rises = omega (arith, rises, order)
rises_below low lower last (row ∷ rows) order rises = (omega (arith, rises.0, order), rises.1)

within : (low last : ℕ) (rows : List Client) → Rises low last rows → low ≤ last
within low last [] rises = rises
within low last (row ∷ rows) rises = omega (arith, rises.0, within row.number last rows rises.1)

rises_more : (low last : ℕ) (rows : List Client) (client : Client) → client.number ≡ last + 1 → Rises low last rows →
    Rises low (last + 1) (rows ++ client ∷ [])
rises_more low last [] client next rises = (omega (arith, rises, next), omega (arith, next))
rises_more low last (row ∷ rows) client next rises = (rises.0, rises_more row.number last rows client next rises.1)

given : (b : Bool) (next number : ℕ) (answer : Result ℕ AdmitError) → answer ≡ cond b (Ok next) (Err Full) → answer ≡ Ok number → number ≡ next
given true next number answer is was = cc
given false next number answer is was = absurd (cc)

-- the id that a client is given is the next one
pub given_next : (clients : ClientList) (number : ℕ) (answer : Result ℕ AdmitError) → answer ≡ admission clients → answer ≡ Ok number → number ≡ clients.last + 1
unfolding admission
given_next clients number answer is was = given (has_room clients) (clients.last + 1) number answer is was

pub rises_next : (last number : ℕ) (rows : List Client) (client : Client) → number ≡ last + 1 → client.number ≡ number → Rises 0 last rows →
    Rises 0 number (rows ++ client ∷ [])
rises_next last number rows client next same rises =
    subst (λ (n : ℕ). Rises 0 n (rows ++ client ∷ [])) (sym next) (rises_more 0 last rows client (same ∙ next) rises)

heard_number : (number now : ℕ) (client : Client) → (heard_one number now client).number ≡ client.number
heard_number number now client =
    elim (client.number == number) as (λ b. (cond b (record client { heard = max client.heard now }) client).number ≡ client.number) [
      | true ↦ refl
      | false ↦ refl
    ]

pub rises_heard : (number now low last : ℕ) (rows : List Client) → Rises low last rows →
    Rises low last (map (heard_one number now) rows)
rises_heard number now low last [] rises = rises
rises_heard number now low last (row ∷ rows) rises =
    let same = heard_number number now row in
    let first : low < (heard_one number now row).number = subst (λ n. low < n) (sym same) rises.0 in
    let rest : Rises (heard_one number now row).number last (map (heard_one number now) rows) =
    subst (λ n. Rises n last (map (heard_one number now) rows)) (sym same) (rises_heard number now row.number last rows rises.1) in
    (first, rest)

pub rises_without : (number low last : ℕ) (rows : List Client) → Rises low last rows → Rises low last (filter (is_other number) rows)
rises_without number low last [] rises = rises
rises_without number low last (row ∷ rows) rises =
    let rest = rises_without number row.number last rows rises.1 in
    elim (is_other number row) as (λ b. Rises low last (cond b (row ∷ filter (is_other number) rows) (filter (is_other number) rows))) [
      | true ↦ (rises.0, rest)
      | false ↦ rises_below row.number low last (filter (is_other number) rows) (omega (arith, rises.0)) rest
    ]

admitted_orderly : (clients : ClientList) (principal now : ℕ) → IsOrderly clients → IsOrderly (admitted clients principal now)
unfolding admitted
admitted_orderly clients principal now orderly = rises_more 0 clients.last clients.rows _ refl orderly

touched_orderly : (clients : ClientList) (number now : ℕ) → IsOrderly clients → IsOrderly (touched clients number now)
unfolding touched
touched_orderly clients number now orderly = rises_heard number now 0 clients.last clients.rows orderly

without_orderly : (clients : ClientList) (number : ℕ) → IsOrderly clients → IsOrderly (without clients number)
unfolding without
without_orderly clients number orderly = rises_without number 0 clients.last clients.rows orderly

pub stays_orderly : StaysOrderly
stays_orderly = record {
  opened = λ liveness. omega arith;
  admitted = admitted_orderly;
  touched = touched_orderly;
  without = without_orderly;
  cleared = λ clients orderly. within 0 clients.last clients.rows orderly;
}

-- ---- each client is found

pub above : (low last : ℕ) (rows : List Client) (index : ℕ) (client : Client) → Rises low last rows →
    slice_get rows index ≡ Some client → low < client.number
above low last [] index client rises stands = absurd (cc)
above low last (row ∷ rows) zero client rises stands =
    let same : row ≡ client = cc in
    subst (λ (c : Client). low < c.number) same rises.0
above low last (row ∷ rows) (suc index) client rises stands =
    omega (arith, rises.0, above row.number last rows index client rises.1 stands)

found : (low last : ℕ) (rows : List Client) (index : ℕ) (client : Client) → Rises low last rows →
    slice_get rows index ≡ Some client → client_at rows client.number ≡ Some client
found low last [] index client rises stands = absurd (cc)
found low last (row ∷ rows) zero client rises stands =
    let same : row ≡ client = cc in
    let hit : (row.number == client.number) ≡ true = subst (λ (c : Client). (row.number == c.number) ≡ true) same (grind (arith, nat_tests)) in
    rw hit (ap Some same)
found low last (row ∷ rows) (suc index) client rises stands =
    let higher : row.number < client.number = above row.number last rows index client rises.1 stands in
    let miss : (row.number == client.number) ≡ false = grind (arith, nat_tests) in
    rw miss (found row.number last rows index client rises.1 stands)

pub all_are_found : AllAreFound
all_are_found clients index client orderly stands = found 0 clients.last clients.rows index client orderly stands
