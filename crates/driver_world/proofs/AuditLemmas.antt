-- The audits of clients, and what they are told.
use Rattle.std.proofs.Common.{◌≡◌, ℕ, ◌==◌, Bool, true, false, cond, List, [], ◌∷◌, ◌++◌, get_or, find, map, Option, Some, None, refl, sym, ap, subst, ◌∙◌}
use Rattle.std.specs.Prelude.{slice_set}
use Rattle.std.proofs.lemmas.List.{append-nil}
use Rattle.audit_ring.specs.Audit.{Kept, kept_of}
use Rattle.driver_world.specs.declared.actor.Actor.TheVariants as Actor
use Rattle.driver_world.specs.Audits.{Audits, Tells, kept_all, kept_client, place_at, told, told_client}
use Rattle.driver_world.proofs.PlaceLemmas.{changed, client_at, found_at, found_nowhere}
use Rattle.policy_core.specs.declared.decision.Decision.{Decision}

abbrev pub Client : Type 0
Client = ℕ × Kept

abbrev pub Whole : Type 0
Whole = ℕ × List Decision

abbrev pub whole_at : List Whole → ℕ → Option Whole
whole_at all id = find (λ client. client.0 == id) all

-- ---- of all that was decided

kept_step : (b : Bool) (client one : Whole) (found : Option Whole) (kept : Option Client) → (found ≡ Some one → kept ≡ Some (kept_client one)) →
    cond b (Some client) found ≡ Some one → cond b (Some (kept_client client)) kept ≡ Some (kept_client one)
kept_step true client one found kept rest is = let same : client ≡ one = cc is in ap (λ (c : Whole). Some (kept_client c)) same
kept_step false client one found kept rest is = rest is

kept_found : (all : List Whole) (id : ℕ) (one : Whole) → whole_at all id ≡ Some one →
    client_at (map kept_client all) id ≡ Some (kept_client one)
kept_found [] id one is = absurd (cc is)
kept_found (client ∷ others) id one is =
    kept_step (client.0 == id) client one (whole_at others id) (client_at (map kept_client others) id) (kept_found others id one) is

new_step : (b : Bool) (client : Whole) (others : List Whole) (more : List Decision) (new : Kept) (found : Option Whole)
    (kept : List Client) (told : List Whole) →
    ((one : Whole) → cond b (Some client) found ≡ Some one → new ≡ kept_of (one.1 ++ more)) →
    (((one : Whole) → found ≡ Some one → new ≡ kept_of (one.1 ++ more)) → kept ≡ map kept_client told) →
    cond b ((client.0, new) ∷ map kept_client others) (kept_client client ∷ kept)
    ≡ map kept_client (cond b ((client.0, client.1 ++ more) ∷ others) (client ∷ told))
new_step true client others more new found kept told is rest =
    ap (λ (k : Kept). (client.0, k) ∷ map kept_client others) (is client refl)
new_step false client others more new found kept told is rest = ap (λ t. kept_client client ∷ t) (rest is)

new_kept : (all : List Whole) (id : ℕ) (more : List Decision) (new : Kept) →
    ((one : Whole) → whole_at all id ≡ Some one → new ≡ kept_of (one.1 ++ more)) →
    changed id new (map kept_client all) ≡ map kept_client (told_client id more all)
new_kept [] id more new is = refl
new_kept (client ∷ others) id more new is =
    new_step (client.0 == id) client others more new (whole_at others id) (changed id new (map kept_client others)) (told_client id more others)
    is (new_kept others id more new)

-- the audit at that place is told more
pub told_at : (clients : List Client) (all : List Whole) (id at : ℕ) (more : List Decision) (old : Client) (new : Kept) →
    clients ≡ map kept_client all → place_at clients id ≡ Some at → old ≡ get_or clients at old →
    ((before : List Decision) → old.1 ≡ kept_of before → new ≡ kept_of (before ++ more)) →
    slice_set clients at (old.0, new) ≡ map kept_client (told_client id more all)
told_at clients all id at more old new kept place is pushed =
    let found = found_at clients id at place in
    let here : client_at (map kept_client all) id ≡ Some old =
    subst (λ c. client_at c id ≡ Some old) kept (found.1 old ∙ ap Some (sym is)) in
    ap (λ (c : Client). slice_set clients at (c.0, new)) is
    ∙ sym (found.2 new old)
    ∙ ap (λ c. changed id new c) kept
    ∙ new_kept all id more new (λ one there.
    let same : old ≡ kept_client one = cc (sym here ∙ kept_found all id one there) in
    pushed one.1 (ap (λ (c : Client). c.1) same))

absent_step : (b : Bool) (client : Whole) (others told : List Whole) (more : List Decision) (kept : Option Client) →
    cond b (Some (kept_client client)) kept ≡ None → (kept ≡ None → told ≡ others) →
    cond b ((client.0, client.1 ++ more) ∷ others) (client ∷ told) ≡ client ∷ others
absent_step true client others told more kept is rest = absurd (cc)
absent_step false client others told more kept is rest = ap (λ t. client ∷ t) (rest is)

absent_told : (all : List Whole) (id : ℕ) (more : List Decision) → client_at (map kept_client all) id ≡ None → told_client id more all ≡ all
absent_told [] id more is = refl
absent_told (client ∷ others) id more is =
    absent_step (client.0 == id) client others (told_client id more others) more (client_at (map kept_client others) id) is
    (absent_told others id more)

-- no audit is there, and nothing is told
pub told_nowhere : (clients : List Client) (all : List Whole) (id : ℕ) (more : List Decision) → clients ≡ map kept_client all →
    place_at clients id ≡ None → clients ≡ map kept_client (told_client id more all)
told_nowhere clients all id more kept none =
    let absent : client_at (map kept_client all) id ≡ None = subst (λ c. client_at c id ≡ None) kept (found_nowhere clients id none) in
    kept ∙ ap (map kept_client) (sym (absent_told all id more absent))

-- told nothing, an actor keeps what it has
untold_step : (b : Bool) (client : Whole) (others told : List Whole) → told ≡ others →
    cond b ((client.0, client.1 ++ []) ∷ others) (client ∷ told) ≡ client ∷ others
untold_step true client others told rest = ap (λ (l : List Decision). (client.0, l) ∷ others) (append-nil client.1)
untold_step false client others told rest = ap (λ t. client ∷ t) rest

pub untold : (id : ℕ) (all : List Whole) → told_client id [] all ≡ all
untold id [] = refl
untold id (client ∷ others) = untold_step (client.0 == id) client others (told_client id [] others) (untold id others)

-- ---- of an actor

-- a client is told more
pub tells_client : (old : Audits) (id at : ℕ) (more : List Decision) (client : Client) (new : Kept) →
    place_at old.clients id ≡ Some at → client ≡ get_or old.clients at client →
    ((before : List Decision) → client.1 ≡ kept_of before → new ≡ kept_of (before ++ more)) →
    Tells old (record old { clients = slice_set old.clients at (client.0, new) }) (told (Actor.Client id) more)
tells_client old id at more client new place is pushed = record {
  on = λ all kept.
      ap (λ (a : Audits). record a { clients = slice_set old.clients at (client.0, new) }) kept
      ∙ ap (λ clients. record (kept_all all) { clients = clients })
      (told_at old.clients all.clients id at more client new (ap (λ (a : Audits). a.clients) kept) place is pushed);
}

-- one that no attach named is told nothing
pub tells_nobody : (old : Audits) (id : ℕ) (more : List Decision) → place_at old.clients id ≡ None → Tells old old (told (Actor.Client id) more)
tells_nobody old id more none = record {
  on = λ all kept.
      ap (λ clients. record old { clients = clients })
      (told_nowhere old.clients all.clients id more (ap (λ (a : Audits). a.clients) kept) none)
      ∙ ap (λ (a : Audits). record a { clients = map kept_client (told_client id more all.clients) }) kept;
}
