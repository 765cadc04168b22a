-- What is kept of clients, by their ids: the first of an id, and where it stands.
use Rattle.std.proofs.Common.{◌≡◌, ℕ, suc, ◌+◌, ◌<◌, ◌≤◌, ◌==◌, Bool, true, false, not, cond, List, [], ◌∷◌, length, get_or, find, Option, Some, None, refl, ap, subst, ◌∙◌, arith}
use Rattle.std.specs.Prelude.{nat_lt, position, slice_set}
use Rattle.std.specs.List.{position_or_len}
use Rattle.std.proofs.lemmas.Bool.{ltb-true, ltb-false}

abbrev pub client_at : {X : Type 0} → List (ℕ × X) → ℕ → Option (ℕ × X)
client_at clients id = find (λ client. client.0 == id) clients

-- it keeps that now
abbrev pub changed : {X : Type 0} → ℕ → X → List (ℕ × X) → List (ℕ × X)
changed id new [] = []
changed id new (client ∷ others) = cond (client.0 == id) ((client.0, new) ∷ others) (client ∷ changed id new others)

record Points {X : Type 0} (clients : List (ℕ × X)) (found : Option (ℕ × X)) (with_new : X → List (ℕ × X)) (at : ℕ) : Type 0 where
  there : at < length clients → (d : ℕ × X) → found ≡ Some (get_or clients at d)
  written : at < length clients → (new : X) (d : ℕ × X) → with_new new ≡ slice_set clients at ((get_or clients at d).0, new)
  past : length clients ≤ at → found ≡ None

first_step : {X : Type 0} (b : Bool) (first : ℕ × X) (clients : List (ℕ × X)) (found : Option (ℕ × X)) (with_new : X → List (ℕ × X)) (at : ℕ)
    → Points clients found with_new at
    → Points (first ∷ clients) (cond b (Some first) found) (λ new. cond b ((first.0, new) ∷ clients) (first ∷ with_new new))
    (cond (not b) (1 + at) 0)
first_step true first clients found with_new at rest = record {
  there = λ l d. refl;
  written = λ l new d. refl;
  past = λ l. absurd (omega arith);
}
first_step false first clients found with_new at rest = record {
  there = λ l d. rest.there (omega arith) d ∙ ap (λ n. Some (get_or (first ∷ clients) n d)) (let e : suc at ≡ 1 + at = omega arith in e);
  written = λ l new d.
      ap (λ t. first ∷ t) (rest.written (omega arith) new d)
      ∙ ap (λ n. slice_set (first ∷ clients) n ((get_or (first ∷ clients) n d).0, new)) (let e : suc at ≡ 1 + at = omega arith in e);
  past = λ l. rest.past (omega arith);
}

points : {X : Type 0} (clients : List (ℕ × X)) (id : ℕ)
    → Points clients (client_at clients id) (λ new. changed id new clients) (position_or_len (λ client. client.0 == id) clients)
points [] id = record { there = λ l d. absurd (omega arith); written = λ l new d. absurd (omega arith); past = λ l. refl }
points (first ∷ clients) id =
    first_step (first.0 == id) first clients (client_at clients id) (λ new. changed id new clients)
    (position_or_len (λ client. client.0 == id) clients) (points clients id)

abbrev number_of : Option ℕ → ℕ
number_of None = 0
number_of (Some n) = n

pub found_at : {X : Type 0} (clients : List (ℕ × X)) (id at : ℕ) → position (λ client. client.0 == id) clients ≡ Some at
    → (at < length clients) × ((d : ℕ × X) → client_at clients id ≡ Some (get_or clients at d))
    × ((new : X) (d : ℕ × X) → changed id new clients ≡ slice_set clients at ((get_or clients at d).0, new))
found_at {X = X} clients id at is = by (nat_lt n (length clients)) refl is
  where
    n : ℕ
    n = position_or_len (λ client. client.0 == id) clients

    by : (b : Bool) → nat_lt n (length clients) ≡ b → cond b (Some n) None ≡ Some at
        → (at < length clients) × ((d : ℕ × X) → client_at clients id ≡ Some (get_or clients at d))
        × ((new : X) (d : ℕ × X) → changed id new clients ≡ slice_set clients at ((get_or clients at d).0, new))
    by true low e =
        let same : n ≡ at = ap number_of e in
        let within : n < length clients = ltb-true n (length clients) low in
        let told = points clients id in
        subst (λ k. (k < length clients) × ((d : ℕ × X) → client_at clients id ≡ Some (get_or clients k d))
        × ((new : X) (d : ℕ × X) → changed id new clients ≡ slice_set clients k ((get_or clients k d).0, new))) same
        (within, told.there within, told.written within)
    by false low e = absurd (cc)

pub found_nowhere : {X : Type 0} (clients : List (ℕ × X)) (id : ℕ) → position (λ client. client.0 == id) clients ≡ None → client_at clients id ≡ None
found_nowhere {X = X} clients id is = by (nat_lt n (length clients)) refl is
  where
    n : ℕ
    n = position_or_len (λ client. client.0 == id) clients

    by : (b : Bool) → nat_lt n (length clients) ≡ b → cond b (Some n) None ≡ None → client_at clients id ≡ None
    by true low e = absurd (cc)
    by false low e = (points clients id).past (ltb-false n (length clients) low)
