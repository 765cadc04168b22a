-- Whom clients act for, as clients come, are heard of and go.
use Rattle.std.proofs.Common.{◌≡◌, ℕ, ◌==◌, Bool, true, false, not, cond, List, [], ◌∷◌, ◌++◌, map, filter, Option, Some, is_some, get_or, max, refl, ap, ◌∙◌, eqb-true}
use Rattle.std.specs.Prelude.{All}
use Rattle.std.specs.Option.{option_map}
use Rattle.log_readers.specs.Numbering.{IsOwned}
use Rattle.stream_registry.specs.declared.row.Subscription.{Subscription}
use Rattle.client_registry.specs.declared.client.Client.{Client}
use Rattle.client_registry.specs.Clients.{client_at, heard_one, is_other, principal_at}

-- the client whose subscription it is acts for the same one in both lists
abbrev pub IsFoundAlike : List Client → List Client → Subscription → Type 0
IsFoundAlike clients others row = principal_at others row.client ≡ principal_at clients row.client

abbrev acts_for : Option Client → Option ℕ
acts_for found = option_map (λ (client : Client). client.principal) found

-- ---- a client comes

behind : (is_it : Bool) (one : Client) (found more : Option Client) →
    (is_some (acts_for found) ≡ true → acts_for more ≡ acts_for found) → is_some (acts_for (cond is_it (Some one) found)) ≡ true →
    acts_for (cond is_it (Some one) more) ≡ acts_for (cond is_it (Some one) found)
behind true one found more h known = refl
behind false one found more h known = h known

principal_more : (clients : List Client) (client : Client) (number : ℕ) → is_some (principal_at clients number) ≡ true →
    principal_at (clients ++ client ∷ []) number ≡ principal_at clients number
principal_more [] client number known = absurd (cc)
principal_more (one ∷ clients) client number known =
    behind (one.number == number) one (client_at clients number) (client_at (clients ++ client ∷ []) number)
    (principal_more clients client number) known

pub found_with : (clients : List Client) (client : Client) (subs : List Subscription) → All (IsOwned clients) subs →
    All (IsFoundAlike clients (clients ++ client ∷ [])) subs
found_with clients client subs owned k d within = principal_more clients client (get_or subs k d).client (owned k d within)

-- ---- a client is heard of

heard_number : (b : Bool) (now : ℕ) (client : Client) → (cond b (record client { heard = max client.heard now }) client).number ≡ client.number
heard_number true now client = refl
heard_number false now client = refl

heard_principal : (b : Bool) (now : ℕ) (client : Client) →
    (cond b (record client { heard = max client.heard now }) client).principal ≡ client.principal
heard_principal true now client = refl
heard_principal false now client = refl

either : (is_it : Bool) (one other : Client) (found more : Option Client) → other.principal ≡ one.principal →
    acts_for more ≡ acts_for found → acts_for (cond is_it (Some other) more) ≡ acts_for (cond is_it (Some one) found)
either true one other found more same h = ap Some same
either false one other found more same h = h

principal_heard : (clients : List Client) (heard now number : ℕ) →
    principal_at (map (heard_one heard now) clients) number ≡ principal_at clients number
principal_heard [] heard now number = refl
principal_heard (one ∷ clients) heard now number =
    ap (λ (n : ℕ). acts_for (cond (n == number) (Some (heard_one heard now one)) (client_at (map (heard_one heard now) clients) number)))
    (heard_number (one.number == heard) now one)
    ∙ either (one.number == number) one (heard_one heard now one) (client_at clients number)
    (client_at (map (heard_one heard now) clients) number) (heard_principal (one.number == heard) now one)
    (principal_heard clients heard now number)

pub found_heard : (clients : List Client) (heard now : ℕ) (subs : List Subscription) →
    All (IsFoundAlike clients (map (heard_one heard now) clients)) subs
found_heard clients heard now subs k d within = principal_heard clients heard now (get_or subs k d).client

-- ---- a client goes

found_without : (is_it gone : Bool) (one : Client) (found others : Option Client) → (is_it ≡ true → gone ≡ false) →
    acts_for others ≡ acts_for found → (rest : List Client) (number : ℕ) → client_at rest number ≡ others →
    (one.number == number) ≡ is_it →
    acts_for (client_at (cond (not gone) (one ∷ rest) rest) number) ≡ acts_for (cond is_it (Some one) found)
found_without true true one found others k h rest number e f = let no = k refl in absurd (cc)
found_without true false one found others k h rest number e f = rw f refl
found_without false true one found others k h rest number e f = rw e h
found_without false false one found others k h rest number e f = rw (f, e) h

principal_without : (clients : List Client) (client number : ℕ) → (number == client) ≡ false →
    principal_at (filter (is_other client) clients) number ≡ principal_at clients number
principal_without [] client number h = refl
principal_without (one ∷ clients) client number h =
    found_without (one.number == number) (one.number == client) one (client_at clients number)
    (client_at (filter (is_other client) clients) number)
    (λ e. ap (λ (n : ℕ). n == client) (eqb-true one.number number e) ∙ h)
    (principal_without clients client number h) (filter (is_other client) clients) number refl refl

pub found_left : (clients : List Client) (client : ℕ) (subs : List Subscription) →
    All (λ row. (row.client == client) ≡ false) subs → All (IsFoundAlike clients (filter (is_other client) clients)) subs
found_left clients client subs others k d within =
    principal_without clients client (get_or subs k d).client (others k d within)

-- who is found alike is there as well
pub owned_alike : (clients others : List Client) (subs : List Subscription) → All (IsFoundAlike clients others) subs →
    All (IsOwned clients) subs → All (IsOwned others) subs
owned_alike clients others subs found owned k d within = ap is_some (found k d within) ∙ owned k d within
