-- Which addresses are among those that were learnt, once one is learnt or some are forgotten.
use Rattle.std.proofs.Common.{◌≡◌, ℕ, ◌==◌, Bool, true, false, cond, List, [], ◌∷◌, ◌++◌, map, filter, max, Contains, ⊎_elim, refl, sym, ap₂, ◌∙◌}
use Rattle.std.specs.Str.{bytes_eq}
use Rattle.std.proofs.lemmas.Bool.{and_parts, eq-eqb, eqb-true, false_from_ne_true}
use Rattle.std.proofs.lemmas.List.Elements.{Contains-append_left, Contains-push_cases}
use Rattle.std.proofs.lemmas.Slice.Eq.{bytes_eq-Decides}
use Rattle.channel_uri.specs.declared.address.Address.{Address}
use Rattle.channel_uri.specs.Address.{is_same}
use Rattle.driver_core.proofs.ListLemmas.{left_was_there, passes_are_left}
use Rattle.driver_laws.proofs.DroppingLemmas.{is_any}
use Rattle.learnt_addresses.specs.declared.learning.Learning.{Learning}
use Rattle.learnt_addresses.specs.declared.learning.Learning.TheVariants.{Full, Learnt, Renewed}
use Rattle.learnt_addresses.specs.declared.learnt_address.LearntAddress.{LearntAddress}
use Rattle.learnt_addresses.specs.LearntAddresses.{has, heard_again, is_at, learnt_as}

-- ---- one address

abbrev address_from : List ℕ → ℕ → Address
address_from octets port = record { octets = octets; port = port }

pub same_address : (a b : Address) → is_same a b ≡ true → a ≡ b
same_address a b same =
    let parts = and_parts (bytes_eq a.octets b.octets) (a.port == b.port) same in
    ap₂ address_from ((bytes_eq-Decides a.octets b.octets).0 parts.0) (eqb-true a.port b.port parts.1)

at_itself : (address : Address) → is_same address address ≡ true
at_itself address =
    rw ((bytes_eq-Decides address.octets address.octets).1 refl, eq-eqb address.port address.port refl) refl

-- the address of a row is there
has_of : (rows : List LearntAddress) (row : LearntAddress) → Contains rows row → has rows row.address ≡ true
has_of rows row there = is_any (is_at row.address) rows row there (at_itself row.address)

pub missing : (rows : List LearntAddress) (row : LearntAddress) → Contains rows row → has rows row.address ≡ false → ⊥
missing rows row there lacks = let never : true ≡ false = sym (has_of rows row there) ∙ lacks in absurd (cc never)

-- ---- one is learnt, or heard of again

heard_address : (now : ℕ) (address : Address) (row : LearntAddress) → (heard_again now address row).address ≡ row.address
heard_address now address row = by (is_at address row)
  where
    by : (b : Bool) → (cond {A = LearntAddress} b (record row { heard = max row.heard now }) row).address ≡ row.address
    by true = refl
    by false = refl

has_renewed : (now : ℕ) (address other : Address) (rows : List LearntAddress) → has (map (heard_again now address) rows) other ≡ has rows other
has_renewed now address other [] = refl
has_renewed now address other (row ∷ rows) = rw (heard_address now address row, has_renewed now address other rows) refl

abbrev pub learnt_at : ℕ → Address → LearntAddress
learnt_at now from = record { address = from; heard = now }

-- only the one is new
pub new_by : (answer : Learning) (now : ℕ) (from : Address) (rows : List LearntAddress) (row : LearntAddress) →
    has rows row.address ≡ false → Contains (learnt_as answer now from rows) row → learnt_at now from ≡ row
new_by Renewed now from rows row lacks there =
    absurd (missing (map (heard_again now from) rows) row there (has_renewed now from row.address rows ∙ lacks))
new_by Learnt now from rows row lacks there =
    ⊎_elim (λ was. absurd (missing rows row was lacks)) (λ same. same) (Contains-push_cases rows (learnt_at now from) row there)
new_by Full now from rows row lacks there = absurd (missing rows row there lacks)

-- none goes
pub stays_by : (answer : Learning) (now : ℕ) (from : Address) (rows : List LearntAddress) (row : LearntAddress) → Contains rows row →
    has (learnt_as answer now from rows) row.address ≡ false → ⊥
stays_by Renewed now from rows row there lacks = missing rows row there (sym (has_renewed now from row.address rows) ∙ lacks)
stays_by Learnt now from rows row there lacks =
    missing (rows ++ learnt_at now from ∷ []) row (Contains-append_left rows (learnt_at now from ∷ []) row there) lacks
stays_by Full now from rows row there lacks = missing rows row there lacks

-- ---- some go

-- none is new
pub kept_was : (keeps : LearntAddress → Bool) (rows : List LearntAddress) (row : LearntAddress) → has rows row.address ≡ false →
    Contains (filter keeps rows) row → ⊥
kept_was keeps rows row lacks there = missing rows row (left_was_there keeps rows row there) lacks

-- one that goes does not pass
pub gone_by : (keeps : LearntAddress → Bool) (rows : List LearntAddress) (row : LearntAddress) → Contains rows row →
    has (filter keeps rows) row.address ≡ false → keeps row ≡ false
gone_by keeps rows row there lacks =
    false_from_ne_true (keeps row) (λ passes. missing (filter keeps rows) row (passes_are_left keeps rows row passes there) lacks)
