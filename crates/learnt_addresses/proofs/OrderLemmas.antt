-- A table of learnt addresses stays orderly, whatever is done.
use Rattle.std.proofs.Common.{◌≡◌, ℕ, ◌+◌, ◌<◌, ◌≤◌, ◌==◌, ◌||◌, Bool, true, false, cond, List, [], ◌∷◌, ◌++◌, length, take, filter, map, max, refl, sym, ap, subst, ◌∙◌, length-append, length-take-le, nat_lt, arith}
use Rattle.std.specs.Str.{bytes_eq}
use Rattle.std.proofs.lemmas.Bool.{and_parts, ltb-true}
use Rattle.std.proofs.lemmas.Bool.Decides.{nat_tests}
use Rattle.std.proofs.lemmas.List.Sums.{count_by-le-length, length-filter}
use Rattle.std.proofs.lemmas.Slice.Eq.{bytes_eq-Decides}
use Rattle.channel_uri.specs.declared.address.Address.{Address}
use Rattle.channel_uri.specs.Address.{is_same}
use Rattle.learnt_addresses.specs.declared.learning.Learning.{Learning}
use Rattle.learnt_addresses.specs.declared.learning.Learning.TheVariants.{Learnt, Renewed, Full}
use Rattle.learnt_addresses.specs.declared.learnt_address.LearntAddress.{LearntAddress}
use Rattle.learnt_addresses.specs.LearntAddresses.{has, heard_again, is_at, is_other, learning, learnt, learnt_as, forgotten, stands, standing}
use Rattle.learnt_addresses.specs.Laws.{AreOnce, AreOrderly, StaysOrderly}

-- what passes of the first of a list leaves room for one more
pub room_left : {X : Type 0} (p : X → Bool) (xs : List X) (i n : ℕ) → i < length xs → length xs ≤ n → length (filter p (take i xs)) < n
room_left p xs i n before within =
    omega (arith, length-filter p (take i xs), count_by-le-length p (take i xs), length-take-le i xs (omega arith))

neither : (a b : Bool) → (a || b) ≡ false → (a ≡ false) × (b ≡ false)
neither true b e = absurd cc
neither false b e = (refl, e)

-- ---- some go

few_kept : (keeps : LearntAddress → Bool) (rows : List LearntAddress) → length (filter keeps rows) ≤ length rows
few_kept keeps rows = omega (arith, length-filter keeps rows, count_by-le-length keeps rows)

none_kept_from : (b : Bool) (address : Address) (row : LearntAddress) (kept : List LearntAddress) → is_at address row ≡ false →
    has kept address ≡ false → has (cond b (row ∷ kept) kept) address ≡ false
none_kept_from true address row kept other rest = rw other rest
none_kept_from false address row kept other rest = rest

none_kept : (keeps : LearntAddress → Bool) (address : Address) (rows : List LearntAddress) → has rows address ≡ false →
    has (filter keeps rows) address ≡ false
none_kept keeps address [] missing = missing
none_kept keeps address (row ∷ rows) missing =
    let parts = neither (is_at address row) (has rows address) missing in
    none_kept_from (keeps row) address row (filter keeps rows) parts.0 (none_kept keeps address rows parts.1)

once_kept_from : (b : Bool) (row : LearntAddress) (kept : List LearntAddress) → has kept row.address ≡ false → AreOnce kept →
    AreOnce (cond b (row ∷ kept) kept)
once_kept_from true row kept first rest = (first, rest)
once_kept_from false row kept first rest = rest

pub once_kept : (keeps : LearntAddress → Bool) (rows : List LearntAddress) → AreOnce rows → AreOnce (filter keeps rows)
once_kept keeps [] once = tt
once_kept keeps (row ∷ rows) once =
    once_kept_from (keeps row) row (filter keeps rows) (none_kept keeps row.address rows once.0) (once_kept keeps rows once.1)

kept_orderly : (keeps : LearntAddress → Bool) (rows : List LearntAddress) → AreOrderly rows → AreOrderly (filter keeps rows)
kept_orderly keeps rows orderly = record {
  once = once_kept keeps rows orderly.once;
  few = omega (arith, few_kept keeps rows, orderly.few);
}

-- ---- one is heard of again

heard_address : (now : ℕ) (address : Address) (row : LearntAddress) → (heard_again now address row).address ≡ row.address
heard_address now address row = by (is_at address row)
  where
    by : (b : Bool) → (cond {A = LearntAddress} b (record row { heard = max row.heard now }) row).address ≡ row.address
    by true = refl
    by false = refl

has_renewed : (now : ℕ) (address other : Address) (rows : List LearntAddress) → has (map (heard_again now address) rows) other ≡ has rows other
has_renewed now address other [] = refl
has_renewed now address other (row ∷ rows) =
    rw (heard_address now address row, has_renewed now address other rows) refl

pub once_renewed : (now : ℕ) (address : Address) (rows : List LearntAddress) → AreOnce rows → AreOnce (map (heard_again now address) rows)
once_renewed now address [] once = tt
once_renewed now address (row ∷ rows) once =
    (rw (heard_address now address row, has_renewed now address row.address rows) once.0, once_renewed now address rows once.1)

length_renewed : (now : ℕ) (address : Address) (rows : List LearntAddress) → length (map (heard_again now address) rows) ≡ length rows
length_renewed now address [] = refl
length_renewed now address (row ∷ rows) = rw (length_renewed now address rows) refl

-- ---- one is learnt

-- an address is at the one where that is at it
at_back : (row next : LearntAddress) → is_at row.address next ≡ true → is_at next.address row ≡ true
at_back row next at =
    let places = and_parts (bytes_eq next.address.octets row.address.octets) (next.address.port == row.address.port) at in
    let octets : bytes_eq row.address.octets next.address.octets ≡ true =
    (bytes_eq-Decides row.address.octets next.address.octets).1 (sym ((bytes_eq-Decides next.address.octets row.address.octets).0 places.0)) in
    let port : (row.address.port == next.address.port) ≡ true = grind (arith, nat_tests, places.1) in
    rw (octets, port) refl

apart_from : (b : Bool) (row next : LearntAddress) → is_at row.address next ≡ b → is_at next.address row ≡ false →
    is_at row.address next ≡ false
apart_from true row next is other = absurd (let back : is_at next.address row ≡ true = at_back row next is in cc)
apart_from false row next is other = is

missing_more : (address : Address) (rows : List LearntAddress) (next : LearntAddress) → has rows address ≡ false →
    is_at address next ≡ false → has (rows ++ next ∷ []) address ≡ false
missing_more address [] next missing other = rw other refl
missing_more address (row ∷ rows) next missing other =
    let parts = neither (is_at address row) (has rows address) missing in
    rw (parts.0) (missing_more address rows next parts.1 other)

pub once_more : (rows : List LearntAddress) (next : LearntAddress) → AreOnce rows → has rows next.address ≡ false → AreOnce (rows ++ next ∷ [])
once_more [] next once missing = (refl, tt)
once_more (row ∷ rows) next once missing =
    let parts = neither (is_at next.address row) (has rows next.address) missing in
    (missing_more row.address rows next once.0 (apart_from _ row next refl parts.0), once_more rows next once.1 parts.1)

learnt_from : (there room : Bool) (now : ℕ) (address : Address) (rows : List LearntAddress) → has rows address ≡ there →
    nat_lt (length rows) 32 ≡ room → AreOrderly rows →
    AreOrderly (learnt_as (cond {A = Learning} there Renewed (cond room Learnt Full)) now address rows)
learnt_from true room now address rows is fits orderly = record {
  once = once_renewed now address rows orderly.once;
  few = omega (arith, length_renewed now address rows, orderly.few);
}
learnt_from false true now address rows is fits orderly = record {
  once = once_more rows (record { address = address; heard = now }) orderly.once is;
  few = omega (arith, length-append rows (record { address = address; heard = now } ∷ []), ltb-true (length rows) 32 fits);
}
learnt_from false false now address rows is fits orderly = orderly

learnt_orderly : (now : ℕ) (address : Address) (rows : List LearntAddress) → AreOrderly rows → AreOrderly (learnt now address rows)
unfolding learnt learning
learnt_orderly now address rows orderly = learnt_from _ _ now address rows refl refl orderly

pub stays_orderly : StaysOrderly
stays_orderly = record {
  none = record { once = tt; few = omega arith };
  learnt = learnt_orderly;
  forgotten = λ address rows orderly. kept_orderly (is_other address) rows orderly;
  standing = λ now timeout rows orderly. kept_orderly (stands now timeout) rows orderly;
}
