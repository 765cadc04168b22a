-- A table of destinations stays orderly, whatever is done.
use Rattle.std.proofs.Common.{◌≡◌, ℕ, ◌+◌, ◌<◌, ◌≤◌, ◌==◌, ◌||◌, Bool, true, false, cond, List, [], ◌∷◌, ◌++◌, Result, Ok, Err, length, filter, refl, sym, ap, subst, ◌∙◌, length-append, nat_lt, arith}
use Rattle.std.specs.Str.{bytes_eq}
use Rattle.std.proofs.lemmas.Bool.{and_parts, eqb-true, ltb-true}
use Rattle.std.proofs.lemmas.Bool.Decides.{nat_tests}
use Rattle.std.proofs.lemmas.List.Elements.{filter-append}
use Rattle.std.proofs.lemmas.Slice.Eq.{bytes_eq-Decides}
use Rattle.channel_uri.specs.declared.address.Address.{Address}
use Rattle.channel_uri.specs.Address.{is_same}
use Rattle.channel_uri.specs.Channel.{Shape}
use Rattle.destinations.specs.declared.destination.Destination.{Destination}
use Rattle.destinations.specs.declared.fault.DestinationFault.{DestinationFault}
use Rattle.destinations.specs.declared.fault.DestinationFault.TheVariants.{Conflict, Full}
use Rattle.destinations.specs.Destinations.{DestinationList, is_of, of, is_at, has, has_room, adding, added, is_other, without, is_of_others, without_sources}
use Rattle.destinations.specs.Laws.{Rises, AreOnce, AreOrderly, IsOrderly, StaysOrderly}

-- ---- numbers rise

rises_below : (low lower last : ℕ) (rows : List Destination) → lower ≤ low → Rises low last rows → Rises lower last rows
rises_below low lower last [] order rises = omega (arith, rises, order)
rises_below low lower last (row ∷ rows) order rises = (omega (arith, rises.0, order), rises.1)

within : (low last : ℕ) (rows : List Destination) → Rises low last rows → low ≤ last
within low last [] rises = rises
within low last (row ∷ rows) rises = omega (arith, rises.0, within row.number last rows rises.1)

rises_more : (low last : ℕ) (rows : List Destination) (next : Destination) → next.number ≡ last + 1 → Rises low last rows →
    Rises low (last + 1) (rows ++ next ∷ [])
rises_more low last [] next is rises = (omega (arith, rises, is), omega (arith, is))
rises_more low last (row ∷ rows) next is rises = (rises.0, rises_more row.number last rows next is rises.1)

rises_kept_from : (b : Bool) (low last : ℕ) (row : Destination) (kept : List Destination) → low < row.number → Rises row.number last kept →
    Rises low last (cond b (row ∷ kept) kept)
rises_kept_from true low last row kept first rest = (first, rest)
rises_kept_from false low last row kept first rest = rises_below row.number low last kept (omega (arith, first)) rest

rises_kept : (keeps : Destination → Bool) (low last : ℕ) (rows : List Destination) → Rises low last rows → Rises low last (filter keeps rows)
rises_kept keeps low last [] rises = rises
rises_kept keeps low last (row ∷ rows) rises =
    rises_kept_from (keeps row) low last row (filter keeps rows) rises.0 (rises_kept keeps row.number last rows rises.1)

-- ---- no log has too many

few_from : (b : Bool) (source : ℕ) (row : Destination) (kept rows : List Destination) → length (of kept source) ≤ length (of rows source) →
    length (of (cond b (row ∷ kept) kept) source) ≤ length (of (row ∷ rows) source)
few_from b source row kept rows less = by b (is_of source row) refl
  where
    by : (b of_it : Bool) → is_of source row ≡ of_it → length (of (cond b (row ∷ kept) kept) source) ≤ length (of (row ∷ rows) source)
    by true true is = rw is (omega (arith, less))
    by true false is = rw is (omega (arith, less))
    by false true is = rw is (omega (arith, less))
    by false false is = rw is (omega (arith, less))

few_kept : (keeps : Destination → Bool) (source : ℕ) (rows : List Destination) → length (of (filter keeps rows) source) ≤ length (of rows source)
few_kept keeps source [] = omega arith
few_kept keeps source (row ∷ rows) = few_from (keeps row) source row (filter keeps rows) rows (few_kept keeps source rows)

one_more : (b : Bool) (source : ℕ) (rows : List Destination) (next : Destination) → is_of source next ≡ b →
    length (of (rows ++ next ∷ []) source) ≡ length (of rows source) + cond b 1 0
one_more true source rows next is =
    ap length (filter-append (is_of source) rows (next ∷ [])) ∙ (length-append (of rows source) (of (next ∷ []) source) ∙ (rw is refl))
one_more false source rows next is =
    ap length (filter-append (is_of source) rows (next ∷ [])) ∙ (length-append (of rows source) (of (next ∷ []) source) ∙ (rw is refl))

few_more_from : (b : Bool) (source : ℕ) (rows : List Destination) (next : Destination) → is_of source next ≡ b → length (of rows source) ≤ 32 →
    length (of rows next.source) < 32 → length (of (rows ++ next ∷ []) source) ≤ 32
few_more_from true source rows next is few room =
    let same : next.source ≡ source = eqb-true _ _ is in
    let here : length (of rows source) < 32 = subst (λ n. length (of rows n) < 32) same room in
    omega (arith, one_more true source rows next is, here)
few_more_from false source rows next is few room = omega (arith, one_more false source rows next is, few)

-- ---- no log has an address twice

neither : (a b : Bool) → (a || b) ≡ false → (a ≡ false) × (b ≡ false)
neither true b e = absurd cc
neither false b e = (refl, e)

none_kept_from : (b : Bool) (source : ℕ) (address : Address) (row : Destination) (kept : List Destination) → is_at source address row ≡ false →
    has kept source address ≡ false → has (cond b (row ∷ kept) kept) source address ≡ false
none_kept_from true source address row kept other rest = rw other rest
none_kept_from false source address row kept other rest = rest

none_kept : (keeps : Destination → Bool) (source : ℕ) (address : Address) (rows : List Destination) → has rows source address ≡ false →
    has (filter keeps rows) source address ≡ false
none_kept keeps source address [] missing = missing
none_kept keeps source address (row ∷ rows) missing =
    let parts = neither (is_at source address row) (has rows source address) missing in
    none_kept_from (keeps row) source address row (filter keeps rows) parts.0 (none_kept keeps source address rows parts.1)

once_kept_from : (b : Bool) (row : Destination) (kept : List Destination) → has kept row.source row.address ≡ false → AreOnce kept →
    AreOnce (cond b (row ∷ kept) kept)
once_kept_from true row kept first rest = (first, rest)
once_kept_from false row kept first rest = rest

once_kept : (keeps : Destination → Bool) (rows : List Destination) → AreOnce rows → AreOnce (filter keeps rows)
once_kept keeps [] once = tt
once_kept keeps (row ∷ rows) once =
    once_kept_from (keeps row) row (filter keeps rows) (none_kept keeps row.source row.address rows once.0) (once_kept keeps rows once.1)

-- it is at the one address where the other is
at_back : (row next : Destination) → is_at row.source row.address next ≡ true → is_at next.source next.address row ≡ true
at_back row next at =
    let parts = and_parts (is_of row.source next) (is_same next.address row.address) at in
    let places = and_parts (bytes_eq next.address.octets row.address.octets) (next.address.port == row.address.port) parts.1 in
    let octets : bytes_eq row.address.octets next.address.octets ≡ true =
    (bytes_eq-Decides row.address.octets next.address.octets).1 (sym ((bytes_eq-Decides next.address.octets row.address.octets).0 places.0)) in
    let source : (row.source == next.source) ≡ true = grind (arith, nat_tests, parts.0) in
    let port : (row.address.port == next.address.port) ≡ true = grind (arith, nat_tests, places.1) in
    rw (source, octets, port) refl

apart_from : (b : Bool) (row next : Destination) → is_at row.source row.address next ≡ b → is_at next.source next.address row ≡ false →
    is_at row.source row.address next ≡ false
apart_from true row next is other = absurd (let back : is_at next.source next.address row ≡ true = at_back row next is in cc)
apart_from false row next is other = is

missing_more : (source : ℕ) (address : Address) (rows : List Destination) (next : Destination) → has rows source address ≡ false →
    is_at source address next ≡ false → has (rows ++ next ∷ []) source address ≡ false
missing_more source address [] next missing other = rw other refl
missing_more source address (row ∷ rows) next missing other =
    let parts = neither (is_at source address row) (has rows source address) missing in
    rw (parts.0) (missing_more source address rows next parts.1 other)

once_more : (rows : List Destination) (next : Destination) → AreOnce rows → has rows next.source next.address ≡ false → AreOnce (rows ++ next ∷ [])
once_more [] next once missing = (refl, tt)
once_more (row ∷ rows) next once missing =
    let parts = neither (is_at next.source next.address row) (has rows next.source next.address) missing in
    (missing_more row.source row.address rows next once.0 (apart_from _ row next refl parts.0), once_more rows next once.1 parts.1)

-- ---- each call leaves an orderly table

pub kept_orderly : (keeps : Destination → Bool) (last : ℕ) (rows : List Destination) → AreOrderly last rows → AreOrderly last (filter keeps rows)
kept_orderly keeps last rows orderly = record {
  rise = rises_kept keeps 0 last rows orderly.rise;
  few = λ source. omega (arith, few_kept keeps source rows, orderly.few source);
  once = once_kept keeps rows orderly.once;
}

pub none_orderly : (last : ℕ) → AreOrderly last []
none_orderly last = record { rise = omega arith; few = λ source. omega arith; once = tt }

pub more_orderly : (last : ℕ) (rows : List Destination) (next : Destination) → AreOrderly last rows → next.number ≡ last + 1 →
    length (of rows next.source) < 32 → has rows next.source next.address ≡ false → AreOrderly (last + 1) (rows ++ next ∷ [])
more_orderly last rows next orderly is room missing = record {
  rise = rises_more 0 last rows next is orderly.rise;
  few = λ source. few_more_from _ source rows next refl (orderly.few source) room;
  once = once_more rows next orderly.once missing;
}

pub next_orderly : (last number : ℕ) (rows : List Destination) (next : Destination) → number ≡ last + 1 → next.number ≡ number →
    length (of rows next.source) < 32 → has rows next.source next.address ≡ false → AreOrderly last rows → AreOrderly number (rows ++ next ∷ [])
next_orderly last number rows next is same room missing orderly =
    subst (λ n. AreOrderly n (rows ++ next ∷ [])) (sym is) (more_orderly last rows next orderly (same ∙ is) room missing)

-- what an answer with a number says
pub record Adds (destinations : DestinationList) (source : ℕ) (address : Address) (number : ℕ) : Type 0 where
  pub missing : has destinations.rows source address ≡ false
  pub room : length (of destinations.rows source) < 32
  pub places : length destinations.rows < 8192
  pub next : number ≡ destinations.last + 1

ok_is : (x y : ℕ) (r : Result ℕ DestinationFault) → r ≡ Ok x → r ≡ Ok y → x ≡ y
ok_is x y r first second = cc

adds_from : (has_it room : Bool) (destinations : DestinationList) (source : ℕ) (address : Address) (number : ℕ) →
    has destinations.rows source address ≡ has_it → has_room destinations source ≡ room →
    cond {A = Result ℕ DestinationFault} has_it (Err Conflict) (cond room (Ok (destinations.last + 1)) (Err Full)) ≡ Ok number →
    Adds destinations source address number
adds_from true room destinations source address number there is e = absurd cc
adds_from false false destinations source address number there is e = absurd cc
adds_from false true destinations source address number there is e =
    let parts = and_parts (nat_lt (length (of destinations.rows source)) 32) _ is in
    let others = and_parts (nat_lt (length destinations.rows) 8192) _ parts.1 in
    record {
      missing = there;
      room = ltb-true _ _ parts.0;
      places = ltb-true _ _ others.0;
      next = sym (ok_is (destinations.last + 1) number _ refl e);
    }

pub adds : (destinations : DestinationList) (source : ℕ) (address : Address) (number : ℕ) → adding destinations source address ≡ Ok number →
    Adds destinations source address number
unfolding adding
adds destinations source address number e = adds_from _ _ destinations source address number refl refl e

added_orderly : (destinations : DestinationList) (source number : ℕ) (address : Address) (principal : ℕ) (channel : Shape) → IsOrderly destinations →
    adding destinations source address ≡ Ok number → IsOrderly (added destinations source address principal channel)
unfolding added
added_orderly destinations source number address principal channel orderly answer =
    let from = adds destinations source address number answer in
    more_orderly destinations.last destinations.rows _ orderly refl from.room from.missing

without_orderly : (destinations : DestinationList) (source : ℕ) (address : Address) → IsOrderly destinations → IsOrderly (without destinations source address)
unfolding without
without_orderly destinations source address orderly = kept_orderly (is_other source address) destinations.last destinations.rows orderly

without_sources_orderly : (destinations : DestinationList) (sources : List ℕ) → IsOrderly destinations → IsOrderly (without_sources destinations sources)
unfolding without_sources
without_sources_orderly destinations sources orderly = kept_orderly (is_of_others sources) destinations.last destinations.rows orderly

pub stays_orderly : StaysOrderly
stays_orderly = record {
  none = none_orderly 0;
  added = added_orderly;
  without = without_orderly;
  without_sources = without_sources_orderly;
  cleared = λ destinations orderly. none_orderly destinations.last;
}
