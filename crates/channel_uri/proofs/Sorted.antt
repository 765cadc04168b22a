-- Keys that are put among others: they stay in byte order, and what holds of each pair goes on to hold.
use Rattle.std.proofs.Common.{◌≡◌, ℕ, ◌+◌, ◌≤◌, List, [], ◌∷◌, ◌++◌, refl, sym, ap, subst, ◌∙◌, length, append_assoc, append-nil, arith}
use Rattle.std.specs.BTreeMap.{insert_entry}
use Rattle.std.specs.Cmp.Lexicographic.{slice_cmp}
use Rattle.std.specs.List.{AllByRecursion}
use Rattle.std.specs.Ordering.{nat_cmp, is_eq, match_ordering, ordering_reverse}
use Rattle.std.specs.declared.cmp.Ordering.{Ordering}
use Rattle.std.specs.declared.cmp.Ordering.TheVariants.{Less, Equal, Greater}
use Rattle.std.proofs.lemmas.Cmp.{nat_list_cmp_total}
use Rattle.std.proofs.lemmas.Map.Text.{is_eq-slice_cmp}
use Rattle.std.proofs.lemmas.Slice.Eq.{bytes_eq-Decides}
use Rattle.channel_uri.specs.Keys.{Pair, InByteOrder, bytes_cmp, put, kept}

pub equal_keys : (key other : List ℕ) → slice_cmp nat_cmp key other ≡ Equal → key ≡ other
equal_keys key other is = (bytes_eq-Decides key other).0 (sym (is_eq-slice_cmp key other) ∙ ap is_eq is)

pub turned : (key other : List ℕ) (o : Ordering) → slice_cmp nat_cmp key other ≡ o → slice_cmp nat_cmp other key ≡ ordering_reverse o
turned key other o is = nat_list_cmp_total.antisymm other key ∙ ap ordering_reverse is

-- ---- what holds of each pair

all_put_from : (P : Pair → Type 0) (key value : List ℕ) (e : Pair) (es : List Pair) (o : Ordering) → slice_cmp nat_cmp key e.0 ≡ o →
    P e → AllByRecursion P es → P (key, value) → AllByRecursion P (insert_entry bytes_cmp es key value) →
    AllByRecursion P (match_ordering o ((key, value) ∷ e ∷ es) ((e.0, value) ∷ es) (e ∷ insert_entry bytes_cmp es key value))
all_put_from P key value e es Less is first rest new later = (new, (first, rest))
all_put_from P key value e es Equal is first rest new later = (subst (λ k. P (k, value)) (equal_keys key e.0 is) new, rest)
all_put_from P key value e es Greater is first rest new later = (first, later)

pub all_put : (P : Pair → Type 0) (keys : List Pair) (pair : Pair) → AllByRecursion P keys → P pair → AllByRecursion P (put keys pair)
all_put P [] pair all new = (new, tt)
all_put P (e ∷ es) pair all new =
    all_put_from P pair.0 pair.1 e es (slice_cmp nat_cmp pair.0 e.0) refl all.0 all.1 new (all_put P es pair all.1 new)

pub all_kept : (P : Pair → Type 0) (keys pairs : List Pair) → AllByRecursion P keys → AllByRecursion P pairs → AllByRecursion P (kept keys pairs)
all_kept P keys [] all new = all
all_kept P keys (pair ∷ pairs) all new = all_kept P (put keys pair) pairs (all_put P keys pair all new.0) new.1

-- ---- byte order

pub all_above : (low key : List ℕ) → slice_cmp nat_cmp low key ≡ Less → (es : List Pair) → AllByRecursion (λ e. bytes_cmp key e.0 ≡ Less) es →
    AllByRecursion (λ e. bytes_cmp low e.0 ≡ Less) es
all_above low key is [] all = tt
all_above low key is (e ∷ es) all = (nat_list_cmp_total.trans low key e.0 is all.0, all_above low key is es all.1)

in_order_from : (key value : List ℕ) (e : Pair) (es : List Pair) (o : Ordering) → slice_cmp nat_cmp key e.0 ≡ o →
    AllByRecursion (λ later. bytes_cmp e.0 later.0 ≡ Less) es → InByteOrder es → InByteOrder (insert_entry bytes_cmp es key value) →
    InByteOrder (match_ordering o ((key, value) ∷ e ∷ es) ((e.0, value) ∷ es) (e ∷ insert_entry bytes_cmp es key value))
in_order_from key value e es Less is all order later = ((is, all_above key e.0 is es all), (all, order))
in_order_from key value e es Equal is all order later = (all, order)
in_order_from key value e es Greater is all order later =
    (all_put (λ other. bytes_cmp e.0 other.0 ≡ Less) es (key, value) all (turned key e.0 Greater is), later)

pub in_order_put : (keys : List Pair) (pair : Pair) → InByteOrder keys → InByteOrder (put keys pair)
in_order_put [] pair order = (tt, tt)
in_order_put (e ∷ es) pair order =
    in_order_from pair.0 pair.1 e es (slice_cmp nat_cmp pair.0 e.0) refl order.0 order.1 (in_order_put es pair order.1)

pub in_order_kept : (keys pairs : List Pair) → InByteOrder keys → InByteOrder (kept keys pairs)
in_order_kept keys [] order = order
in_order_kept keys (pair ∷ pairs) order = in_order_kept (put keys pair) pairs (in_order_put keys pair order)

-- ---- keys in byte order are kept as they stand

at_middle : (P : Pair → Type 0) (front : List Pair) (pair : Pair) (rest : List Pair) → AllByRecursion P (front ++ pair ∷ rest) → P pair
at_middle P [] pair rest all = all.0
at_middle P (e ∷ es) pair rest all = at_middle P es pair rest all.1

put_after : (key value : List ℕ) (e : Pair) (es : List Pair) (o : Ordering) → o ≡ Greater →
    match_ordering o ((key, value) ∷ e ∷ es) ((e.0, value) ∷ es) (e ∷ insert_entry bytes_cmp es key value) ≡ e ∷ insert_entry bytes_cmp es key value
put_after key value e es o is = rw is refl

put_last : (front : List Pair) (pair : Pair) (rest : List Pair) → InByteOrder (front ++ pair ∷ rest) → put front pair ≡ front ++ pair ∷ []
put_last [] pair rest order = refl
put_last (e ∷ es) pair rest order =
    put_after pair.0 pair.1 e es (slice_cmp nat_cmp pair.0 e.0) (turned e.0 pair.0 Less (at_middle (λ later. bytes_cmp e.0 later.0 ≡ Less) es pair rest order.0))
    ∙ ap (λ later. e ∷ later) (put_last es pair rest order.1)

kept_after : (front rest : List Pair) → InByteOrder (front ++ rest) → kept front rest ≡ front ++ rest
kept_after front [] order = sym (append-nil front)
kept_after front (pair ∷ pairs) order =
    let seam : (front ++ pair ∷ []) ++ pairs ≡ front ++ pair ∷ pairs = append_assoc front (pair ∷ []) pairs in
    ap (λ keys. kept keys pairs) (put_last front pair pairs order)
    ∙ (kept_after (front ++ pair ∷ []) pairs (subst InByteOrder (sym seam) order) ∙ seam)

pub kept_in_order : (keys : List Pair) → InByteOrder keys → kept [] keys ≡ keys
kept_in_order keys order = kept_after [] keys order

-- ---- how much text keys take

abbrev pub pair_size : Pair → ℕ
pair_size pair = length pair.0 + length pair.1 + 2

abbrev pub pairs_size : List Pair → ℕ
pairs_size [] = 0
pairs_size (pair ∷ pairs) = pair_size pair + pairs_size pairs

size_put_from : (key value : List ℕ) (e : Pair) (es : List Pair) (o : Ordering) →
    pairs_size (insert_entry bytes_cmp es key value) ≤ pairs_size es + pair_size (key, value) →
    pairs_size (match_ordering o ((key, value) ∷ e ∷ es) ((e.0, value) ∷ es) (e ∷ insert_entry bytes_cmp es key value))
    ≤ pairs_size (e ∷ es) + pair_size (key, value)
size_put_from key value e es Less later = omega arith
size_put_from key value e es Equal later = omega arith
size_put_from key value e es Greater later = omega (arith, later)

size_put : (keys : List Pair) (pair : Pair) → pairs_size (put keys pair) ≤ pairs_size keys + pair_size pair
size_put [] pair = omega arith
size_put (e ∷ es) pair = size_put_from pair.0 pair.1 e es (slice_cmp nat_cmp pair.0 e.0) (size_put es pair)

pub size_kept : (keys pairs : List Pair) → pairs_size (kept keys pairs) ≤ pairs_size keys + pairs_size pairs
size_kept keys [] = omega arith
size_kept keys (pair ∷ pairs) = omega (arith, size_kept (put keys pair) pairs, size_put keys pair)
