-- Keys in one text.
use Rattle.std.proofs.Common.{◌≡◌, ℕ, zero, suc, ◌+◌, ◌-◌, ◌/◌, ◌<◌, ◌≤◌, true, false, cond, List, [], ◌∷◌, ◌++◌, Option, Some, None, Result, Ok, Err, refl, sym, ap, subst, ◌∙◌, map, length, take, drop, get_or, set, slice_range, append_assoc, length-append, length-drop, arith}
use Rattle.std.specs.List.{AllByRecursion, insert}
use Rattle.std.specs.Cmp.Lexicographic.{slice_cmp}
use Rattle.std.specs.Ordering.{nat_cmp, is_eq, match_ordering}
use Rattle.std.specs.declared.cmp.Ordering.{Ordering}
use Rattle.std.specs.declared.cmp.Ordering.TheVariants.{Less, Equal, Greater}
use Rattle.std.specs.Str.{IsUtf8, is_utf8, bytes_eq}
use Rattle.std.specs.BTreeMap.{insert_entry}
use Rattle.std.proofs.Math.Seq.{drop-append_seam}
use Rattle.std.proofs.lemmas.Cmp.{nat_list_cmp_total}
use Rattle.std.proofs.lemmas.List.{take-append-le, drop-append-le, take_all, map-append, take-map, drop-map, map-set, get_or-map, length-map}
use Rattle.std.proofs.lemmas.List.Elements.{All-from_recursion}
use Rattle.std.proofs.lemmas.Map.Text.{is_eq-slice_cmp}
use Rattle.std.proofs.lemmas.Str.{IsUtf8-append, is_utf8-from_IsUtf8}
use Rattle.channel_uri.specs.declared.table.Span.{Span}
use Rattle.channel_uri.specs.Keys.{Pair, InByteOrder, bytes_cmp, put, value_at}
use Rattle.channel_uri.specs.Table.{IsIn, IsTable, IsPlace, pair_in, next_place, place_of, placed}
use Rattle.channel_uri.proofs.Sorted.{equal_keys, turned, all_above, in_order_put}

-- ---- a text that grows

range_more : (text more : List ℕ) (a b : ℕ) → a ≤ b → b ≤ length text → slice_range (text ++ more) a b ≡ slice_range text a b
range_more text more a b first within =
    ap (take (b - a)) (drop-append-le a text more (omega (arith, first, within)))
    ∙ take-append-le (b - a) (drop a text) more (omega (arith, first, within, length-drop a text))

pair_more : (text more : List ℕ) (span : Span) → IsIn text span → pair_in (text ++ more) span ≡ pair_in text span
pair_more text more span is =
    let key_is : slice_range (text ++ more) span.key span.value ≡ slice_range text span.key span.value =
    range_more text more span.key span.value is.key_first (omega (arith, is.value_next, is.within)) in
    let value_is : slice_range (text ++ more) span.value span.end ≡ slice_range text span.value span.end =
    range_more text more span.value span.end is.value_next is.within in
    rw (key_is, value_is) refl

in_more : (text more : List ℕ) (span : Span) → IsIn text span → IsIn (text ++ more) span
in_more text more span is =
    let same : pair_in (text ++ more) span ≡ pair_in text span = pair_more text more span is in
    record {
      key_first = is.key_first;
      value_next = is.value_next;
      within = omega (arith, is.within, length-append text more);
      key_text = ap (λ pair. is_utf8 pair.0) same ∙ is.key_text;
      value_text = ap (λ pair. is_utf8 pair.1) same ∙ is.value_text;
    }

pairs_more : (text more : List ℕ) (spans : List Span) → AllByRecursion (IsIn text) spans → map (pair_in (text ++ more)) spans ≡ map (pair_in text) spans
pairs_more text more [] all = refl
pairs_more text more (span ∷ spans) all = rw (pair_more text more span all.0, pairs_more text more spans all.1) refl

all_more : (text more : List ℕ) (spans : List Span) → AllByRecursion (IsIn text) spans → AllByRecursion (IsIn (text ++ more)) spans
all_more text more [] all = tt
all_more text more (span ∷ spans) all = (in_more text more span all.0, all_more text more spans all.1)

-- the last part of a text
range_last : (front part : List ℕ) → slice_range (front ++ part) (length front) (length (front ++ part)) ≡ part
range_last front part =
    ap (take (length (front ++ part) - length front)) (drop-append_seam front part)
    ∙ take_all (length (front ++ part) - length front) part (omega (arith, length-append front part))

new_pair : (text key value : List ℕ) (span : Span) → span.key ≡ length text → span.value ≡ length (text ++ key) → span.end ≡ length ((text ++ key) ++ value) →
    pair_in ((text ++ key) ++ value) span ≡ (key, value)
new_pair text key value span key_at value_at end_at =
    let key_is : slice_range ((text ++ key) ++ value) (length text) (length (text ++ key)) ≡ key =
    range_more (text ++ key) value (length text) (length (text ++ key)) (omega (arith, length-append text key)) (omega arith) ∙ range_last text key in
    let value_is : slice_range ((text ++ key) ++ value) (length (text ++ key)) (length ((text ++ key) ++ value)) ≡ value = range_last (text ++ key) value in
    rw (key_at, value_at, end_at, key_is, value_is) refl

new_in : (text key value : List ℕ) (span : Span) → span.key ≡ length text → span.value ≡ length (text ++ key) → span.end ≡ length ((text ++ key) ++ value) →
    IsUtf8 key → IsUtf8 value → IsIn ((text ++ key) ++ value) span
new_in text key value span key_at value_at end_at key_utf8 value_utf8 =
    let same : pair_in ((text ++ key) ++ value) span ≡ (key, value) = new_pair text key value span key_at value_at end_at in
    record {
      key_first = omega (arith, key_at, value_at, length-append text key);
      value_next = omega (arith, value_at, end_at, length-append (text ++ key) value);
      within = omega (arith, end_at);
      key_text = ap (λ pair. is_utf8 pair.0) same ∙ is_utf8-from_IsUtf8 key key_utf8;
      value_text = ap (λ pair. is_utf8 pair.1) same ∙ is_utf8-from_IsUtf8 value value_utf8;
    }

-- ---- where a key is

next_is_place : (r : Result ℕ ℕ) (n : ℕ) → IsPlace r n → IsPlace (next_place r) (suc n)
next_is_place (Ok i) n within = omega (arith, within)
next_is_place (Err i) n within = omega (arith, within)

range_from : (o : Ordering) (r : Result ℕ ℕ) (n : ℕ) → IsPlace r n → IsPlace (match_ordering o (Err 0) (Ok 0) (next_place r)) (suc n)
range_from Less r n within = omega arith
range_from Equal r n within = omega arith
range_from Greater r n within = next_is_place r n within

pub place_range : (key : List ℕ) (pairs : List Pair) → IsPlace (place_of key pairs) (length pairs)
place_range key [] = omega arith
place_range key (e ∷ es) = range_from (bytes_cmp key e.0) (place_of key es) (length es) (place_range key es)

placed_next : {A : Type 0} (r : Result ℕ ℕ) (y : A) (xs : List A) (x : A) → placed (next_place r) (y ∷ xs) x ≡ y ∷ placed r xs x
placed_next (Ok at) y xs x = refl
placed_next (Err at) y xs x = refl

put_from : (key value : List ℕ) (e : Pair) (es : List Pair) (o : Ordering) → slice_cmp nat_cmp key e.0 ≡ o →
    insert_entry bytes_cmp es key value ≡ placed (place_of key es) es (key, value) →
    match_ordering o ((key, value) ∷ e ∷ es) ((e.0, value) ∷ es) (e ∷ insert_entry bytes_cmp es key value)
    ≡ placed (match_ordering o (Err 0) (Ok 0) (next_place (place_of key es))) (e ∷ es) (key, value)
put_from key value e es Less is later = refl
put_from key value e es Equal is later = ap (λ k. (k, value) ∷ es) (sym (equal_keys key e.0 is))
put_from key value e es Greater is later = ap (λ rest. e ∷ rest) later ∙ sym (placed_next (place_of key es) e es (key, value))

pub put_placed : (pairs : List Pair) (key value : List ℕ) → put pairs (key, value) ≡ placed (place_of key pairs) pairs (key, value)
put_placed [] key value = refl
put_placed (e ∷ es) key value = put_from key value e es (slice_cmp nat_cmp key e.0) refl (put_placed es key value)

map_placed : {A B : Type 0} (f : A → B) (r : Result ℕ ℕ) (xs : List A) (x : A) → map f (placed r xs x) ≡ placed r (map f xs) (f x)
map_placed f (Ok at) xs x = map-set f xs at x
map_placed f (Err at) xs x = map-append f (take at xs) (x ∷ drop at xs) ∙ (rw (take-map f at xs, drop-map f at xs) refl)

all_set : {A : Type 0} (P : A → Type 0) (xs : List A) (at : ℕ) (x : A) → AllByRecursion P xs → P x → AllByRecursion P (set xs at x)
all_set P [] at x all new = tt
all_set P (y ∷ ys) zero x all new = (new, all.1)
all_set P (y ∷ ys) (suc at) x all new = (all.0, all_set P ys at x all.1 new)

all_insert : {A : Type 0} (P : A → Type 0) (xs : List A) (at : ℕ) (x : A) → AllByRecursion P xs → P x → AllByRecursion P (insert xs at x)
all_insert P [] zero x all new = (new, tt)
all_insert P [] (suc at) x all new = (new, tt)
all_insert P (y ∷ ys) zero x all new = (new, all)
all_insert P (y ∷ ys) (suc at) x all new = (all.0, all_insert P ys at x all.1 new)

all_placed : {A : Type 0} (P : A → Type 0) (r : Result ℕ ℕ) (xs : List A) (x : A) → AllByRecursion P xs → P x → AllByRecursion P (placed r xs x)
all_placed P (Ok at) xs x all new = all_set P xs at x all new
all_placed P (Err at) xs x all new = all_insert P xs at x all new

-- a pair that is put into the table
pub record IsPut (text key value : List ℕ) (spans : List Span) (span : Span) (r : Result ℕ ℕ) : Type 0 where
  pub table : IsTable ((text ++ key) ++ value) (placed r spans span)
  pub pairs : map (pair_in ((text ++ key) ++ value)) (placed r spans span) ≡ put (map (pair_in text) spans) (key, value)

pub is_put : (text key value : List ℕ) (spans : List Span) (span : Span) (r : Result ℕ ℕ) → IsTable text spans →
    r ≡ place_of key (map (pair_in text) spans) →
    span.key ≡ length text → span.value ≡ length (text ++ key) → span.end ≡ length ((text ++ key) ++ value) →
    IsUtf8 key → IsUtf8 value → IsPut text key value spans span r
is_put text key value spans span r table place key_at value_at end_at key_utf8 value_utf8 =
    let seam : (text ++ key) ++ value ≡ text ++ (key ++ value) = append_assoc text key value in
    let kept : map (pair_in ((text ++ key) ++ value)) spans ≡ map (pair_in text) spans =
    ap (λ whole. map (pair_in whole) spans) seam ∙ pairs_more text (key ++ value) spans table.spans_in in
    let all : AllByRecursion (IsIn ((text ++ key) ++ value)) spans =
    subst (λ whole. AllByRecursion (IsIn whole) spans) (sym seam) (all_more text (key ++ value) spans table.spans_in) in
    let new : pair_in ((text ++ key) ++ value) span ≡ (key, value) = new_pair text key value span key_at value_at end_at in
    let pairs_are : map (pair_in ((text ++ key) ++ value)) (placed r spans span) ≡ put (map (pair_in text) spans) (key, value) =
    map_placed (pair_in ((text ++ key) ++ value)) r spans span
    ∙ (ap (λ ps. placed r ps (pair_in ((text ++ key) ++ value) span)) kept
    ∙ (ap (placed r (map (pair_in text) spans)) new
    ∙ (ap (λ at. placed at (map (pair_in text) spans) (key, value)) place
    ∙ sym (put_placed (map (pair_in text) spans) key value)))) in
    record {
      table = record {
        spans_in = all_placed (IsIn ((text ++ key) ++ value)) r spans span all (new_in text key value span key_at value_at end_at key_utf8 value_utf8);
        in_order = subst InByteOrder (sym pairs_are) (in_order_put (map (pair_in text) spans) (key, value) table.in_order);
      };
      pairs = pairs_are;
    }

-- ---- what is found

none_above : (key : List ℕ) (es : List Pair) → AllByRecursion (λ e. bytes_cmp key e.0 ≡ Less) es → value_at key es ≡ None
none_above key [] all = refl
none_above key (e ∷ es) all =
    let differ : bytes_eq key e.0 ≡ false = sym (is_eq-slice_cmp key e.0) ∙ ap is_eq all.0 in
    rw differ (none_above key es all.1)

-- the value at a place
abbrev pub value_from : Result ℕ ℕ → List Pair → Option (List ℕ)
value_from (Err at) pairs = None
value_from (Ok at) [] = None
value_from (Ok zero) (pair ∷ pairs) = Some pair.1
value_from (Ok (suc at)) (pair ∷ pairs) = value_from (Ok at) pairs

value_next : (r : Result ℕ ℕ) (e : Pair) (es : List Pair) → value_from (next_place r) (e ∷ es) ≡ value_from r es
value_next (Ok at) e es = refl
value_next (Err at) e es = refl

found_from : (key : List ℕ) (e : Pair) (es : List Pair) (o : Ordering) → slice_cmp nat_cmp key e.0 ≡ o →
    AllByRecursion (λ later. bytes_cmp e.0 later.0 ≡ Less) es →
    value_at key es ≡ value_from (place_of key es) es →
    cond (bytes_eq key e.0) (Some e.1) (value_at key es) ≡ value_from (match_ordering o (Err 0) (Ok 0) (next_place (place_of key es))) (e ∷ es)
found_from key e es Less is above later =
    let differ : bytes_eq key e.0 ≡ false = sym (is_eq-slice_cmp key e.0) ∙ ap is_eq is in
    rw differ (none_above key es (all_above key e.0 is es above))
found_from key e es Equal is above later =
    let same : bytes_eq key e.0 ≡ true = sym (is_eq-slice_cmp key e.0) ∙ ap is_eq is in
    rw same refl
found_from key e es Greater is above later =
    let differ : bytes_eq key e.0 ≡ false = sym (is_eq-slice_cmp key e.0) ∙ ap is_eq is in
    rw differ (later ∙ sym (value_next (place_of key es) e es))

pub found : (key : List ℕ) (pairs : List Pair) → InByteOrder pairs → value_at key pairs ≡ value_from (place_of key pairs) pairs
found key [] order = refl
found key (e ∷ es) order = found_from key e es (slice_cmp nat_cmp key e.0) refl order.0 (found key es order.1)

pub value_at_place : (at : ℕ) (pairs : List Pair) (d : Pair) → at < length pairs → value_from (Ok at) pairs ≡ Some (get_or pairs at d).1
value_at_place at [] d within = absurd (omega (arith, within))
value_at_place zero (e ∷ es) d within = refl
value_at_place (suc at) (e ∷ es) d within = value_at_place at es d (omega (arith, within))

-- ---- the search

-- the key stands behind those below `low`, and before those from `high` on
pub record IsBetween (key : List ℕ) (pairs : List Pair) (low high : ℕ) : Type 0 where
  pub ordered : low ≤ high
  pub within : high ≤ length pairs
  pub below : (j : ℕ) (d : Pair) → j < low → bytes_cmp key (get_or pairs j d).0 ≡ Greater
  pub above : (j : ℕ) (d : Pair) → high ≤ j → j < length pairs → bytes_cmp key (get_or pairs j d).0 ≡ Less

above_at : (low : List ℕ) (es : List Pair) (j : ℕ) (d : Pair) → j < length es → AllByRecursion (λ e. bytes_cmp low e.0 ≡ Less) es → bytes_cmp low (get_or es j d).0 ≡ Less
above_at low [] j d within all = absurd (omega (arith, within))
above_at low (e ∷ es) zero d within all = all.0
above_at low (e ∷ es) (suc j) d within all = above_at low es j d (omega (arith, within)) all.1

-- a key that stands before one stands before the later ones
above_from : (key : List ℕ) (pairs : List Pair) (i j : ℕ) (d e : Pair) → InByteOrder pairs → i ≤ j → j < length pairs →
    bytes_cmp key (get_or pairs i d).0 ≡ Less → bytes_cmp key (get_or pairs j e).0 ≡ Less
above_from key [] i j d e order from within is = absurd (omega (arith, within))
above_from key (p ∷ ps) zero zero d e order from within is = is
above_from key (p ∷ ps) (suc i) zero d e order from within is = absurd (omega (arith, from))
above_from key (p ∷ ps) zero (suc j) d e order from within is =
    nat_list_cmp_total.trans key p.0 (get_or ps j e).0 is (above_at p.0 ps j e (omega (arith, within)) order.0)
above_from key (p ∷ ps) (suc i) (suc j) d e order from within is =
    above_from key ps i j d e order.1 (omega (arith, from)) (omega (arith, within)) is

behind : (key low high : List ℕ) → slice_cmp nat_cmp low high ≡ Less → slice_cmp nat_cmp key high ≡ Greater → slice_cmp nat_cmp key low ≡ Greater
behind key low high first is =
    turned low key Less (nat_list_cmp_total.trans low high key first (turned key high Greater is))

behind_equal : (key low high : List ℕ) → slice_cmp nat_cmp low high ≡ Less → slice_cmp nat_cmp key high ≡ Equal → slice_cmp nat_cmp key low ≡ Greater
behind_equal key low high first is = rw (equal_keys key high is) (turned low high Less first)

-- one that stands behind one stands behind the earlier ones
below_from : (key : List ℕ) (pairs : List Pair) (i j : ℕ) (d e : Pair) → InByteOrder pairs → i ≤ j → j < length pairs →
    bytes_cmp key (get_or pairs j d).0 ≡ Greater → bytes_cmp key (get_or pairs i e).0 ≡ Greater
below_from key [] i j d e order from within is = absurd (omega (arith, within))
below_from key (p ∷ ps) zero zero d e order from within is = is
below_from key (p ∷ ps) (suc i) zero d e order from within is = absurd (omega (arith, from))
below_from key (p ∷ ps) zero (suc j) d e order from within is =
    behind key p.0 (get_or ps j d).0 (above_at p.0 ps j d (omega (arith, within)) order.0) is
below_from key (p ∷ ps) (suc i) (suc j) d e order from within is =
    below_from key ps i j d e order.1 (omega (arith, from)) (omega (arith, within)) is

below_equal : (key : List ℕ) (pairs : List Pair) (i j : ℕ) (d e : Pair) → InByteOrder pairs → i < j → j < length pairs →
    bytes_cmp key (get_or pairs j d).0 ≡ Equal → bytes_cmp key (get_or pairs i e).0 ≡ Greater
below_equal key [] i j d e order from within is = absurd (omega (arith, within))
below_equal key (p ∷ ps) i zero d e order from within is = absurd (omega (arith, from))
below_equal key (p ∷ ps) zero (suc j) d e order from within is =
    behind_equal key p.0 (get_or ps j d).0 (above_at p.0 ps j d (omega (arith, within)) order.0) is
below_equal key (p ∷ ps) (suc i) (suc j) d e order from within is =
    below_equal key ps i j d e order.1 (omega (arith, from)) (omega (arith, within)) is

match_less : {A : Type 0} (o : Ordering) (x y z : A) → o ≡ Less → match_ordering o x y z ≡ x
match_less o x y z is = rw is refl

match_equal : {A : Type 0} (o : Ordering) (x y z : A) → o ≡ Equal → match_ordering o x y z ≡ y
match_equal o x y z is = rw is refl

match_greater : {A : Type 0} (o : Ordering) (x y z : A) → o ≡ Greater → match_ordering o x y z ≡ z
match_greater o x y z is = rw is refl

pub placed_missing : (key : List ℕ) (pairs : List Pair) (at : ℕ) → at ≤ length pairs →
    ((j : ℕ) (d : Pair) → j < at → bytes_cmp key (get_or pairs j d).0 ≡ Greater) →
    ((j : ℕ) (d : Pair) → at ≤ j → j < length pairs → bytes_cmp key (get_or pairs j d).0 ≡ Less) →
    place_of key pairs ≡ Err at
placed_missing key [] at within below above = ap Err (omega (arith, within))
placed_missing key (e ∷ es) zero within below above = match_less _ _ _ _ (above 0 e (omega arith) (omega arith))
placed_missing key (e ∷ es) (suc at) within below above =
    match_greater _ _ _ _ (below 0 e (omega arith))
    ∙ ap next_place (placed_missing key es at (omega (arith, within)) (λ j d less. below (suc j) d (omega (arith, less))) (λ j d from to. above (suc j) d (omega (arith, from)) (omega (arith, to))))

pub placed_here : (key : List ℕ) (pairs : List Pair) (at : ℕ) → at < length pairs →
    ((j : ℕ) (d : Pair) → j < at → bytes_cmp key (get_or pairs j d).0 ≡ Greater) →
    ((d : Pair) → bytes_cmp key (get_or pairs at d).0 ≡ Equal) →
    place_of key pairs ≡ Ok at
placed_here key [] at within below here = absurd (omega (arith, within))
placed_here key (e ∷ es) zero within below here = match_equal _ _ _ _ (here e)
placed_here key (e ∷ es) (suc at) within below here =
    match_greater _ _ _ _ (below 0 e (omega arith))
    ∙ ap next_place (placed_here key es at (omega (arith, within)) (λ j d less. below (suc j) d (omega (arith, less))) (λ d. here d))

-- a key that stands before the one at `middle`
pub lower : (key : List ℕ) (pairs : List Pair) (low middle high : ℕ) (d : Pair) → InByteOrder pairs → IsBetween key pairs low high → low ≤ middle → middle < high →
    bytes_cmp key (get_or pairs middle d).0 ≡ Less → IsBetween key pairs low middle
lower key pairs low middle high d order between from to is = record {
  ordered = from;
  within = omega (arith, to, between.within);
  below = between.below;
  above = λ j e at in'. above_from key pairs middle j d e order at in' is;
}

-- a key that stands behind it
pub higher : (key : List ℕ) (pairs : List Pair) (low middle high : ℕ) (d : Pair) → InByteOrder pairs → IsBetween key pairs low high → low ≤ middle → middle < high →
    bytes_cmp key (get_or pairs middle d).0 ≡ Greater → IsBetween key pairs (middle + 1) high
higher key pairs low middle high d order between from to is = record {
  ordered = omega (arith, to);
  within = between.within;
  below = λ j e less. below_from key pairs j middle d e order (omega (arith, less)) (omega (arith, to, between.within)) is;
  above = between.above;
}

-- a key that is there
pub here : (key : List ℕ) (pairs : List Pair) (middle : ℕ) → InByteOrder pairs → middle < length pairs →
    ((d : Pair) → bytes_cmp key (get_or pairs middle d).0 ≡ Equal) → place_of key pairs ≡ Ok middle
here key pairs middle order within is =
    placed_here key pairs middle within (λ j d less. below_equal key pairs j middle d d order less within (is d)) is

-- a key that isn't
pub missing : (key : List ℕ) (pairs : List Pair) (low high : ℕ) → IsBetween key pairs low high → high ≤ low → place_of key pairs ≡ Err low
missing key pairs low high between done =
    placed_missing key pairs low (omega (arith, between.ordered, between.within)) between.below
    (λ j d from to. between.above j d (omega (arith, from, between.ordered, done)) to)

-- the middle of a part
pub middle_within : (key text : List ℕ) (spans : List Span) (low high : ℕ) → IsBetween key (map (pair_in text) spans) low high → low < high →
    low + (high - low) / 2 < length spans
middle_within key text spans low high between some =
    omega (arith, between.within, some, length-map spans (pair_in text))

-- what the comparison at a place says of the pair there
pub compared : (text key read : List ℕ) (spans : List Span) (at : ℕ) (none : Span) (d : Pair) (o result : Ordering) → at < length spans →
    read ≡ (pair_in text (get_or spans at none)).0 → result ≡ bytes_cmp key read → result ≡ o →
    bytes_cmp key (get_or (map (pair_in text) spans) at d).0 ≡ o
compared text key read spans at none d o result within read_is result_is is =
    ap (λ pair. bytes_cmp key pair.0) (get_or-map (pair_in text) spans at none d within)
    ∙ (ap (bytes_cmp key) (sym read_is) ∙ (sym result_is ∙ is))

-- ---- what the functions do

pub span_at : (text : List ℕ) (spans : List Span) (at : ℕ) (none : Span) → IsTable text spans → at < length spans → IsIn text (get_or spans at none)
span_at text spans at none table within = All-from_recursion (IsIn text) spans table.spans_in at none within

pub got : (key text : List ℕ) (spans : List Span) (at : ℕ) (none : Span) (r : Result ℕ ℕ) → IsTable text spans →
    at < length spans → r ≡ Ok at → r ≡ place_of key (map (pair_in text) spans) →
    Some (pair_in text (get_or spans at none)).1 ≡ value_at key (map (pair_in text) spans)
got key text spans at none r table within is place =
    let pairs : List Pair = map (pair_in text) spans in
    let inside : at < length pairs = omega (arith, within, length-map spans (pair_in text)) in
    sym
    (found key pairs table.in_order
    ∙ (ap (λ where_it_is. value_from where_it_is pairs) (sym place ∙ is)
    ∙ (value_at_place at pairs (pair_in text none) inside
    ∙ ap (λ pair. Some pair.1) (get_or-map (pair_in text) spans at none (pair_in text none) within))))

pub got_none : (key text : List ℕ) (spans : List Span) (at : ℕ) (r : Result ℕ ℕ) → IsTable text spans →
    r ≡ Err at → r ≡ place_of key (map (pair_in text) spans) → None ≡ value_at key (map (pair_in text) spans)
got_none key text spans at r table is place =
    let pairs : List Pair = map (pair_in text) spans in
    sym (found key pairs table.in_order ∙ ap (λ where_it_is. value_from where_it_is pairs) (sym place ∙ is))

pub record IsStored (text key value after : List ℕ) (spans new : List Span) : Type 0 where
  pub table : IsTable after new
  pub pairs : map (pair_in after) new ≡ put (map (pair_in text) spans) (key, value)

pub is_stored : (text first second third key head rest : List ℕ) (spans new : List Span) (span : Span) (r : Result ℕ ℕ) → IsTable text spans →
    r ≡ place_of key (map (pair_in text) spans) →
    first ≡ text ++ key → second ≡ first ++ head → third ≡ second ++ rest →
    span.key ≡ length text → span.value ≡ length first → span.end ≡ length third →
    new ≡ placed r spans span → IsUtf8 key → IsUtf8 head → IsUtf8 rest → IsStored text key (head ++ rest) third spans new
is_stored text first second third key head rest spans new span r table place first_is second_is third_is key_at value_at end_at new_is key_utf8 head_utf8 rest_utf8 =
    let whole : third ≡ (text ++ key) ++ (head ++ rest) =
    third_is ∙ (ap (λ front. front ++ rest) (second_is ∙ ap (λ front. front ++ head) first_is) ∙ append_assoc (text ++ key) head rest) in
    let stored : IsPut text key (head ++ rest) spans span r =
    is_put text key (head ++ rest) spans span r table place key_at (value_at ∙ ap length first_is) (end_at ∙ ap length whole)
    key_utf8 (IsUtf8-append head rest head_utf8 rest_utf8) in
    rw (whole, new_is) (record { table = stored.table; pairs = stored.pairs })
