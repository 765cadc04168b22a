-- Of several pairs with one key the last one stands.
use Rattle.std.proofs.Common.{◌≡◌, ℕ, Bool, true, false, cond, List, [], ◌∷◌, ◌++◌, Some, refl, sym, ap, ◌∙◌, append-nil, append_assoc, reverse}
use Rattle.std.specs.Ordering.{nat_cmp, is_eq, match_ordering}
use Rattle.std.specs.declared.cmp.Ordering.{Ordering}
use Rattle.std.specs.declared.cmp.Ordering.TheVariants.{Less, Equal, Greater}
use Rattle.std.specs.Cmp.Lexicographic.{slice_cmp}
use Rattle.std.specs.BTreeMap.{insert_entry}
use Rattle.std.specs.Map.{lookup}
use Rattle.std.specs.Str.{bytes_eq}
use Rattle.std.proofs.lemmas.List.{reverse-append}
use Rattle.std.proofs.lemmas.Map.Text.{is_eq-slice_cmp}
use Rattle.std.proofs.lemmas.Slice.Eq.{bytes_eq-Decides}
use Rattle.channel_uri.specs.Keys.{Pair, bytes_cmp, put, kept, value_at, LastValueStands}

cond_twice : {A : Type 0} (b : Bool) (x y z : A) → cond b x z ≡ cond b x (cond b y z)
cond_twice true x y z = refl
cond_twice false x y z = refl

cond_apart : {A : Type 0} (a b : Bool) (x y z : A) → (a ≡ true → b ≡ true → ⊥) → cond a x (cond b y z) ≡ cond b y (cond a x z)
cond_apart true true x y z never = absurd (never refl refl)
cond_apart true false x y z never = refl
cond_apart false true x y z never = refl
cond_apart false false x y z never = refl

-- a key that is put in among others is found first
put_from : (q key value : List ℕ) (e : Pair) (es : List Pair) (o : Ordering) → slice_cmp nat_cmp key e.0 ≡ o →
    lookup (bytes_eq q) (insert_entry bytes_cmp es key value) ≡ lookup (bytes_eq q) ((key, value) ∷ es) →
    lookup (bytes_eq q) (match_ordering o ((key, value) ∷ e ∷ es) ((e.0, value) ∷ es) (e ∷ insert_entry bytes_cmp es key value))
    ≡ lookup (bytes_eq q) ((key, value) ∷ e ∷ es)
put_from q key value e es Less is later = refl
put_from q key value e es Equal is later =
    let same : key ≡ e.0 = (bytes_eq-Decides key e.0).0 (sym (is_eq-slice_cmp key e.0) ∙ ap is_eq is) in
    rw same (cond_twice (bytes_eq q e.0) (Some value) (Some e.1) (lookup (bytes_eq q) es))
put_from q key value e es Greater is later =
    let differ : bytes_eq key e.0 ≡ false = sym (is_eq-slice_cmp key e.0) ∙ ap is_eq is in
    rw later
    (cond_apart (bytes_eq q e.0) (bytes_eq q key) (Some e.1) (Some value) (lookup (bytes_eq q) es)
    (λ first second.
    let same : key ≡ e.0 = sym ((bytes_eq-Decides q key).0 second) ∙ (bytes_eq-Decides q e.0).0 first in
    let equal : bytes_eq key e.0 ≡ true = (bytes_eq-Decides key e.0).1 same in
    cc))

lookup-put : (q : List ℕ) (keys : List Pair) (pair : Pair) → value_at q (put keys pair) ≡ value_at q (pair ∷ keys)
lookup-put q [] pair = refl
lookup-put q (e ∷ es) pair = put_from q pair.0 pair.1 e es (slice_cmp nat_cmp pair.0 e.0) refl (lookup-put q es pair)

-- behind the same pairs, equal look-ups stay equal
lookup-behind : (q : List ℕ) (front xs ys : List Pair) → value_at q xs ≡ value_at q ys → value_at q (front ++ xs) ≡ value_at q (front ++ ys)
lookup-behind q [] xs ys same = same
lookup-behind q (e ∷ es) xs ys same = ap (cond (bytes_eq q e.0) (Some e.1)) (lookup-behind q es xs ys same)

lookup-kept : (q : List ℕ) (keys pairs : List Pair) → value_at q (kept keys pairs) ≡ value_at q (reverse pairs ++ keys)
lookup-kept q keys [] = refl
lookup-kept q keys (pair ∷ pairs) =
    let turned : reverse (pair ∷ pairs) ≡ reverse pairs ++ (pair ∷ []) = reverse-append (pair ∷ []) pairs in
    lookup-kept q (put keys pair) pairs
    ∙ (lookup-behind q (reverse pairs) (put keys pair) (pair ∷ keys) (lookup-put q keys pair)
    ∙ (ap (value_at q) (sym (append_assoc (reverse pairs) (pair ∷ []) keys)) ∙ ap (λ front. value_at q (front ++ keys)) (sym turned)))

pub last_value : LastValueStands
last_value key pairs = lookup-kept key [] pairs ∙ ap (value_at key) (append-nil (reverse pairs))
