-- Lists of logs and addresses, row by row.
use Rattle.std.proofs.Common.{◌≡◌, ◌+◌, ◌<◌, ◌≤◌, ◌⊎◌, ℕ, Bool, true, false, List, [], ◌∷◌, ◌++◌, All, Option, Some, None, ap, append_assoc, arith, cond, filter, get_or, inl, inr, length, map, refl, rules, subst, sym, take, ◌∙◌, length-append}
use Rattle.std.proofs.lemmas.List.{append-nil, length-take-le, map-append, take-append-le, take_all, take_more}
use Rattle.std.proofs.lemmas.Bool.{cases_lt}
use Rattle.std.proofs.lemmas.List.Elements.{All-append, All-cons, All-head, All-nil, All-tail, Contains-append_left, Contains-append_right, Contains-push_cases, filter-append, filter_map-append}
use Rattle.std.specs.Prelude.{Contains, filter_map}
use Rattle.channel_uri.specs.declared.address.Address.{Address}
use Rattle.media_agents.specs.Finding.{Adds, AddsIf, AreDistinct, AreNamed}

-- ---- logs

module _ {A : Type 0} where
  -- so many, and more of them, cut off again
  pub take_again : (n : ℕ) (xs ys : List A) → take n (take n xs ++ ys) ≡ take n (xs ++ ys)
  take_again n xs ys = by (cases_lt (length xs) n)
    where
      by : (length xs < n) ⊎ (n ≤ length xs) → take n (take n xs ++ ys) ≡ take n (xs ++ ys)
      by (inl short) = ap (λ (all : List A). take n (all ++ ys)) (take_all n xs (omega arith))
      by (inr long) =
          let some : length (take n xs) ≡ n = length-take-le n xs long in
          take-append-le n (take n xs) ys (omega (arith, some))
          ∙ take_all n (take n xs) (omega (arith, some))
          ∙ sym (take-append-le n xs ys long)

  pub full : (n : ℕ) (xs ys : List A) → length xs ≤ n → n ≤ length xs → xs ≡ take n (xs ++ ys)
  full n xs ys few most = sym (take-append-le n xs ys most ∙ take_all n xs few)

  pub has_room : (n : ℕ) (xs : List A) (x : A) → length xs < n → xs ++ x ∷ [] ≡ take n (xs ++ x ∷ [])
  has_room n xs x room = sym (take_all n (xs ++ x ∷ []) (omega (arith, length-append xs (x ∷ []))))

module _ {A B : Type 0} (of : A → B) (p : A → Bool) where
  joins : (n : ℕ) (before : List B) (one : A) (b : Bool) → p one ≡ b
      → cond b (take n (take n before ++ of one ∷ [])) (take n before) ≡ take n (before ++ map of (filter p (one ∷ [])))
  joins n before one true is =
      take_again n before (of one ∷ [])
      ∙ ap (λ (b : Bool). take n (before ++ map of (cond b (one ∷ []) []))) (sym is)
  joins n before one false is =
      ap (take n) (sym (append-nil before))
      ∙ ap (λ (b : Bool). take n (before ++ map of (cond b (one ∷ []) []))) (sym is)

  -- one row more, after those that were there first
  pub list_more : (n : ℕ) (first : List B) (rows : List A) (at : ℕ) (one : A) (old new : List B) → at < length rows
      → one ≡ get_or rows at one
      → old ≡ take n (first ++ map of (filter p (take at rows)))
      → new ≡ cond (p one) (take n (old ++ of one ∷ [])) old
      → new ≡ take n (first ++ map of (filter p (take (at + 1) rows)))
  list_more n first rows at one old new within is before added =
      let rest : List B = map of (filter p (take at rows)) in
      let whole : map of (filter p (take (at + 1) rows)) ≡ rest ++ map of (filter p (one ∷ [])) =
      ap (λ (rows : List A). map of (filter p rows)) (take_more rows at one within)
      ∙ ap (λ (last : A). map of (filter p (take at rows ++ last ∷ []))) (sym is)
      ∙ ap (map of) (filter-append p (take at rows) (one ∷ []))
      ∙ map-append of (filter p (take at rows)) (filter p (one ∷ [])) in
      added
      ∙ ap (λ (old : List B). cond (p one) (take n (old ++ of one ∷ [])) old) before
      ∙ joins n (first ++ rest) one (p one) refl
      ∙ ap (take n) (append_assoc first rest (map of (filter p (one ∷ []))))
      ∙ ap (λ (more : List B). take n (first ++ more)) (sym whole)

-- ---- addresses

all_weaken : (P Q : Address → Type 0) (xs : List Address) → ((x : Address) → P x → Q x) → All P xs → All Q xs
all_weaken P Q [] is all = All-nil Q
all_weaken P Q (x ∷ xs) is all = All-cons Q x xs (is x (All-head P x xs all)) (all_weaken P Q xs is (All-tail P x xs all))

one : (P : Address → Type 0) (x : Address) → P x → All P (x ∷ [])
one P x is = All-cons P x [] is (All-nil P)

last_is_there : (xs : List Address) (x : Address) → Contains (xs ++ x ∷ []) x
last_is_there xs x = Contains-append_right xs (x ∷ []) x (search rules)

push_distinct : (xs : List Address) (x : Address) → AreDistinct xs → (Contains xs x → ⊥) → AreDistinct (xs ++ x ∷ [])
push_distinct [] x none new = (new, tt)
push_distinct (first ∷ xs) x distinct new = (
  λ there. by (Contains-push_cases xs x first there),
  push_distinct xs x distinct.1 (λ there. new (Contains-append_right (first ∷ []) xs x there)),
)
  where
    by : Contains xs first ⊎ (x ≡ first) → ⊥
    by (inl there) = distinct.0 there
    by (inr same) = new (0, omega arith, sym same)

-- one more is named, and it joins them
pub named_more : (named old new : List Address) (address : Address) → AreNamed named old → Adds old address new → AreNamed (named ++ address ∷ []) new
named_more named old new address before (inl same) =
    subst (AreNamed (named ++ address ∷ [])) (sym same.0) record {
      once = before.once;
      each = all_weaken (Contains named) (Contains (named ++ address ∷ [])) old (λ x. Contains-append_left named (address ∷ []) x) before.each;
      all = all_of before.all same.1;
    }
  where
    all_of : All (Contains old) named ⊎ (length old ≡ 512) → Contains old address ⊎ (length old ≡ 512)
        → All (Contains old) (named ++ address ∷ []) ⊎ (length old ≡ 512)
    all_of (inl all) (inl there) = inl (All-append (Contains old) named (address ∷ []) all (one (Contains old) address there))
    all_of (inl all) (inr most) = inr most
    all_of (inr most) there = inr most
named_more named old new address before (inr joined) =
    subst (AreNamed (named ++ address ∷ [])) (sym joined.0) record {
      once = push_distinct old address before.once joined.2;
      each = All-append (Contains (named ++ address ∷ [])) old (address ∷ [])
          (all_weaken (Contains named) (Contains (named ++ address ∷ [])) old (λ x. Contains-append_left named (address ∷ []) x) before.each)
          (one (Contains (named ++ address ∷ [])) address (last_is_there named address));
      all = all_of before.all;
    }
  where
    all_of : All (Contains old) named ⊎ (length old ≡ 512)
        → All (Contains (old ++ address ∷ [])) (named ++ address ∷ []) ⊎ (length (old ++ address ∷ []) ≡ 512)
    all_of (inl all) = inl (All-append (Contains (old ++ address ∷ [])) named (address ∷ [])
        (all_weaken (Contains old) (Contains (old ++ address ∷ [])) named (λ x. Contains-append_left old (address ∷ []) x) all)
        (one (Contains (old ++ address ∷ [])) address (last_is_there old address)))
    all_of (inr most) = absurd (omega (arith, joined.1))

module _ {A : Type 0} (at_row : A → Option Address) where
  named_if : (named old new : List Address) (found : Option Address) (row : A) → at_row row ≡ found
      → AreNamed named old → AddsIf found old new → AreNamed (named ++ filter_map at_row (row ∷ [])) new
  named_if named old new None row is before same =
      let none : filter_map at_row (row ∷ []) ≡ [] = rw is refl in
      subst (λ (more : List Address). AreNamed (named ++ more) new) (sym none)
      (subst (λ (all : List Address). AreNamed all new) (sym (append-nil named)) (subst (AreNamed named) (sym same) before))
  named_if named old new (Some address) row is before adds =
      let some : filter_map at_row (row ∷ []) ≡ address ∷ [] = rw is refl in
      subst (λ (more : List Address). AreNamed (named ++ more) new) (sym some) (named_more named old new address before adds)

  -- one row more
  pub addresses_more : (rows : List A) (at : ℕ) (one : A) (old new : List Address) → at < length rows
      → one ≡ get_or rows at one
      → AreNamed (filter_map at_row (take at rows)) old → AddsIf (at_row one) old new
      → AreNamed (filter_map at_row (take (at + 1) rows)) new
  addresses_more rows at one old new within is before adds =
      let whole : filter_map at_row (take (at + 1) rows) ≡ filter_map at_row (take at rows) ++ filter_map at_row (one ∷ []) =
      ap (filter_map at_row) (take_more rows at one within)
      ∙ ap (λ (last : A). filter_map at_row (take at rows ++ last ∷ [])) (sym is)
      ∙ filter_map-append at_row (take at rows) (one ∷ []) in
      subst (λ (named : List Address). AreNamed named new) (sym whole)
      (named_if (filter_map at_row (take at rows)) old new (at_row one) one refl before adds)

pub none_named : AreNamed [] []
none_named = record { once = tt; each = All-nil (Contains []); all = inl (All-nil (Contains [])) }
