-- Which letter is the first that goes to an address.
use Rattle.std.proofs.Common.{◌≡◌, ◌≤◌, ℕ, ◌==◌, Bool, true, false, cond, nat_lt, List, Some, None, length, refl, ap, ap₂, ◌∙◌, sym, arith}
use Rattle.std.specs.List.{find, position, position_or_len, slice_get, slice_index_or}
use Rattle.std.specs.Str.{bytes_eq}
use Rattle.std.proofs.lemmas.Bool.{and_parts}
use Rattle.std.proofs.lemmas.Bool.Decides.{nat_tests}
use Rattle.std.proofs.lemmas.List.Folds.{find_at}
use Rattle.std.proofs.lemmas.List.Quantifiers.{position-Some}
use Rattle.std.proofs.lemmas.Option.{cond_some, slice_get-get_or, slice_get_past}
use Rattle.std.proofs.lemmas.Slice.Eq.{bytes_eq-Decides}
use Rattle.channel_uri.specs.Address.{is_same}
use Rattle.channel_uri.specs.declared.address.Address.{Address}

abbrev address_from : List ℕ → ℕ → Address
address_from octets port = record { octets = octets; port = port }

pub same_addresses : (one other : Address) → is_same one other ≡ true → one ≡ other
same_addresses one other same =
    let parts = and_parts (bytes_eq one.octets other.octets) (one.port == other.port) same in
    let octets : one.octets ≡ other.octets = (bytes_eq-Decides one.octets other.octets).0 parts.0 in
    let port : one.port ≡ other.port = grind (arith, nat_tests, parts.1) in
    ap₂ address_from octets port

cond_none : (b : Bool) (x : ℕ) → cond b (Some x) None ≡ None → b ≡ false
cond_none true x is = cc
cond_none false x is = refl

module _ {X : Type 0} (test : X → Bool) where
  pub place_is : (items : List X) (place : ℕ) → position test items ≡ Some place → position_or_len test items ≡ place
  place_is items place is = (cond_some (nat_lt (position_or_len test items) (length items)) (position_or_len test items) place is).1

  pub found_at : (items : List X) (place : ℕ) (item : X) → position test items ≡ Some place → item ≡ slice_index_or items place item →
      find test items ≡ Some item
  found_at items place item is value =
      let within = (position-Some test items place item is).0 in
      find_at test items ∙ ap (slice_get items) (place_is items place is) ∙ slice_get-get_or items place item within ∙ ap Some (sym value)

  pub none_found : (items : List X) → position test items ≡ None → find test items ≡ None
  none_found items is =
      let past : nat_lt (position_or_len test items) (length items) ≡ false =
      cond_none (nat_lt (position_or_len test items) (length items)) (position_or_len test items) is in
      let behind : length items ≤ position_or_len test items = grind (arith, nat_tests, past) in
      find_at test items ∙ slice_get_past items (position_or_len test items) behind
