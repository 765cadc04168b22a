-- An address has one text.
use Rattle.std.proofs.Common.{◌≡◌, ℕ, ◌<◌, ◌≤◌, ◌==◌, ◌^◌, Bool, true, false, cond, List, [], ◌∷◌, ◌++◌, Option, Some, None, refl, sym, ap, ◌∙◌, length, get_or, nat_eq, nat_le, nat_lt, codes, append_assoc, arith}
use Rattle.std.specs.Char.{is_ascii_digit}
use Rattle.std.specs.Fmt.{decimal}
use Rattle.std.specs.List.{list_all, starts_with}
use Rattle.std.specs.Net.Text.{ipv4_text}
use Rattle.std.specs.Str.Parse.{digits_value}
use Rattle.std.proofs.lemmas.Bool.{ltb-true}
use Rattle.std.proofs.lemmas.Bool.Decides.{nat_tests}
use Rattle.std.proofs.lemmas.Fmt.{decimal-digits_value}
use Rattle.channel_uri.specs.declared.address.Address.{Address}
use Rattle.channel_uri.specs.Address.{plain_below, first_octet_of, octets_of, port_of, address_of, address_text, AddressesHaveOneText}
use Rattle.channel_uri.specs.Number.{◌>>?◌, decimal_of, below}
use Rattle.channel_uri.specs.Syntax.{cut}
use Rattle.channel_uri.proofs.Cuts.{cut_parts}
use Rattle.channel_uri.proofs.NumberLemmas.{decimals}

pub next_some : {A B : Type 0} (o : Option A) (next : A → Option B) (y : B) → o >>? next ≡ Some y → (x : A) × (o ≡ Some x) × (next x ≡ Some y)
next_some None next y e = absurd cc
next_some (Some x) next y e = (x, refl, e)

pub some_is : {A : Type 0} (x y : A) (o : Option A) → o ≡ Some x → o ≡ Some y → x ≡ y
some_is x y o first second = cc

-- ---- decimals

record IsDecimal (text : List ℕ) (number : ℕ) : Type 0 where
  pub some : 0 < length text
  pub digits : list_all is_ascii_digit text ≡ true
  pub value : digits_value 10 text ≡ number

is_decimal_from : (empty digits : Bool) (text : List ℕ) (number : ℕ) → (length text == 0) ≡ empty → list_all is_ascii_digit text ≡ digits →
    cond {A = Option ℕ} empty None (cond digits (Some (digits_value 10 text)) None) ≡ Some number → IsDecimal text number
is_decimal_from true digits text number is all e = absurd cc
is_decimal_from false false text number is all e = absurd cc
is_decimal_from false true text number is all e =
    record { some = grind (arith, nat_tests, is); digits = all; value = some_is (digits_value 10 text) number _ refl e }

is_decimal : (text : List ℕ) (number : ℕ) → decimal_of text ≡ Some number → IsDecimal text number
unfolding decimal_of
is_decimal text number e = is_decimal_from _ _ text number refl refl e

below_from : (b : Bool) (limit found number : ℕ) → nat_lt found limit ≡ b → cond {A = Option ℕ} b (Some found) None ≡ Some number → (found ≡ number) × (found < limit)
below_from true limit found number is e = (some_is found number _ refl e, ltb-true found limit is)
below_from false limit found number is e = absurd cc

pub below_is : (limit : ℕ) (o : Option ℕ) (number : ℕ) → below limit o ≡ Some number → (o ≡ Some number) × (number < limit)
below_is limit None number e = absurd cc
below_is limit (Some found) number e =
    let kept = below_from (nat_lt found limit) limit found number refl e in
    (ap Some kept.0, rw (← kept.0) kept.1)

starts_zero : (text : List ℕ) → 1 < length text → get_or text 0 0 ≡ 48 → starts_with nat_eq text (codes "0") ≡ true
starts_zero [] long zero_first = absurd (omega (arith, long))
starts_zero (x ∷ xs) long zero_first = rw zero_first refl

pub plain_from : (long zeros : Bool) (text : List ℕ) (o : Option ℕ) (number : ℕ) → nat_lt 1 (length text) ≡ long → starts_with nat_eq text (codes "0") ≡ zeros →
    cond long (cond zeros None o) o ≡ Some number → (o ≡ Some number) × (get_or text 0 0 ≡ 48 → length text ≤ 1)
plain_from true true text o number is zeros e = absurd cc
plain_from true false text o number is zeros e =
    (e, λ first. absurd (let never : true ≡ false = sym (starts_zero text (ltb-true 1 (length text) is) first) ∙ zeros in cc))
plain_from false zeros text o number is zeros_are e = (e, λ first. grind (arith, nat_tests, is))

-- a decimal with no leading zero is what its number is written as
plain_is : (limit : ℕ) (text : List ℕ) (number : ℕ) → limit ≤ 65536 → plain_below limit text ≡ Some number → text ≡ decimal number
plain_is limit text number small e =
    let plain = plain_from _ _ text (below limit (decimal_of text)) number refl refl e in
    let kept = below_is limit (decimal_of text) number plain.0 in
    let written = is_decimal text number kept.0 in
    let fits : digits_value 10 text < 2 ^ 64 = omega (arith, written.value, kept.1, small) in
    sym (decimal-digits_value decimals text written.digits written.some (λ first. omega (arith, plain.1 first, written.some)) fits)
    ∙ ap decimal written.value

-- ---- addresses

joined_by : (mark : ℕ) (a b c d : List ℕ) → a ≡ c → b ≡ d → a ++ mark ∷ b ≡ c ++ mark ∷ d
joined_by mark a b c d first second = ap (λ front. front ++ mark ∷ b) first ∙ ap (λ back. c ++ mark ∷ back) second

octet_from : (low high : Bool) (octet kept : ℕ) → cond {A = Option ℕ} low (cond high None (Some octet)) (Some octet) ≡ Some kept → octet ≡ kept
octet_from true true octet kept e = absurd cc
octet_from true false octet kept e = some_is octet kept _ refl e
octet_from false high octet kept e = some_is octet kept _ refl e

port_from : (b : Bool) (port kept : ℕ) → cond {A = Option ℕ} b None (Some port) ≡ Some kept → port ≡ kept
port_from true port kept e = absurd cc
port_from false port kept e = some_is port kept _ refl e

pub dotted : (a b c d : List ℕ) → a ++ 46 ∷ (b ++ 46 ∷ (c ++ 46 ∷ d)) ≡ ((((((a ++ codes ".") ++ b) ++ codes ".") ++ c) ++ codes ".") ++ d)
dotted a b c d =
    sym
    (append_assoc ((((a ++ codes ".") ++ b) ++ codes ".") ++ c) (codes ".") d
    ∙ (append_assoc (((a ++ codes ".") ++ b) ++ codes ".") c (46 ∷ d)
    ∙ (append_assoc ((a ++ codes ".") ++ b) (codes ".") (c ++ 46 ∷ d)
    ∙ (append_assoc (a ++ codes ".") b (46 ∷ (c ++ 46 ∷ d)) ∙ append_assoc a (codes ".") (b ++ 46 ∷ (c ++ 46 ∷ d))))))

octets_are : (host octets : List ℕ) → octets_of host ≡ Some octets → host ≡ ipv4_text octets
octets_are host octets e =
    let first = next_some (cut 46 host) _ octets e in
    let second = next_some (cut 46 first.0.1) _ octets first.2 in
    let third = next_some (cut 46 second.0.1) _ octets second.2 in
    let a = next_some (first_octet_of first.0.0) _ octets third.2 in
    let b = next_some (plain_below 256 second.0.0) _ octets a.2 in
    let c = next_some (plain_below 256 third.0.0) _ octets b.2 in
    let d = next_some (plain_below 256 third.0.1) _ octets c.2 in
    let octet = next_some (plain_below 256 first.0.0) _ a.0 a.1 in
    let a_is : first.0.0 ≡ decimal a.0 =
    plain_is 256 first.0.0 octet.0 (omega arith) octet.1
    ∙ ap decimal (octet_from (nat_le 224 octet.0) (nat_le octet.0 239) octet.0 a.0 octet.2) in
    let b_is : second.0.0 ≡ decimal b.0 = plain_is 256 second.0.0 b.0 (omega arith) b.1 in
    let c_is : third.0.0 ≡ decimal c.0 = plain_is 256 third.0.0 c.0 (omega arith) c.1 in
    let d_is : third.0.1 ≡ decimal d.0 = plain_is 256 third.0.1 d.0 (omega arith) d.1 in
    let last : second.0.1 ≡ decimal c.0 ++ 46 ∷ decimal d.0 =
    (cut_parts 46 second.0.1 third.0.0 third.0.1 third.1).whole ∙ joined_by 46 third.0.0 third.0.1 (decimal c.0) (decimal d.0) c_is d_is in
    let later : first.0.1 ≡ decimal b.0 ++ 46 ∷ (decimal c.0 ++ 46 ∷ decimal d.0) =
    (cut_parts 46 first.0.1 second.0.0 second.0.1 second.1).whole ∙ joined_by 46 second.0.0 second.0.1 (decimal b.0) (decimal c.0 ++ 46 ∷ decimal d.0) b_is last in
    let whole : host ≡ decimal a.0 ++ 46 ∷ (decimal b.0 ++ 46 ∷ (decimal c.0 ++ 46 ∷ decimal d.0)) =
    (cut_parts 46 host first.0.0 first.0.1 first.1).whole ∙ joined_by 46 first.0.0 first.0.1 (decimal a.0) (decimal b.0 ++ 46 ∷ (decimal c.0 ++ 46 ∷ decimal d.0)) a_is later in
    let numbers : List ℕ = a.0 ∷ b.0 ∷ c.0 ∷ d.0 ∷ [] in
    whole
    ∙ (dotted (decimal a.0) (decimal b.0) (decimal c.0) (decimal d.0)
    ∙ ap ipv4_text (some_is numbers octets (Some numbers) refl d.2))

pub addresses_have_one_text : AddressesHaveOneText
unfolding address_of
addresses_have_one_text text address e =
    let sides = next_some (cut 58 text) _ address e in
    let octets = next_some (octets_of sides.0.0) _ address sides.2 in
    let port = next_some (port_of sides.0.1) _ address octets.2 in
    let number = next_some (plain_below 65536 sides.0.1) _ port.0 port.1 in
    let host_is : sides.0.0 ≡ ipv4_text octets.0 = octets_are sides.0.0 octets.0 octets.1 in
    let port_is : sides.0.1 ≡ decimal port.0 =
    plain_is 65536 sides.0.1 number.0 (omega arith) number.1 ∙ ap decimal (port_from (number.0 == 0) number.0 port.0 number.2) in
    let whole : text ≡ ipv4_text octets.0 ++ 58 ∷ decimal port.0 =
    (cut_parts 58 text sides.0.0 sides.0.1 sides.1).whole ∙ joined_by 58 sides.0.0 sides.0.1 (ipv4_text octets.0) (decimal port.0) host_is port_is in
    let same : Address = record { octets = octets.0; port = port.0 } in
    whole ∙ ap address_text (some_is same address (Some same) refl port.2)
