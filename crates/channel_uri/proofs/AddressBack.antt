-- An address is read back from its text, and only such an address is read.
use Rattle.std.proofs.Common.{◌≡◌, ℕ, zero, suc, ◌<◌, ◌≤◌, ◌==◌, ◌^◌, Bool, true, false, cond, List, [], ◌∷◌, ◌++◌, Option, Some, None, refl, sym, ap, subst, ◌∙◌, length, drop, get_or, slice_index, nat_eq, nat_le, nat_lt, codes, length-append, arith}
use Rattle.std.specs.Char.{is_ascii_digit}
use Rattle.std.specs.Fmt.{decimal}
use Rattle.std.specs.List.{AllByRecursion, list_all, starts_with}
use Rattle.std.specs.Net.Text.{ipv4_text}
use Rattle.std.proofs.lemmas.Bool.{and_parts, eqb-true}
use Rattle.std.proofs.lemmas.Bool.Decides.{Decides-eqb, nat_tests}
use Rattle.std.proofs.lemmas.Fmt.{decimal_nonempty, digits_decimal, digits_value-decimal, first_decimal, length-decimal-le}
use Rattle.std.proofs.lemmas.Slice.Eq.{starts_is}
use Rattle.channel_uri.specs.declared.address.Address.{Address}
use Rattle.channel_uri.specs.Address.{plain_below, first_octet_of, octets_of, port_of, address_of, address_text, IsEndpoint, AddressesAreReadBack}
use Rattle.channel_uri.specs.Number.{◌>>?◌, decimal_of, below}
use Rattle.channel_uri.specs.Syntax.{cut}
use Rattle.channel_uri.proofs.AddressText.{next_some, some_is, below_is, plain_from, dotted}
use Rattle.channel_uri.proofs.Cuts.{Lacks, lacks_append, cut_at}
use Rattle.channel_uri.proofs.NumberLemmas.{decimals}

-- ---- a decimal is read back

decimal_back : (n : ℕ) → n < 2 ^ 64 → decimal_of (decimal n) ≡ Some n
unfolding decimal_of
decimal_back n small =
    let some : (length (decimal n) == 0) ≡ false = grind (arith, nat_tests, decimal_nonempty n small) in
    let digits : list_all is_ascii_digit (decimal n) ≡ true = digits_decimal decimals n small in
    rw (some, digits) (ap Some (digits_value-decimal decimals n small))

no_zero_from : (b : Bool) (text : List ℕ) → starts_with nat_eq text (codes "0") ≡ b → 48 < get_or text 0 0 → starts_with nat_eq text (codes "0") ≡ false
no_zero_from true text is above =
    let begins : text ≡ codes "0" ++ drop 1 text = (starts_is Decides-eqb text (codes "0") _ refl).0 is in
    let first : get_or text 0 0 ≡ 48 = ap (λ whole. get_or whole 0 0) begins in
    absurd (omega (arith, first, above))
no_zero_from false text is above = is

long_begins : (n : ℕ) → n < 2 ^ 64 → nat_lt 1 (length (decimal n)) ≡ true → starts_with nat_eq (decimal n) (codes "0") ≡ false
long_begins zero small long =
    let short : length (decimal 0) ≤ 1 = length-decimal-le 1 0 (omega arith) (omega arith) (omega arith) in
    absurd (grind (arith, nat_tests, short, long))
long_begins (suc n) small long = no_zero_from _ (decimal (suc n)) refl (first_decimal (suc n) (omega arith) small)

plain_back_from : (long zeros : Bool) (o : Option ℕ) → (long ≡ true → zeros ≡ false) → cond long (cond zeros None o) o ≡ o
plain_back_from false zeros o none = refl
plain_back_from true zeros o none = rw (none refl) refl

-- a number below the limit is read back from what it is written as
plain_back : (limit n : ℕ) → limit ≤ 65536 → n < limit → plain_below limit (decimal n) ≡ Some n
plain_back limit n small fits =
    let inside : nat_lt n limit ≡ true = grind (arith, nat_tests, fits) in
    plain_back_from (nat_lt 1 (length (decimal n))) (starts_with nat_eq (decimal n) (codes "0")) (below limit (decimal_of (decimal n))) (long_begins n (omega (arith, small, fits)))
    ∙ (ap (below limit) (decimal_back n (omega (arith, small, fits))) ∙ (rw inside refl))

-- ---- a decimal has no marks

mark_apart_from : (mark x : ℕ) (b : Bool) → (x == mark) ≡ b → is_ascii_digit mark ≡ false → is_ascii_digit x ≡ true → (x == mark) ≡ false
mark_apart_from mark x true is mark_is digit = absurd (let same : is_ascii_digit mark ≡ true = subst (λ c. is_ascii_digit c ≡ true) (eqb-true x mark is) digit in cc)
mark_apart_from mark x false is mark_is digit = is

lacks_digits : (mark : ℕ) (text : List ℕ) → is_ascii_digit mark ≡ false → list_all is_ascii_digit text ≡ true → Lacks mark text
lacks_digits mark [] no_digit all = tt
lacks_digits mark (x ∷ xs) no_digit all =
    let parts = and_parts _ _ all in
    (mark_apart_from mark x (x == mark) refl no_digit parts.0, lacks_digits mark xs no_digit parts.1)

pub lacks_decimal : (mark n : ℕ) → is_ascii_digit mark ≡ false → n < 65536 → Lacks mark (decimal n)
lacks_decimal mark n no_digit small = lacks_digits mark (decimal n) no_digit (digits_decimal decimals n (omega (arith, small)))

-- ---- four numbers are read back

octet_back_from : (low high : Bool) (octet : ℕ) → (low ≡ true → high ≡ true → ⊥) → cond {A = Option ℕ} low (cond high None (Some octet)) (Some octet) ≡ Some octet
octet_back_from true true octet never = absurd (never refl refl)
octet_back_from true false octet never = refl
octet_back_from false high octet never = refl

first_back : (octet : ℕ) → octet < 256 → (224 ≤ octet → octet ≤ 239 → ⊥) → first_octet_of (decimal octet) ≡ Some octet
first_back octet small one_host =
    ap (λ read. read >>? λ octet. cond (nat_le 224 octet) (cond (nat_le octet 239) None (Some octet)) (Some octet)) (plain_back 256 octet (omega arith) small)
    ∙ octet_back_from (nat_le 224 octet) (nat_le octet 239) octet (λ low high. one_host (grind (arith, nat_tests, low)) (grind (arith, nat_tests, high)))

octets_from : (host later last a b c d : List ℕ) (i j k l : ℕ) → cut 46 host ≡ Some (a, later) → cut 46 later ≡ Some (b, last) → cut 46 last ≡ Some (c, d) →
    first_octet_of a ≡ Some i → plain_below 256 b ≡ Some j → plain_below 256 c ≡ Some k → plain_below 256 d ≡ Some l → octets_of host ≡ Some (i ∷ j ∷ k ∷ l ∷ [])
octets_from host later last a b c d i j k l first second third is_a is_b is_c is_d = rw (first, second, third, is_a, is_b, is_c, is_d) refl

octets_back : (a b c d : ℕ) → a < 256 → b < 256 → c < 256 → d < 256 → (224 ≤ a → a ≤ 239 → ⊥) →
    octets_of (ipv4_text (a ∷ b ∷ c ∷ d ∷ [])) ≡ Some (a ∷ b ∷ c ∷ d ∷ [])
octets_back a b c d fits_a fits_b fits_c fits_d one_host =
    let last : List ℕ = decimal c ++ 46 ∷ decimal d in
    let later : List ℕ = decimal b ++ 46 ∷ last in
    ap octets_of (sym (dotted (decimal a) (decimal b) (decimal c) (decimal d)))
    ∙ octets_from (decimal a ++ 46 ∷ later) later last (decimal a) (decimal b) (decimal c) (decimal d) a b c d
    (cut_at 46 (decimal a) later (lacks_decimal 46 a refl (omega (arith, fits_a))))
    (cut_at 46 (decimal b) last (lacks_decimal 46 b refl (omega (arith, fits_b))))
    (cut_at 46 (decimal c) (decimal d) (lacks_decimal 46 c refl (omega (arith, fits_c))))
    (first_back a fits_a one_host)
    (plain_back 256 b (omega arith) fits_b) (plain_back 256 c (omega arith) fits_c) (plain_back 256 d (omega arith) fits_d)

lacks_dotted : (mark a b c d : ℕ) → is_ascii_digit mark ≡ false → (46 == mark) ≡ false → a < 256 → b < 256 → c < 256 → d < 256 →
    Lacks mark (ipv4_text (a ∷ b ∷ c ∷ d ∷ []))
lacks_dotted mark a b c d no_digit no_dot fits_a fits_b fits_c fits_d =
    let dot : Lacks mark (codes ".") = (no_dot, tt) in
    let first : Lacks mark (decimal a ++ codes ".") = lacks_append mark (decimal a) (codes ".") (lacks_decimal mark a no_digit (omega (arith, fits_a))) dot in
    let second : Lacks mark ((decimal a ++ codes ".") ++ decimal b) = lacks_append mark _ (decimal b) first (lacks_decimal mark b no_digit (omega (arith, fits_b))) in
    let third : Lacks mark ((((decimal a ++ codes ".") ++ decimal b) ++ codes ".") ++ decimal c) =
    lacks_append mark _ (decimal c) (lacks_append mark _ (codes ".") second dot) (lacks_decimal mark c no_digit (omega (arith, fits_c))) in
    lacks_append mark _ (decimal d) (lacks_append mark _ (codes ".") third dot) (lacks_decimal mark d no_digit (omega (arith, fits_d)))

-- ---- an address is read back

record Four (octets : List ℕ) : Type 0 where
  pub a : ℕ
  pub b : ℕ
  pub c : ℕ
  pub d : ℕ
  pub are : octets ≡ a ∷ b ∷ c ∷ d ∷ []

four : (octets : List ℕ) → length octets ≡ 4 → Four octets
four (a ∷ b ∷ c ∷ d ∷ []) is = record { a = a; b = b; c = c; d = d; are = refl }
four [] is = absurd (omega (arith, is))
four (a ∷ []) is = absurd (omega (arith, is))
four (a ∷ b ∷ []) is = absurd (omega (arith, is))
four (a ∷ b ∷ c ∷ []) is = absurd (omega (arith, is))
four (a ∷ b ∷ c ∷ d ∷ e ∷ rest) is = absurd (omega (arith, is))

port_back_from : (b : Bool) (port : ℕ) → b ≡ false → cond {A = Option ℕ} b None (Some port) ≡ Some port
port_back_from true port is = absurd cc
port_back_from false port is = refl

port_back : (port : ℕ) → 1 ≤ port → port < 65536 → port_of (decimal port) ≡ Some port
port_back port some fits =
    ap (λ read. read >>? λ port. cond (port == 0) None (Some port)) (plain_back 65536 port (omega arith) fits)
    ∙ port_back_from (port == 0) port (grind (arith, nat_tests, some))

address_from : (text host back octets : List ℕ) (port : ℕ) → cut 58 text ≡ Some (host, back) → octets_of host ≡ Some octets → port_of back ≡ Some port →
    address_of text ≡ Some (record { octets = octets; port = port })
unfolding address_of
address_from text host back octets port cut_is octets_are port_is = rw (cut_is, octets_are, port_is) refl

four_back : (a b c d port : ℕ) → IsEndpoint (record { octets = a ∷ b ∷ c ∷ d ∷ []; port = port }) →
    address_of (address_text (record { octets = a ∷ b ∷ c ∷ d ∷ []; port = port })) ≡ Some (record { octets = a ∷ b ∷ c ∷ d ∷ []; port = port })
four_back a b c d port is =
    let host : List ℕ = ipv4_text (a ∷ b ∷ c ∷ d ∷ []) in
    let fits = is.bytes in
    address_from (host ++ 58 ∷ decimal port) host (decimal port) (a ∷ b ∷ c ∷ d ∷ []) port
    (cut_at 58 host (decimal port) (lacks_dotted 58 a b c d refl refl fits.0 fits.1.0 fits.1.1.0 fits.1.1.1.0))
    (octets_back a b c d fits.0 fits.1.0 fits.1.1.0 fits.1.1.1.0 is.one_host)
    (port_back port is.some_port is.port_fits)

abbrev ReadBack : List ℕ → ℕ → Type 0
ReadBack octets port =
    IsEndpoint (record { octets = octets; port = port }) →
    address_of (address_text (record { octets = octets; port = port })) ≡ Some (record { octets = octets; port = port })

read_back : (address : Address) → IsEndpoint address → address_of (address_text address) ≡ Some address
read_back address is =
    let numbers = four address.octets is.four in
    subst (λ octets. ReadBack octets address.port) (sym numbers.are) (four_back numbers.a numbers.b numbers.c numbers.d address.port) is

-- ---- only such an address is read

plain_fits : (limit : ℕ) (text : List ℕ) (number : ℕ) → plain_below limit text ≡ Some number → number < limit
plain_fits limit text number e = (below_is limit (decimal_of text) number (plain_from _ _ text (below limit (decimal_of text)) number refl refl e).0).1

one_host_from : (low high : Bool) (octet kept : ℕ) → nat_le 224 octet ≡ low → nat_le octet 239 ≡ high →
    cond {A = Option ℕ} low (cond high None (Some octet)) (Some octet) ≡ Some kept → (octet ≡ kept) × (224 ≤ octet → octet ≤ 239 → ⊥)
one_host_from true true octet kept low high e = absurd cc
one_host_from true false octet kept low high e = (some_is octet kept _ refl e, λ above below. grind (arith, nat_tests, high, below))
one_host_from false high octet kept low is_high e = (some_is octet kept _ refl e, λ above below. grind (arith, nat_tests, low, above))

some_port_from : (b : Bool) (port kept : ℕ) → (port == 0) ≡ b → cond {A = Option ℕ} b None (Some port) ≡ Some kept → (port ≡ kept) × (1 ≤ port)
some_port_from true port kept is e = absurd cc
some_port_from false port kept is e = (some_is port kept _ refl e, grind (arith, nat_tests, is))

record AreOctets (octets : List ℕ) : Type 0 where
  pub four : length octets ≡ 4
  pub bytes : AllByRecursion (λ octet. octet < 256) octets
  pub one_host : 224 ≤ slice_index octets 0 → slice_index octets 0 ≤ 239 → ⊥

octets_fit : (host octets : List ℕ) → octets_of host ≡ Some octets → AreOctets octets
octets_fit host octets e =
    let first = next_some (cut 46 host) _ octets e in
    let second = next_some (cut 46 first.0.1) _ octets first.2 in
    let third = next_some (cut 46 second.0.1) _ octets second.2 in
    let a = next_some (first_octet_of first.0.0) _ octets third.2 in
    let b = next_some (plain_below 256 second.0.0) _ octets a.2 in
    let c = next_some (plain_below 256 third.0.0) _ octets b.2 in
    let d = next_some (plain_below 256 third.0.1) _ octets c.2 in
    let octet = next_some (plain_below 256 first.0.0) _ a.0 a.1 in
    let kept = one_host_from (nat_le 224 octet.0) (nat_le octet.0 239) octet.0 a.0 refl refl octet.2 in
    let numbers : List ℕ = a.0 ∷ b.0 ∷ c.0 ∷ d.0 ∷ [] in
    subst AreOctets (some_is numbers octets (Some numbers) refl d.2)
    (record {
      four = refl;
      bytes = (
        subst (λ n. n < 256) kept.0 (plain_fits 256 first.0.0 octet.0 octet.1),
        (plain_fits 256 second.0.0 b.0 b.1, (plain_fits 256 third.0.0 c.0 c.1, (plain_fits 256 third.0.1 d.0 d.1, tt))),
      );
      one_host = subst (λ n. 224 ≤ n → n ≤ 239 → ⊥) kept.0 kept.1;
    })

no_other : (text : List ℕ) (address : Address) → address_of text ≡ Some address → IsEndpoint address
unfolding address_of
no_other text address e =
    let sides = next_some (cut 58 text) _ address e in
    let octets = next_some (octets_of sides.0.0) _ address sides.2 in
    let port = next_some (port_of sides.0.1) _ address octets.2 in
    let number = next_some (plain_below 65536 sides.0.1) _ port.0 port.1 in
    let kept = some_port_from (number.0 == 0) number.0 port.0 refl number.2 in
    let fit = octets_fit sides.0.0 octets.0 octets.1 in
    let same : Address = record { octets = octets.0; port = port.0 } in
    subst IsEndpoint (some_is same address (Some same) refl port.2)
    (record {
      four = fit.four;
      bytes = fit.bytes;
      one_host = fit.one_host;
      some_port = subst (λ n. 1 ≤ n) kept.0 kept.1;
      port_fits = subst (λ n. n < 65536) kept.0 (plain_fits 65536 sides.0.1 number.0 number.1);
    })

pub addresses_are_read_back : AddressesAreReadBack
addresses_are_read_back = record { read_back = read_back; no_other = no_other }

-- ---- what the text of an address is

pub record IsPlain (mark : ℕ) (text : List ℕ) : Type 0 where
  pub lacks : Lacks mark text
  pub short : length text ≤ 21

abbrev IsPlainText : ℕ → List ℕ → ℕ → Type 0
IsPlainText mark octets port = IsEndpoint (record { octets = octets; port = port }) → IsPlain mark (address_text (record { octets = octets; port = port }))

digits_few : (n : ℕ) → n < 256 → length (decimal n) ≤ 3
digits_few n fits = length-decimal-le 3 n (omega arith) (omega (arith, fits)) (omega (arith, fits))

dotted_few : (a b c d : ℕ) → a < 256 → b < 256 → c < 256 → d < 256 → length (ipv4_text (a ∷ b ∷ c ∷ d ∷ [])) ≤ 15
dotted_few a b c d fits_a fits_b fits_c fits_d =
    let first : List ℕ = decimal a ++ codes "." in
    let second : List ℕ = (first ++ decimal b) ++ codes "." in
    let third : List ℕ = (second ++ decimal c) ++ codes "." in
    omega (
      arith,
      length-append third (decimal d),
      length-append (second ++ decimal c) (codes "."),
      length-append second (decimal c),
      length-append (first ++ decimal b) (codes "."),
      length-append first (decimal b),
      length-append (decimal a) (codes "."),
      digits_few a fits_a,
      digits_few b fits_b,
      digits_few c fits_c,
      digits_few d fits_d,
    )

four_plain : (mark a b c d port : ℕ) → is_ascii_digit mark ≡ false → (46 == mark) ≡ false → (58 == mark) ≡ false → IsPlainText mark (a ∷ b ∷ c ∷ d ∷ []) port
four_plain mark a b c d port no_digit no_dot no_colon is =
    let host : List ℕ = ipv4_text (a ∷ b ∷ c ∷ d ∷ []) in
    let fits = is.bytes in
    record {
      lacks = lacks_append mark host (58 ∷ decimal port) (lacks_dotted mark a b c d no_digit no_dot fits.0 fits.1.0 fits.1.1.0 fits.1.1.1.0)
          (no_colon, lacks_decimal mark port no_digit is.port_fits);
      short = omega (
        arith,
        length-append host (58 ∷ decimal port),
        dotted_few a b c d fits.0 fits.1.0 fits.1.1.0 fits.1.1.1.0,
        length-decimal-le 5 port (omega arith) (omega (arith, is.port_fits)) (omega (arith, is.port_fits)),
      );
    }

-- it has digits, dots and a colon alone, and at most 21 of them
pub plain_text : (mark : ℕ) (address : Address) → is_ascii_digit mark ≡ false → (46 == mark) ≡ false → (58 == mark) ≡ false → IsEndpoint address →
    IsPlain mark (address_text address)
plain_text mark address no_digit no_dot no_colon is =
    let numbers = four address.octets is.four in
    subst (λ octets. IsPlainText mark octets address.port) (sym numbers.are)
    (four_plain mark numbers.a numbers.b numbers.c numbers.d address.port no_digit no_dot no_colon) is
