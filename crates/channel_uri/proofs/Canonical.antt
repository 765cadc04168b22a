-- The canonical text of a channel denotes it.
use Rattle.std.proofs.Common.{◌≡◌, ℕ, ◌+◌, ◌≤◌, ◌==◌, Bool, true, false, cond, List, [], ◌∷◌, ◌++◌, Option, Some, None, Result, Ok, Err, refl, sym, ap, subst, ◌∙◌, map, length, drop, nat_eq, nat_lt, codes, append_assoc, append-nil, length-append, arith}
use Rattle.std.specs.List.{AllByRecursion, slice_split, starts_with}
use Rattle.std.specs.Str.{bytes_eq}
use Rattle.std.proofs.lemmas.Bool.Decides.{Decides-eqb, nat_tests}
use Rattle.std.proofs.lemmas.List.Elements.{All-from_recursion}
use Rattle.std.proofs.lemmas.List.Splits.{slice_split_at, slice_split_none}
use Rattle.std.proofs.lemmas.Slice.Eq.{bytes_eq-Decides, starts_is}
use Rattle.channel_uri.specs.declared.error.UriError.{UriError}
use Rattle.channel_uri.specs.declared.error.UriError.TheVariants.{EmptyKey, NoScheme, BadMedia}
use Rattle.channel_uri.specs.declared.media.Media.{Media}
use Rattle.channel_uri.specs.declared.media.Media.TheVariants.{Udp, Ipc, Counter}
use Rattle.channel_uri.specs.Canonical.{pairs_text, canonical_of, CanonicalDenotes}
use Rattle.channel_uri.specs.Channel.{Shape, denotes, media_of}
use Rattle.channel_uri.specs.Keys.{Pair, InByteOrder, kept}
use Rattle.channel_uri.specs.Media.{name_of}
use Rattle.channel_uri.specs.Syntax.{◌>>=◌, cut, unspied, behind_scheme, halves, halves_from, pair_of, pair_from, pair_read, address_read, value_read, pairs_of, keys_of}
use Rattle.channel_uri.specs.Values.{first_fault}
use Rattle.channel_uri.proofs.Cuts.{Lacks, lacks_parts, lacks_append, lacks_drop, cut_at, cut_none, cut_parts, split_lacks, pieces_size, split_size}
use Rattle.channel_uri.proofs.Parsed.{bind_ok, if_ok, parsed}
use Rattle.channel_uri.proofs.Sorted.{all_kept, in_order_kept, kept_in_order, pair_size, pairs_size, size_kept}

ok_is : {A : Type 0} (x y : A) (r : Result A UriError) → r ≡ Ok x → r ≡ Ok y → x ≡ y
ok_is x y r first second = cc

-- ---- what is read of an address

pub localhost : (value : List ℕ) → starts_with nat_eq value (codes "localhost:") ≡ true → value ≡ codes "localhost:" ++ drop 10 value
localhost value is = (starts_is Decides-eqb value (codes "localhost:") _ refl).0 is

abbrev read_as : Bool → List ℕ → List ℕ
read_as b value = cond b (codes "127.0.0.1:" ++ drop 10 value) value

address_lacks : (b : Bool) (value : List ℕ) → Lacks 124 value → Lacks 124 (read_as b value)
address_lacks true value lacks =
    lacks_append 124 (codes "127.0.0.1:") (drop 10 value)
    (refl, (refl, (refl, (refl, (refl, (refl, (refl, (refl, (refl, (refl, tt)))))))))) (lacks_drop 124 10 value lacks)
address_lacks false value lacks = lacks

address_again_from : (b : Bool) (value : List ℕ) → starts_with nat_eq value (codes "localhost:") ≡ b → address_read (read_as b value) ≡ read_as b value
address_again_from true value is = refl
address_again_from false value is = rw is refl

address_again : (value : List ℕ) → address_read (address_read value) ≡ address_read value
address_again value = address_again_from _ value refl

address_size_from : (b : Bool) (value : List ℕ) → starts_with nat_eq value (codes "localhost:") ≡ b → length (read_as b value) ≤ length value
address_size_from true value is =
    omega (arith, ap length (localhost value is), length-append (codes "localhost:") (drop 10 value), length-append (codes "127.0.0.1:") (drop 10 value))
address_size_from false value is = omega arith

address_size : (value : List ℕ) → length (address_read value) ≤ length value
address_size value = address_size_from _ value refl

-- ---- what is read of a value

abbrev read_where : Bool → Bool → List ℕ → List ℕ
read_where a b value = cond a (address_read value) (cond b (address_read value) value)

where_lacks : (a b : Bool) (value : List ℕ) → Lacks 124 value → Lacks 124 (read_where a b value)
where_lacks true b value lacks = address_lacks _ value lacks
where_lacks false true value lacks = address_lacks _ value lacks
where_lacks false false value lacks = lacks

where_again : (a b : Bool) (value : List ℕ) → read_where a b (read_where a b value) ≡ read_where a b value
where_again true b value = address_again value
where_again false true value = address_again value
where_again false false value = refl

where_size : (a b : Bool) (value : List ℕ) → length (read_where a b value) ≤ length value
where_size true b value = address_size value
where_size false true value = address_size value
where_size false false value = omega arith

pub value_size : (key value : List ℕ) → length (value_read key value) ≤ length value
value_size key value = where_size (bytes_eq key (codes "endpoint")) (bytes_eq key (codes "control")) value

-- ---- pairs that are kept

pub record IsKept (pair : Pair) : Type 0 where
  pub named : (length pair.0 == 0) ≡ false
  pub no_equals : Lacks 61 pair.0
  pub no_bar : Lacks 124 pair.0
  pub value_no_bar : Lacks 124 pair.1
  pub read : value_read pair.0 pair.1 ≡ pair.1

pub record IsPair (piece : List ℕ) (pair : Pair) : Type 0 where
  pub named : (length pair.0 == 0) ≡ false
  pub no_equals : Lacks 61 pair.0
  pub whole : piece ≡ pair.0 ++ 61 ∷ pair.1

no_pair : (b : Bool) (first second : UriError) (pair : Pair) → cond {A = Result Pair UriError} b (Err first) (Err second) ≡ Ok pair → ⊥
no_pair true first second pair e = cc
no_pair false first second pair e = cc

is_pair_from : (piece : List ℕ) (sides : Option (List ℕ × List ℕ)) (pair : Pair) → cut 61 piece ≡ sides → pair_from piece sides ≡ Ok pair → IsPair piece pair
is_pair_from piece None pair is e = absurd (no_pair (length piece == 0) _ _ pair e)
is_pair_from piece (Some sides) pair is e =
    let ok = if_ok (length sides.0 == 0) EmptyKey (Ok sides) pair e in
    let same : sides ≡ pair = ok_is sides pair (Ok sides) refl ok.1 in
    let parts = cut_parts 61 piece sides.0 sides.1 is in
    subst (IsPair piece) same (record { named = ok.0; no_equals = parts.first; whole = parts.whole })

pub is_pair : (piece : List ℕ) (pair : Pair) → pair_of piece ≡ Ok pair → IsPair piece pair
is_pair piece pair e = is_pair_from piece (cut 61 piece) pair refl e

is_kept : (piece : List ℕ) (pair : Pair) → IsPair piece pair → Lacks 124 piece → IsKept (pair_read pair)
is_kept piece pair from lacks =
    let parts = lacks_parts 124 pair.0 61 pair.1 (subst (Lacks 124) from.whole lacks) in
    record {
      named = from.named;
      no_equals = from.no_equals;
      no_bar = parts.0;
      value_no_bar = where_lacks (bytes_eq pair.0 (codes "endpoint")) (bytes_eq pair.0 (codes "control")) pair.1 parts.1;
      read = where_again (bytes_eq pair.0 (codes "endpoint")) (bytes_eq pair.0 (codes "control")) pair.1;
    }

kept_size : (piece : List ℕ) (pair : Pair) → IsPair piece pair → pair_size (pair_read pair) ≤ length piece + 1
kept_size piece pair from =
    omega (arith, ap length from.whole, length-append pair.0 (61 ∷ pair.1), where_size (bytes_eq pair.0 (codes "endpoint")) (bytes_eq pair.0 (codes "control")) pair.1)

record AreKept (size : ℕ) (pairs : List Pair) : Type 0 where
  pub each : AllByRecursion IsKept pairs
  pub small : pairs_size pairs ≤ size

are_kept : (pieces : List (List ℕ)) (pairs : List Pair) → pairs_of pieces ≡ Ok pairs → AllByRecursion (Lacks 124) pieces → AreKept (pieces_size pieces) pairs
are_kept [] pairs e lacks = subst (AreKept 0) (ok_is [] pairs (Ok []) refl e) (record { each = tt; small = omega arith })
are_kept (piece ∷ pieces) pairs e lacks =
    let first = bind_ok (pair_of piece) _ pairs e in
    let others = bind_ok (pairs_of pieces) _ pairs first.2 in
    let pair = is_pair piece first.0 first.1 in
    let rest = are_kept pieces others.0 others.1 lacks.1 in
    subst (AreKept (pieces_size (piece ∷ pieces))) (ok_is _ pairs _ refl others.2)
    (record {
      each = (is_kept piece first.0 pair lacks.0, rest.each);
      small = omega (arith, kept_size piece first.0 pair, rest.small);
    })

abbrev tail_size : Option (List ℕ) → ℕ
tail_size None = 0
tail_size (Some text) = length text + 1

record KeysOf (text : Option (List ℕ)) (keys : List Pair) : Type 0 where
  pub each : AllByRecursion IsKept keys
  pub order : InByteOrder keys
  pub small : pairs_size keys ≤ tail_size text

keys_are : (text : Option (List ℕ)) (keys : List Pair) → keys_of text ≡ Ok keys → KeysOf text keys
unfolding keys_of
keys_are None keys e = subst (KeysOf None) (ok_is [] keys (Ok []) refl e) (record { each = tt; order = tt; small = omega arith })
keys_are (Some text) keys e =
    let read = bind_ok (pairs_of (slice_split (λ b. b == 124) text)) _ keys e in
    let pairs = are_kept (slice_split (λ b. b == 124) text) read.0 read.1 (split_lacks 124 text) in
    subst (KeysOf (Some text)) (ok_is (kept [] read.0) keys _ refl read.2)
    (record {
      each = all_kept IsKept [] read.0 tt pairs.each;
      order = in_order_kept [] read.0 tt;
      small = omega (arith, size_kept [] read.0, pairs.small, split_size 124 text);
    })

-- ---- keys are read back

abbrev piece_of : Pair → List ℕ
piece_of pair = pair.0 ++ 61 ∷ pair.1

abbrev joined : Pair → List Pair → List ℕ
joined pair pairs = pair.0 ++ (codes "=" ++ (pair.1 ++ pairs_text false pairs))

piece_lacks : (pair : Pair) → IsKept pair → Lacks 124 (piece_of pair)
piece_lacks pair is = lacks_append 124 pair.0 (61 ∷ pair.1) is.no_bar (refl, is.value_no_bar)

pair_back : (pair : Pair) → IsKept pair → pair_of (piece_of pair) ≡ Ok pair
pair_back pair is = ap (pair_from (piece_of pair)) (cut_at 61 pair.0 pair.1 is.no_equals) ∙ (rw is.named refl)

pairs_back : (pairs : List Pair) → AllByRecursion IsKept pairs → pairs_of (map piece_of pairs) ≡ Ok pairs
pairs_back [] each = refl
pairs_back (pair ∷ pairs) each =
    let next : Pair → Result (List Pair) UriError = λ first. pairs_of (map piece_of pairs) >>= λ others. Ok (pair_read first ∷ others) in
    ap (λ r. r >>= next) (pair_back pair each.0)
    ∙ (ap (λ r. r >>= λ others. Ok (pair_read pair ∷ others)) (pairs_back pairs each.1)
    ∙ ap (λ value. Ok ((pair.0, value) ∷ pairs)) each.0.read)

split_joined : (pair : Pair) (pairs : List Pair) → IsKept pair → AllByRecursion IsKept pairs →
    slice_split (λ b. b == 124) (joined pair pairs) ≡ map piece_of (pair ∷ pairs)
split_joined pair [] is each =
    ap (λ value. slice_split (λ b. b == 124) (pair.0 ++ 61 ∷ value)) (append-nil pair.1)
    ∙ slice_split_none (λ b. b == 124) (piece_of pair) (All-from_recursion (λ b. (b == 124) ≡ false) (piece_of pair) (piece_lacks pair is))
split_joined pair (next ∷ pairs) is each =
    ap (slice_split (λ b. b == 124)) (sym (append_assoc pair.0 (61 ∷ pair.1) (124 ∷ joined next pairs)))
    ∙ (slice_split_at (λ b. b == 124) (piece_of pair) 124 (joined next pairs) (All-from_recursion (λ b. (b == 124) ≡ false) (piece_of pair) (piece_lacks pair is)) refl
    ∙ ap (λ pieces. piece_of pair ∷ pieces) (split_joined next pairs each.0 each.1))

abbrev tail_of : List Pair → Option (List ℕ)
tail_of [] = None
tail_of (pair ∷ pairs) = Some (joined pair pairs)

keys_back : (keys : List Pair) → AllByRecursion IsKept keys → InByteOrder keys → keys_of (tail_of keys) ≡ Ok keys
unfolding keys_of
keys_back [] each order = refl
keys_back (pair ∷ pairs) each order =
    ap (λ pieces. pairs_of pieces >>= λ read. Ok (kept [] read)) (split_joined pair pairs each.0 each.1)
    ∙ (ap (λ r. r >>= λ read. Ok (kept [] read)) (pairs_back (pair ∷ pairs) each)
    ∙ ap Ok (kept_in_order (pair ∷ pairs) order))

-- ---- how long the canonical text is

text_size : (first : Bool) (pairs : List Pair) → length (pairs_text first pairs) ≡ pairs_size pairs
text_size first [] = refl
text_size true (pair ∷ pairs) =
    omega (arith, length-append pair.0 (61 ∷ (pair.1 ++ pairs_text false pairs)), length-append pair.1 (pairs_text false pairs), text_size false pairs)
text_size false (pair ∷ pairs) =
    omega (arith, length-append pair.0 (61 ∷ (pair.1 ++ pairs_text false pairs)), length-append pair.1 (pairs_text false pairs), text_size false pairs)

pub canonical_size : (spy : Bool) (media : Media) (keys : List Pair) →
    length (canonical_of (record { spy = spy; media = media; keys = keys })) ≡ cond spy 10 0 + 6 + length (name_of media) + pairs_size keys
unfolding canonical_of
canonical_size true media keys =
    omega (arith, length-append (codes "aeron-spy:aeron:") (name_of media ++ pairs_text true keys), length-append (name_of media) (pairs_text true keys), text_size true keys)
canonical_size false media keys =
    omega (arith, length-append (codes "aeron:") (name_of media ++ pairs_text true keys), length-append (name_of media) (pairs_text true keys), text_size true keys)

abbrev unspied_as : Bool → List ℕ → Bool × List ℕ
unspied_as b text = cond b (true, drop 10 text) (false, text)

unspied_size_from : (b : Bool) (text : List ℕ) → starts_with nat_eq text (codes "aeron-spy:") ≡ b →
    cond (unspied_as b text).0 10 0 + length (unspied_as b text).1 ≡ length text
unspied_size_from true text is =
    omega (arith, ap length ((starts_is Decides-eqb text (codes "aeron-spy:") _ refl).0 is), length-append (codes "aeron-spy:") (drop 10 text))
unspied_size_from false text is = omega arith

unspied_size : (text : List ℕ) → cond (unspied text).0 10 0 + length (unspied text).1 ≡ length text
unspied_size text = unspied_size_from _ text refl

scheme_size_from : (b : Bool) (text rest : List ℕ) → starts_with nat_eq text (codes "aeron:") ≡ b →
    cond {A = Result (List ℕ) UriError} b (Ok (drop 6 text)) (Err NoScheme) ≡ Ok rest → length text ≡ 6 + length rest
scheme_size_from true text rest is e =
    omega (arith, ap length ((starts_is Decides-eqb text (codes "aeron:") _ refl).0 is), length-append (codes "aeron:") (drop 6 text), ap length (ok_is (drop 6 text) rest _ refl e))
scheme_size_from false text rest is e = absurd cc

scheme_size : (text rest : List ℕ) → behind_scheme text ≡ Ok rest → length text ≡ 6 + length rest
scheme_size text rest e = scheme_size_from _ text rest refl e

halves_size_from : (text : List ℕ) (sides : Option (List ℕ × List ℕ)) → cut 63 text ≡ sides →
    length (halves_from text sides).0 + tail_size (halves_from text sides).1 ≡ length text
halves_size_from text None is = omega arith
halves_size_from text (Some sides) is =
    omega (arith, ap length (cut_parts 63 text sides.0 sides.1 is).whole, length-append sides.0 (63 ∷ sides.1))

halves_size : (text : List ℕ) → length (halves text).0 + tail_size (halves text).1 ≡ length text
halves_size text = halves_size_from text (cut 63 text) refl

abbrev media_as : Bool → Bool → Bool → Result Media UriError
media_as udp spy ipc = cond udp (Ok Udp) (cond spy (Err BadMedia) (cond ipc (Ok Ipc) (Err BadMedia)))

word_from : (udp spy ipc : Bool) (word : List ℕ) (media : Media) → bytes_eq word (codes "udp") ≡ udp → bytes_eq word (codes "ipc") ≡ ipc →
    media_as udp spy ipc ≡ Ok media → word ≡ name_of media
word_from true spy ipc word media is_udp is_ipc e = (bytes_eq-Decides word (codes "udp")).0 is_udp ∙ ap name_of (ok_is Udp media _ refl e)
word_from false true ipc word media is_udp is_ipc e = absurd cc
word_from false false true word media is_udp is_ipc e = (bytes_eq-Decides word (codes "ipc")).0 is_ipc ∙ ap name_of (ok_is Ipc media _ refl e)
word_from false false false word media is_udp is_ipc e = absurd cc

word_is : (spy : Bool) (word : List ℕ) (media : Media) → media_of spy word ≡ Ok media → word ≡ name_of media
word_is spy word media e = word_from _ spy _ word media refl refl e

-- ---- the channel is read back

name_lacks : (media : Media) → Lacks 63 (name_of media)
name_lacks Udp = (refl, (refl, (refl, tt)))
name_lacks Ipc = (refl, (refl, (refl, tt)))
name_lacks Counter = (refl, (refl, (refl, (refl, (refl, (refl, (refl, tt)))))))

halves_back : (media : Media) (keys : List Pair) → halves (name_of media ++ pairs_text true keys) ≡ (name_of media, tail_of keys)
halves_back media [] = ap halves (append-nil (name_of media)) ∙ ap (halves_from (name_of media)) (cut_none 63 (name_of media) (name_lacks media))
halves_back media (pair ∷ pairs) =
    ap (halves_from (name_of media ++ pairs_text true (pair ∷ pairs))) (cut_at 63 (name_of media) (joined pair pairs) (name_lacks media))

unspied_back : (spy : Bool) (media : Media) (keys : List Pair) →
    unspied (canonical_of (record { spy = spy; media = media; keys = keys })) ≡ (spy, codes "aeron:" ++ (name_of media ++ pairs_text true keys))
unfolding canonical_of
unspied_back true media keys = refl
unspied_back false media keys = refl

assembled : (text after rest word : List ℕ) (tail : Option (List ℕ)) (channel : Shape) → nat_lt 1024 (length text) ≡ false →
    unspied text ≡ (channel.spy, after) → behind_scheme after ≡ Ok rest → halves rest ≡ (word, tail) →
    media_of channel.spy word ≡ Ok channel.media → keys_of tail ≡ Ok channel.keys → first_fault channel.keys ≡ None → denotes text ≡ Ok channel
unfolding denotes
assembled text after rest word tail channel short spied scheme halved media keys sound =
    rw (short, spied, scheme, halved, media, keys, sound) refl

-- a channel whose keys are sound and in order is read back from its canonical text, unless that is too long
pub written_back : (channel : Shape) → nat_lt 1024 (length (canonical_of channel)) ≡ false → media_of channel.spy (name_of channel.media) ≡ Ok channel.media →
    AllByRecursion IsKept channel.keys → InByteOrder channel.keys → first_fault channel.keys ≡ None → denotes (canonical_of channel) ≡ Ok channel
written_back channel short media each order sound =
    assembled (canonical_of channel) (codes "aeron:" ++ (name_of channel.media ++ pairs_text true channel.keys)) (name_of channel.media ++ pairs_text true channel.keys)
    (name_of channel.media) (tail_of channel.keys) channel short (unspied_back channel.spy channel.media channel.keys) refl (halves_back channel.media channel.keys)
    media (keys_back channel.keys each order) sound

pub canonical_denotes : CanonicalDenotes
canonical_denotes text channel e =
    let from = parsed text channel e in
    let keys = keys_are (halves from.rest).1 channel.keys from.keys in
    let word = word_is channel.spy (halves from.rest).0 channel.media from.media in
    let written : length (canonical_of channel) ≡ cond channel.spy 10 0 + 6 + length (name_of channel.media) + pairs_size channel.keys =
    canonical_size channel.spy channel.media channel.keys in
    let head : cond channel.spy 10 0 + length (unspied text).1 ≡ length text =
    ap (λ spy. cond spy 10 0 + length (unspied text).1) (sym from.spy) ∙ unspied_size text in
    let size : length (canonical_of channel) ≤ length text =
    omega (arith, written, head, scheme_size (unspied text).1 from.rest from.scheme, halves_size from.rest, ap length word, keys.small) in
    let short : nat_lt 1024 (length (canonical_of channel)) ≡ false = grind (arith, nat_tests, size, from.short) in
    record {
      in_order = keys.order;
      read_back =
          written_back channel short (ap (media_of channel.spy) (sym word) ∙ from.media) keys.each keys.order from.sound;
    }
