-- Patterns whose keys are wider cover more.
use Rattle.std.proofs.Common.{◌≡◌, ℕ, Bool, true, false, ◌&&◌, List, [], ◌∷◌, ◌++◌, Option, Some, None, Result, Ok, Err, refl, sym, ap, ◌∙◌, subst, cond, nat_eq, nat_lt, length, drop, take, ◌-◌, ⊎_elim, codes, append_assoc, unwrap_or, ◌==◌, ◌<◌}
use Rattle.std.specs.List.{AllByRecursion, ends_with, starts_with}
use Rattle.std.specs.Ordering.{is_eq}
use Rattle.std.specs.declared.cmp.Ordering.TheVariants.{Less}
use Rattle.std.specs.Str.{bytes_eq}
use Rattle.std.proofs.lemmas.Bool.{and_parts, or_cases, cases_Bool, cond-false, cond-true, or_right}
use Rattle.std.proofs.lemmas.Map.Text.{is_eq-slice_cmp}
use Rattle.std.proofs.lemmas.Slice.Eq.{bytes_eq-Decides, ends_is, starts_is}
use Rattle.std.proofs.lemmas.Bool.Decides.{Decides-eqb}
use Rattle.std.proofs.lemmas.Option.{none-some}
use Rattle.channel_uri.specs.declared.pattern.Pattern.{Pattern}
use Rattle.channel_uri.specs.declared.pattern.Pattern.TheVariants.{Any, Of}
use Rattle.channel_uri.specs.declared.error.UriError.{UriError}
use Rattle.channel_uri.specs.declared.error.UriError.TheVariants.{EmptyKey, KeyWithoutValue}
use Rattle.channel_uri.specs.Keys.{Pair, InByteOrder, bytes_cmp, kept, value_at}
use Rattle.channel_uri.specs.Pattern.{all_fit, begins_with, covers, front_of, is_fit, pattern_media_of, pattern_of, value_fits}
use Rattle.channel_uri.specs.Pieces.{first_piece, pieces_in}
use Rattle.channel_uri.proofs.Cuts.{pieces_size}
use Rattle.channel_uri.proofs.PieceLemmas.{all_pieces, fewer, first_of}
use Rattle.channel_uri.specs.declared.error.UriError.TheVariants.{TooLong}
use Rattle.channel_uri.specs.declared.media.Media.{Media}
use Rattle.channel_uri.specs.Media.{media_number}
use Rattle.channel_uri.specs.Syntax.{◌>>=◌, behind_scheme, halves, cut, keys_of, pair_from, pair_of, pair_read, pairs_of}
use Rattle.channel_uri.proofs.Sorted.{all_kept, in_order_kept, turned}
use Rattle.policy_tools.specs.Wider.{all_keys, front_wider, key_from, key_of, pairs_from, pairs_in, value_wider}

-- ---- a key's value, where keys stand in byte order

-- its own value is found for each key
abbrev pub IsFound : List Pair → Pair → Type 0
IsFound keys pair = value_at pair.0 keys ≡ Some pair.1

found_later : (first : Pair) (rest es : List Pair) → AllByRecursion (λ later. bytes_cmp first.0 later.0 ≡ Less) es → AllByRecursion (IsFound rest) es →
    AllByRecursion (IsFound (first ∷ rest)) es
found_later first rest [] below found = tt
found_later first rest (e ∷ es) below found =
    let differ : bytes_eq e.0 first.0 ≡ false = sym (is_eq-slice_cmp e.0 first.0) ∙ ap is_eq (turned first.0 e.0 Less below.0) in
    (rw differ found.0, found_later first rest es below.1 found.1)

pub each_found : (keys : List Pair) → InByteOrder keys → AllByRecursion (IsFound keys) keys
each_found [] order = tt
each_found (e ∷ es) order =
    let same : bytes_eq e.0 e.0 ≡ true = (bytes_eq-Decides e.0 e.0).1 refl in
    (rw same refl, found_later e es es order.0 (each_found es order.1))

-- ---- the pieces that are left

pub next_piece : (test : List ℕ → Bool) (left after : Option (List ℕ)) (text piece : List ℕ) → left ≡ Some text → (piece, after) ≡ first_piece text →
    all_keys test (pieces_in left) ≡ (test (key_of piece) && all_keys test (pieces_in after))
next_piece test left after text piece is first = ap (all_keys test) (first_of left after text piece is first)

pub fewer_pieces : (left after : Option (List ℕ)) (text piece : List ℕ) → left ≡ Some text → (piece, after) ≡ first_piece text →
    pieces_size (pieces_in after) < pieces_size (pieces_in left)
fewer_pieces left after text piece is first = fewer (pieces_in left) (pieces_in after) piece (first_of left after text piece is first)

-- ---- what holds of the keys of a text

none_pair : (b : Bool) (pair : Pair) → cond b (Err EmptyKey) (Err KeyWithoutValue) ≡ Ok pair → ⊥
none_pair true pair is = cc
none_pair false pair is = cc

some_pair : (b : Bool) (sides pair : Pair) → cond b (Err EmptyKey) (Ok sides) ≡ Ok pair → sides ≡ pair
some_pair true sides pair is = absurd (cc)
some_pair false sides pair is = cc

key_stands_from : (piece : List ℕ) (sides : Option (List ℕ × List ℕ)) (pair : Pair) → pair_from piece sides ≡ Ok pair → key_from piece sides ≡ pair.0
key_stands_from piece None pair is = absurd (none_pair (length piece == 0) pair is)
key_stands_from piece (Some sides) pair is = ap (λ p. p.0) (some_pair (length sides.0 == 0) sides pair is)

key_stands : (piece : List ℕ) (pair : Pair) → pair_of piece ≡ Ok pair → key_of piece ≡ pair.0
key_stands piece pair is = key_stands_from piece (cut 61 piece) pair is

-- what holds of the key of each piece holds of each pair that the pieces are
abbrev pub OfKey : (List ℕ → Bool) → Pair → Type 0
OfKey test pair = test pair.0 ≡ true

keys_stand_from : (test : List ℕ → Bool) (pair : Pair) (rest : Result (List Pair) UriError) (pairs : List Pair) →
    (rest >>= λ more. Ok (pair_read pair ∷ more)) ≡ Ok pairs → test pair.0 ≡ true →
    ((more : List Pair) → rest ≡ Ok more → AllByRecursion (OfKey test) more) → AllByRecursion (OfKey test) pairs
keys_stand_from test pair (Err error) pairs is here later = absurd (cc)
keys_stand_from test pair (Ok more) pairs is here later =
    let same : pair_read pair ∷ more ≡ pairs = cc in
    subst (AllByRecursion (OfKey test)) same (here, later more refl)

keys_stand_next : (test : List ℕ → Bool) (piece : List ℕ) (pieces : List (List ℕ)) (first : Result Pair UriError) (pairs : List Pair) → pair_of piece ≡ first →
    (first >>= λ pair. pairs_of pieces >>= λ more. Ok (pair_read pair ∷ more)) ≡ Ok pairs → test (key_of piece) ≡ true →
    ((more : List Pair) → pairs_of pieces ≡ Ok more → AllByRecursion (OfKey test) more) → AllByRecursion (OfKey test) pairs
keys_stand_next test piece pieces (Err error) pairs read is here later = absurd (cc)
keys_stand_next test piece pieces (Ok pair) pairs read is here later =
    keys_stand_from test pair (pairs_of pieces) pairs is (subst (λ (key : List ℕ). test key ≡ true) (key_stands piece pair read) here) later

keys_stand : (test : List ℕ → Bool) (pieces : List (List ℕ)) (pairs : List Pair) → pairs_of pieces ≡ Ok pairs → all_keys test pieces ≡ true →
    AllByRecursion (OfKey test) pairs
keys_stand test [] pairs is all = let none : [] ≡ pairs = cc in subst (AllByRecursion (OfKey test)) none tt
keys_stand test (piece ∷ pieces) pairs is all =
    let both = and_parts (test (key_of piece)) (all_keys test pieces) all in
    keys_stand_next test piece pieces (pair_of piece) pairs refl is both.0 (λ more later. keys_stand test pieces more later both.1)

kept_from : (test : List ℕ → Bool) (read : Result (List Pair) UriError) (keys : List Pair) → (read >>= λ pairs. Ok (kept [] pairs)) ≡ Ok keys →
    ((pairs : List Pair) → read ≡ Ok pairs → AllByRecursion (OfKey test) pairs) → AllByRecursion (OfKey test) keys × InByteOrder keys
kept_from test (Err error) keys is each = absurd (cc)
kept_from test (Ok pairs) keys is each =
    let same : kept [] pairs ≡ keys = cc in (
      subst (AllByRecursion (OfKey test)) same (all_kept (OfKey test) [] pairs tt (each pairs refl)),
      subst InByteOrder same (in_order_kept [] pairs tt),
    )

-- what holds of the key of each piece of a text holds of each key that is kept
pub of_text : (test : List ℕ → Bool) (text : Option (List ℕ)) (keys : List Pair) → keys_of text ≡ Ok keys → all_keys test (pieces_in text) ≡ true →
    AllByRecursion (OfKey test) keys × InByteOrder keys
of_text test text keys is all =
    kept_from test (pairs_of (pieces_in text)) keys (sym (all_pieces text) ∙ is) (λ pairs read. keys_stand test (pieces_in text) pairs read all)

-- ---- values that fit

-- a text begins with this front
pub begins : (text front : List ℕ) → starts_with nat_eq text front ≡ true → (rest : List ℕ) × (text ≡ front ++ rest)
begins text front is = (drop (length front) text, (starts_is Decides-eqb text front _ refl).0 is)

pub begins_from : (text front rest : List ℕ) → text ≡ front ++ rest → starts_with nat_eq text front ≡ true
begins_from text front rest is = (starts_is Decides-eqb text front _ refl).1 rest is

-- what stands before a final `*`, with it, is the text
pub front_whole : (text front : List ℕ) → front_of text ≡ Some front → (rest : List ℕ) × (text ≡ front ++ rest)
front_whole text front is =
    ⊎_elim
    (λ ends. let found = (ends_is Decides-eqb text (codes "*") _ refl).0 ends in
    let same : take (length text - 1) text ≡ front = let e = sym (cond-true _ (Some (take (length text - 1) text)) None ends) ∙ is in cc in
    (codes "*", found ∙ ap (λ (f : List ℕ). f ++ codes "*") same))
    (λ none. absurd (none-some _ (sym (cond-false _ _ _ none) ∙ is)))
    (cases_Bool (ends_with nat_eq text (codes "*")))

-- a text that fits the narrow value begins with the wide one's front
front_within : (wide narrow value : List ℕ) (front other : Option (List ℕ)) → front_of wide ≡ front → front_of narrow ≡ other →
    front_wider front narrow ≡ true → value_fits narrow value ≡ true → begins_with value front ≡ true
front_within wide narrow value None other front_is other_is wider fits = wider
front_within wide narrow value (Some front) None front_is other_is wider fits =
    let head = begins narrow front (subst (λ (o : Option (List ℕ)). starts_with nat_eq (unwrap_or o narrow) front ≡ true) other_is wider) in
    ⊎_elim
    (λ same. begins_from value front head.0 (sym ((bytes_eq-Decides narrow value).0 same) ∙ head.1))
    (λ starts. absurd (let e : false ≡ true = subst (λ (o : Option (List ℕ)). begins_with value o ≡ true) other_is starts in cc))
    (or_cases (bytes_eq narrow value) (begins_with value (front_of narrow)) fits)
front_within wide narrow value (Some front) (Some other) front_is other_is wider fits =
    let head = begins other front (subst (λ (o : Option (List ℕ)). starts_with nat_eq (unwrap_or o narrow) front ≡ true) other_is wider) in
    let whole = front_whole narrow other other_is in
    ⊎_elim
    (λ same. begins_from value front (head.0 ++ whole.0)
    (sym ((bytes_eq-Decides narrow value).0 same) ∙ (whole.1 ∙ (ap (λ (o : List ℕ). o ++ whole.0) head.1 ∙ append_assoc front head.0 whole.0))))
    (λ starts. let tail = begins value other (subst (λ (o : Option (List ℕ)). begins_with value o ≡ true) other_is starts) in
    begins_from value front (head.0 ++ tail.0) (tail.1 ∙ (ap (λ (o : List ℕ). o ++ tail.0) head.1 ∙ append_assoc front head.0 tail.0)))
    (or_cases (bytes_eq narrow value) (begins_with value (front_of narrow)) fits)

-- what fits the narrow value fits the wide one
value_within : (wide narrow value : List ℕ) → value_wider wide narrow ≡ true → value_fits narrow value ≡ true → value_fits wide value ≡ true
value_within wide narrow value wider fits =
    ⊎_elim
    (λ same. subst (λ (text : List ℕ). value_fits text value ≡ true) (sym ((bytes_eq-Decides wide narrow).0 same)) fits)
    (λ within. or_right (bytes_eq wide value) (begins_with value (front_of wide))
    (front_within wide narrow value (front_of wide) (front_of narrow) refl refl within fits))
    (or_cases (bytes_eq wide narrow) (front_wider (front_of wide) narrow) wider)

-- a key's value in the channel fits what the narrow pattern wants of it
looked_up_from : (e : Pair) (es keys : List Pair) (key wanted : List ℕ) (b : Bool) → bytes_eq key e.0 ≡ b → cond b (Some e.1) (value_at key es) ≡ Some wanted →
    is_fit e.1 (value_at e.0 keys) ≡ true → (value_at key es ≡ Some wanted → is_fit wanted (value_at key keys) ≡ true) → is_fit wanted (value_at key keys) ≡ true
looked_up_from e es keys key wanted true same is here later =
    let key_is : e.0 ≡ key = sym ((bytes_eq-Decides key e.0).0 same) in
    let value_is : e.1 ≡ wanted = cc in
    subst (λ (v : List ℕ). is_fit v (value_at key keys) ≡ true) value_is (subst (λ (k : List ℕ). is_fit e.1 (value_at k keys) ≡ true) key_is here)
looked_up_from e es keys key wanted false same is here later = later is

pub looked_up : (narrow keys : List Pair) (key wanted : List ℕ) → value_at key narrow ≡ Some wanted → all_fit narrow keys ≡ true → is_fit wanted (value_at key keys) ≡ true
looked_up [] keys key wanted is fits = absurd (cc)
looked_up (e ∷ es) keys key wanted is fits =
    let both = and_parts (is_fit e.1 (value_at e.0 keys)) (all_fit es keys) fits in
    looked_up_from e es keys key wanted (bytes_eq key e.0) refl is both.0 (λ later. looked_up es keys key wanted later both.1)

pub is_fit_within : (wide narrow : List ℕ) (value : Option (List ℕ)) → value_wider wide narrow ≡ true → is_fit narrow value ≡ true → is_fit wide value ≡ true
is_fit_within wide narrow None wider fits = fits
is_fit_within wide narrow (Some value) wider fits = value_within wide narrow value wider fits

-- ---- the text of a pattern

stop_long : (b : Bool) (rest : Result Pattern UriError) (pattern : Pattern) → cond b (Err TooLong) rest ≡ Ok pattern → rest ≡ Ok pattern
stop_long true rest pattern is = absurd (cc)
stop_long false rest pattern is = is

stop_any : (b : Bool) (rest : Result Pattern UriError) (media : Media) (keys : List Pair) → cond b (Ok Any) rest ≡ Ok (Of media keys) → rest ≡ Ok (Of media keys)
stop_any true rest media keys is = absurd (cc)
stop_any false rest media keys is = is

keys_from : (read : Result (List Pair) UriError) (media other : Media) (keys : List Pair) → (read >>= λ found. Ok (Of other found)) ≡ Ok (Of media keys) → read ≡ Ok keys
keys_from (Err error) media other keys is = absurd (cc)
keys_from (Ok found) media other keys is = cc

media_from : (read : Result Media UriError) (pairs : Option (List ℕ)) (media : Media) (keys : List Pair) →
    (read >>= λ other. keys_of pairs >>= λ found. Ok (Of other found)) ≡ Ok (Of media keys) → keys_of pairs ≡ Ok keys
media_from (Err error) pairs media keys is = absurd (cc)
media_from (Ok other) pairs media keys is = keys_from (keys_of pairs) media other keys is

scheme_from : (read : Result (List ℕ) UriError) (media : Media) (keys : List Pair) →
    (read >>= λ text. pattern_media_of (halves text).0 >>= λ other. keys_of (halves text).1 >>= λ found. Ok (Of other found)) ≡ Ok (Of media keys) →
    keys_of (pairs_from read) ≡ Ok keys
scheme_from (Err error) media keys is = absurd (cc)
scheme_from (Ok text) media keys is = media_from (pattern_media_of (halves text).0) (halves text).1 media keys is

-- the keys of a pattern's text are those of the pattern
pub keys_of_text : (text : List ℕ) (media : Media) (keys : List Pair) → pattern_of text ≡ Ok (Of media keys) → keys_of (pairs_in text) ≡ Ok keys
unfolding pattern_of
keys_of_text text media keys is =
    scheme_from (behind_scheme text) media keys
    (stop_any (bytes_eq text (codes "*")) _ media keys (stop_long (nat_lt 1024 (length text)) _ (Of media keys) is))
