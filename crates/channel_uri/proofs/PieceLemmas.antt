-- Pieces that are read into a table.
use Rattle.std.proofs.Common.{◌≡◌, ℕ, ◌+◌, ◌*◌, ◌≤◌, ◌<◌, ◌==◌, List, [], ◌∷◌, ◌++◌, Option, Some, None, Ok, Err, refl, sym, ap, ◌∙◌, length, arith, rules}
use Rattle.std.specs.List.{slice_split}
use Rattle.channel_uri.specs.declared.error.UriError.{UriError}
use Rattle.channel_uri.specs.Keys.{Pair, put}
use Rattle.channel_uri.specs.Pieces.{first_piece, pieces_in, IsPairPut}
use Rattle.channel_uri.specs.Syntax.{cut, halves_from, pair_of, pair_read, kept_of, keys_of}
use Rattle.channel_uri.specs.Table.{Stored}
use Rattle.std.specs.Option.{option_map}
use Rattle.std.specs.BTreeMap.{insert_entry}
use Rattle.std.specs.Cmp.Lexicographic.{slice_cmp}
use Rattle.std.specs.Ordering.{nat_cmp, match_ordering}
use Rattle.std.specs.declared.cmp.Ordering.{Ordering}
use Rattle.std.specs.declared.cmp.Ordering.TheVariants.{Less, Equal, Greater}
use Rattle.std.proofs.Common.{length-append, false, IfSome}
use Rattle.std.proofs.lemmas.Bool.Decides.{nat_tests}
use Rattle.std.proofs.lemmas.List.Elements.{All-from_recursion}
use Rattle.std.proofs.lemmas.List.Splits.{slice_split_at, slice_split_none}
use Rattle.channel_uri.specs.Keys.{bytes_cmp}
use Rattle.channel_uri.specs.Syntax.{value_read}
use Rattle.channel_uri.proofs.Canonical.{IsPair, is_pair, value_size}
use Rattle.channel_uri.proofs.Cuts.{Parts, cut_parts, cut_lacks, pieces_size, split_size}

-- with the pieces that are left, the keys so far make the keys of all pieces, and there is room for them
pub record IsReading (all : List (List ℕ)) (table : Stored) (left : List (List ℕ)) : Type 0 where
  pub keys : kept_of table.pairs left ≡ kept_of [] all
  pub room : table.used + pieces_size left ≤ 1025
  pub few : 3 * length table.pairs + pieces_size left ≤ 1025

-- ---- one piece

count_from : (key value : List ℕ) (e : Pair) (es : List Pair) (o : Ordering) → length (insert_entry bytes_cmp es key value) ≤ length es + 1 →
    length (match_ordering o ((key, value) ∷ e ∷ es) ((e.0, value) ∷ es) (e ∷ insert_entry bytes_cmp es key value)) ≤ length (e ∷ es) + 1
count_from key value e es Less later = omega arith
count_from key value e es Equal later = omega arith
count_from key value e es Greater later = omega (arith, later)

count_put : (pairs : List Pair) (pair : Pair) → length (put pairs pair) ≤ length pairs + 1
count_put [] pair = omega arith
count_put (e ∷ es) pair = count_from pair.0 pair.1 e es (slice_cmp nat_cmp pair.0 e.0) (count_put es pair)

pair_length : (piece : List ℕ) (pair : Pair) → pair_of piece ≡ Ok pair → length piece ≡ length pair.0 + (1 + length pair.1)
pair_length piece pair e =
    let from : IsPair piece pair = is_pair piece pair e in
    ap length from.whole ∙ (length-append pair.0 (61 ∷ pair.1) ∙ omega arith)

key_length : (piece : List ℕ) (pair : Pair) → pair_of piece ≡ Ok pair → 1 ≤ length pair.0
key_length piece pair e = let from : IsPair piece pair = is_pair piece pair e in grind (arith, nat_tests, from.named)

pub parts_fit : (piece key value head rest : List ℕ) (used : ℕ) → pair_of piece ≡ Ok (key, value) → head ++ rest ≡ value_read key value →
    used + length piece ≤ 1024 → used + (length key + (length head + length rest)) ≤ 1024
parts_fit piece key value head rest used e read fits =
    omega (arith, fits, pair_length piece (key, value) e, value_size key value, ap length read, length-append head rest)

pub piece_put : (old new : Stored) (piece key value head rest : List ℕ) → pair_of piece ≡ Ok (key, value) → head ++ rest ≡ value_read key value →
    new.pairs ≡ put old.pairs (key, head ++ rest) → new.used ≡ old.used + (length key + (length head + length rest)) → IsPairPut old piece new
piece_put old new piece key value head rest e read pairs used = record {
  pair = (key, value);
  read = e;
  pairs = pairs ∙ ap (λ kept. put old.pairs (key, kept)) read;
  used = omega (arith, used, pair_length piece (key, value) e, value_size key value, ap length read, length-append head rest);
  few = omega (arith, ap length pairs, count_put old.pairs (key, head ++ rest));
  long = omega (arith, pair_length piece (key, value) e, key_length piece (key, value) e);
}

-- ---- all pieces

first_from : (text : List ℕ) (sides : Option (List ℕ × List ℕ)) → cut 124 text ≡ sides →
    slice_split (λ b. b == 124) text ≡ (halves_from text sides).0 ∷ pieces_in (halves_from text sides).1
first_from text None is = slice_split_none (λ b. b == 124) text (All-from_recursion (λ b. (b == 124) ≡ false) text (cut_lacks 124 text is))
first_from text (Some sides) is =
    let parts : Parts 124 text sides.0 sides.1 = cut_parts 124 text sides.0 sides.1 is in
    ap (slice_split (λ b. b == 124)) parts.whole
    ∙ slice_split_at (λ b. b == 124) sides.0 124 sides.1 (All-from_recursion (λ b. (b == 124) ≡ false) sides.0 parts.first) refl

pub split_first : (text : List ℕ) → slice_split (λ b. b == 124) text ≡ (first_piece text).0 ∷ pieces_in (first_piece text).1
split_first text = first_from text (cut 124 text) refl

pub reading_starts : (text : Option (List ℕ)) (table : Stored) → table.pairs ≡ [] → table.used ≡ 0 → pieces_size (pieces_in text) ≤ 1025 → IsReading (pieces_in text) table (pieces_in text)
reading_starts text table pairs used fits = record {
  keys = ap (λ keys. kept_of keys (pieces_in text)) pairs;
  room = omega (arith, used, fits);
  few = omega (arith, ap length pairs, fits);
}

kept_next : (keys : List Pair) (piece : List ℕ) (pieces : List (List ℕ)) (pair : Pair) → pair_of piece ≡ Ok pair →
    kept_of keys (piece ∷ pieces) ≡ kept_of (put keys (pair_read pair)) pieces
kept_next keys piece pieces pair e = rw e (search rules)

pub reading_on : (all : List (List ℕ)) (old new : Stored) (piece : List ℕ) (left : List (List ℕ)) → IsReading all old (piece ∷ left) → IsPairPut old piece new → IsReading all new left
reading_on all old new piece left reading put = record {
  keys = ap (λ keys. kept_of keys left) put.pairs ∙ (sym (kept_next old.pairs piece left put.pair put.read) ∙ reading.keys);
  room = omega (arith, reading.room, put.used);
  few = omega (arith, reading.few, put.few, put.long);
}

-- ---- the loop

pub all_pieces : (text : Option (List ℕ)) → keys_of text ≡ kept_of [] (pieces_in text)
unfolding keys_of
all_pieces None = refl
all_pieces (Some text) = refl

pub pieces_fit : {A : Type 0} (now : A → List ℕ) (text : Option A) → IfSome text (λ some. length (now some) ≤ 1024) → pieces_size (pieces_in (option_map now text)) ≤ 1025
pieces_fit now None fits = omega arith
pieces_fit now (Some text) fits = omega (arith, fits, split_size 124 (now text))

-- the pieces that are left begin with the first one
pub first_of : (left behind : Option (List ℕ)) (text piece : List ℕ) → left ≡ Some text → (piece, behind) ≡ first_piece text → pieces_in left ≡ piece ∷ pieces_in behind
first_of left behind text piece is first =
    ap pieces_in is ∙ (split_first text ∙ ap (λ sides. sides.0 ∷ pieces_in sides.1) (sym first))

pub reading_first : (all left others : List (List ℕ)) (table : Stored) (piece : List ℕ) → IsReading all table left → left ≡ piece ∷ others → IsReading all table (piece ∷ others)
reading_first all left others table piece reading first = rw (← first) reading

pub text_fits : (all others : List (List ℕ)) (table : Stored) (piece : List ℕ) → IsReading all table (piece ∷ others) → table.used + length piece ≤ 1024
text_fits all others table piece reading = omega (arith, reading.room)

pub span_fits : (all others : List (List ℕ)) (table : Stored) (piece : List ℕ) → IsReading all table (piece ∷ others) → length table.pairs < 342
span_fits all others table piece reading = omega (arith, reading.few)

kept_error : (keys : List Pair) (piece : List ℕ) (pieces : List (List ℕ)) (error : UriError) → pair_of piece ≡ Err error → kept_of keys (piece ∷ pieces) ≡ Err error
kept_error keys piece pieces error e = rw e refl

pub stops : (text : Option (List ℕ)) (others : List (List ℕ)) (table : Stored) (piece : List ℕ) (error : UriError) → IsReading (pieces_in text) table (piece ∷ others) →
    pair_of piece ≡ Err error → keys_of text ≡ Err error
stops text others table piece error reading e =
    all_pieces text ∙ (sym reading.keys ∙ kept_error table.pairs piece others error e)

pub fewer : (left others : List (List ℕ)) (piece : List ℕ) → left ≡ piece ∷ others → pieces_size others < pieces_size left
fewer left others piece first = rw first (omega arith)
