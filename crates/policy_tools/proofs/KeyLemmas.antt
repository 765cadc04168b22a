-- The keys of a pattern's text are those of the pattern, so that a look at the one is a look at the other.
use Rattle.std.proofs.Common.{◌≡◌, ℕ, Bool, true, false, cond, List, [], ◌∷◌, Option, Some, Ok, refl, sym, subst}
use Rattle.std.specs.List.{AllByRecursion}
use Rattle.std.specs.Str.{bytes_eq}
use Rattle.std.proofs.lemmas.Bool.{and_parts}
use Rattle.std.proofs.lemmas.Slice.Eq.{bytes_eq-Decides}
use Rattle.channel_uri.specs.Keys.{Pair, value_at}
use Rattle.channel_uri.specs.Pattern.{pattern_of}
use Rattle.channel_uri.specs.Pieces.{pieces_in}
use Rattle.channel_uri.specs.declared.media.Media.{Media}
use Rattle.channel_uri.specs.declared.pattern.Pattern.TheVariants.{Of}
use Rattle.policy_tools.specs.Wider.{all_keys, key_of, pairs_in}
use Rattle.policy_tools.proofs.WiderLemmas.{IsFound, OfKey, each_found, keys_of_text, of_text}
use Rattle.policy_tools.specs.Patterns.{key_from, key_passes, keys_pass, passes_from}
use Rattle.policy_tools.specs.declared.patterns.Relation.{Relation}

-- ---- from the pairs to any key

looked_from : (relation : Relation) (e : Pair) (es other : List Pair) (key : List ℕ) (b : Bool) → bytes_eq key e.0 ≡ b →
    passes_from relation e.1 (value_at e.0 other) ≡ true → key_from relation (value_at key es) (value_at key other) ≡ true →
    key_from relation (cond b (Some e.1) (value_at key es)) (value_at key other) ≡ true
looked_from relation e es other key true same here later =
    let is : e.0 ≡ key = sym ((bytes_eq-Decides key e.0).0 same) in
    subst (λ (k : List ℕ). passes_from relation e.1 (value_at k other) ≡ true) is here
looked_from relation e es other key false same here later = later

looked : (relation : Relation) (es other : List Pair) (key : List ℕ) → keys_pass relation es other ≡ true →
    key_from relation (value_at key es) (value_at key other) ≡ true
looked relation [] other key all = refl
looked relation (e ∷ es) other key all =
    let both = and_parts (passes_from relation e.1 (value_at e.0 other)) (keys_pass relation es other) all in
    looked_from relation e es other key (bytes_eq key e.0) refl both.0 (looked relation es other key both.1)

all_pieces_pass : (test : List ℕ → Bool) (pieces : List (List ℕ)) → ((key : List ℕ) → test key ≡ true) → all_keys test pieces ≡ true
all_pieces_pass test [] each = refl
all_pieces_pass test (piece ∷ pieces) each = rw (each (key_of piece)) (all_pieces_pass test pieces each)

-- ---- from the pieces to the pairs

pairs_from_pieces : (relation : Relation) (keys other es : List Pair) → AllByRecursion (OfKey (key_passes relation keys other)) es →
    AllByRecursion (IsFound keys) es → keys_pass relation es other ≡ true
pairs_from_pieces relation keys other [] each found = refl
pairs_from_pieces relation keys other (e ∷ es) each found =
    let here : passes_from relation e.1 (value_at e.0 other) ≡ true =
    subst (λ (o : Option (List ℕ)). key_from relation o (value_at e.0 other) ≡ true) found.0 each.0 in
    rw here (pairs_from_pieces relation keys other es each.1 found.1)

-- two tests that hold together are equal
alike : (a b : Bool) → (a ≡ true → b ≡ true) → (b ≡ true → a ≡ true) → a ≡ b
alike true b there back = sym (there refl)
alike false true there back = back refl
alike false false there back = refl

pub pieces_are_keys : (relation : Relation) (text : List ℕ) (media : Media) (keys others : List Pair) → pattern_of text ≡ Ok (Of media keys) →
    all_keys (key_passes relation keys others) (pieces_in (pairs_in text)) ≡ keys_pass relation keys others
pieces_are_keys relation text media keys others is =
    alike _ _
    (λ all.
    let known = of_text (key_passes relation keys others) (pairs_in text) keys (keys_of_text text media keys is) all in
    pairs_from_pieces relation keys others keys known.0 (each_found keys known.1))
    (λ all. all_pieces_pass (key_passes relation keys others) (pieces_in (pairs_in text)) (λ key. looked relation keys others key all))
