-- The words of a line.
use Rattle.std.proofs.Common.{◌≡◌, ℕ, true, List, [], ◌∷◌, None, refl, arith}
use Rattle.std.specs.Char.{is_ascii}
use Rattle.std.specs.List.{list_all}
use Rattle.std.specs.Str.{IsAscii, IsUtf8}
use Rattle.std.proofs.lemmas.Bool.{and_parts}
use Rattle.std.proofs.lemmas.Bool.Decides.{nat_tests}
use Rattle.std.proofs.lemmas.Str.{IsUtf8-from_ascii}
use Rattle.std.proofs.lemmas.Str.Ascii.{IsAscii-nil, IsAscii-cons}
use Rattle.script_lines.specs.Line.{is_plain, one, two, three, view_in, policy_of}
use Rattle.script_lines.specs.Pieces.{pieces}
use Rattle.script_lines.proofs.PiecesLemmas.{HasFirst, HasFirst-pieces}

-- ASCII is UTF-8
IsAscii-plain : (line : List ℕ) → is_plain line ≡ true → IsAscii line
IsAscii-plain [] h = IsAscii-nil
IsAscii-plain (b ∷ bs) h =
    let both = and_parts (is_ascii b) (list_all is_ascii bs) h in
    IsAscii-cons b bs (grind (arith, nat_tests)) (IsAscii-plain bs both.1)

pub IsUtf8-plain : (line : List ℕ) → is_plain line ≡ true → IsUtf8 line
IsUtf8-plain line h = IsUtf8-from_ascii line (IsAscii-plain line h)

-- more words than there are to be
one-from_first : (first : List ℕ) (rest : List (List ℕ)) → HasFirst rest → one (first ∷ rest) ≡ None
one-from_first first rest h = rw h.is refl

two-from_first : (first second : List ℕ) (rest : List (List ℕ)) → HasFirst rest → two (first ∷ second ∷ rest) ≡ None
two-from_first first second rest h = rw h.is refl

three-from_first : (first second third : List ℕ) (rest : List (List ℕ)) → HasFirst rest →
    three (first ∷ second ∷ third ∷ rest) ≡ None
three-from_first first second third rest h = rw h.is refl

view_in-from_first : (word : List ℕ) (rest : List (List ℕ)) → HasFirst rest → view_in (word ∷ rest) ≡ None
view_in-from_first word rest h = rw h.is refl

policy_of-from_first : (rest : List (List ℕ)) → HasFirst rest → policy_of rest ≡ None
policy_of-from_first rest h = rw h.is refl

pub one-more : (first text : List ℕ) → one (first ∷ pieces 32 text) ≡ None
one-more first text = one-from_first first _ (HasFirst-pieces 32 text)

pub two-more : (first second text : List ℕ) → two (first ∷ second ∷ pieces 32 text) ≡ None
two-more first second text = two-from_first first second _ (HasFirst-pieces 32 text)

pub three-more : (first second third text : List ℕ) → three (first ∷ second ∷ third ∷ pieces 32 text) ≡ None
three-more first second third text = three-from_first first second third _ (HasFirst-pieces 32 text)

pub view_in-more : (word text : List ℕ) → view_in (word ∷ pieces 32 text) ≡ None
view_in-more word text = view_in-from_first word _ (HasFirst-pieces 32 text)

pub policy_of-more : (text : List ℕ) → policy_of (pieces 32 text) ≡ None
policy_of-more text = policy_of-from_first _ (HasFirst-pieces 32 text)
