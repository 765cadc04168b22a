-- The texts of fields.
use Rattle.std.proofs.Common.{◌≡◌, ℕ, List, [], ◌∷◌, ◌++◌, refl, sym, ap, ◌∙◌, append_assoc}
use Rattle.std.proofs.lemmas.List.{append-nil}
use Rattle.frame_codec.specs.declared.header.TermPlace.{TermPlace}
use Rattle.message_words.specs.Datagrams.{place_fields, placed_line}
use Rattle.message_words.specs.Name.{frame_text}
use Rattle.message_words.specs.Shown.{Field, field_text, fields_text, line_of}
use Rattle.message_words.specs.declared.name.FrameName.{FrameName}

after_a_field : (field : Field) (rest : List Field) → fields_text (field ∷ rest) ≡ 32 ∷ (field_text field ++ fields_text rest)
after_a_field field [] = ap (λ (text : List ℕ). 32 ∷ text) (sym (append-nil (field_text field)))
after_a_field field (next ∷ rest) = refl

fields_one_after_another : (first rest : List Field) → fields_text (first ++ rest) ≡ fields_text first ++ fields_text rest
fields_one_after_another [] rest = refl
fields_one_after_another (field ∷ fields) rest =
    after_a_field field (fields ++ rest)
    ∙ (ap (λ (text : List ℕ). 32 ∷ (field_text field ++ text)) (fields_one_after_another fields rest)
    ∙ (ap (λ (text : List ℕ). 32 ∷ text) (sym (append_assoc (field_text field) (fields_text fields) (fields_text rest)))
    ∙ ap (λ (text : List ℕ). text ++ fields_text rest) (sym (after_a_field field fields))))

-- the line of a frame is that of its fields, those of its place first
pub placed_is : (name : FrameName) (place : TermPlace) (rest : List Field) → placed_line name place (fields_text rest) ≡ line_of (frame_text name) (place_fields place ++ rest)
unfolding placed_line
placed_is name place rest = ap (λ (text : List ℕ). frame_text name ++ text) (sym (fields_one_after_another (place_fields place) rest))
