-- What bytes that are a text hold, and what others do.
use Rattle.std.proofs.Common.{◌≡◌, ℕ, List, [], refl, None}
use Rattle.std.specs.Str.{IsUtf8}
use Rattle.std.proofs.lemmas.Str.{is_utf8-from_IsUtf8}
use Rattle.toml.specs.Parse.{parse_document}
use Rattle.policy_query.specs.Document.{document_in, text_in}
use Rattle.policy_query.proofs.DecidingLemmas.{is_utf8-not}

pub text_document : (bytes text : List ℕ) → IsUtf8 bytes → text ≡ bytes → parse_document text ≡ document_in bytes
unfolding document_in
text_document bytes text utf8 same = rw (is_utf8-from_IsUtf8 bytes utf8, same) refl

pub text_itself : (bytes text : List ℕ) → IsUtf8 bytes → text ≡ bytes → text ≡ text_in bytes
unfolding text_in
text_itself bytes text utf8 same = rw (is_utf8-from_IsUtf8 bytes utf8, same) refl

pub no_document : (bytes : List ℕ) → (IsUtf8 bytes → ⊥) → document_in bytes ≡ None
unfolding document_in
no_document bytes other = rw (is_utf8-not bytes other) refl

pub no_text : (bytes : List ℕ) → (IsUtf8 bytes → ⊥) → text_in bytes ≡ []
unfolding text_in
no_text bytes other = rw (is_utf8-not bytes other) refl
