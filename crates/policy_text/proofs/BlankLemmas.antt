-- A text of white space and comments alone.
use Rattle.std.proofs.Common.{◌≡◌, ℕ, List, Result, Ok, Err, Some, None, false, is_ok, refl, sym, ◌∙◌, subst}
use Rattle.std.proofs.lemmas.Option.{same_Some, none-some}
use Rattle.toml.specs.Data.{Members, no_members}
use Rattle.toml.specs.Errors.{IsBlank}
use Rattle.toml.specs.Parse.{lines, parse_document}
use Rattle.policy_core.specs.RuleList.{Rules}
use Rattle.policy_text.specs.declared.fault.PolicyFault.{PolicyFault}
use Rattle.policy_text.specs.declared.fault.PolicyFault.TheVariants.{BadVersion}
use Rattle.policy_text.specs.Document.{has_rules, policy_from}
use Rattle.policy_text.specs.Fault.{Equals}
use Rattle.policy_text.specs.Names.{Known}

-- it is a document with no members
parse_document-blank : (text : List ℕ) → IsBlank text → parse_document text ≡ Some no_members
unfolding parse_document lines
parse_document-blank text blank = rw blank

-- so it is a document
pub refused_blank : (text : List ℕ) → IsBlank text → parse_document text ≡ None → ⊥
refused_blank text blank none = none-some _ (sym none ∙ parse_document-blank text blank)

no_members_answer : (names : Known) (answer : Result Rules PolicyFault) →
    Equals (λ policy. policy) answer (policy_from names no_members) → answer ≡ Err BadVersion
unfolding policy_from
no_members_answer names (Ok policy) same = cc
no_members_answer names (Err fault) same = sym same

refused_no_members : (names : Known) → is_ok (policy_from names no_members) ≡ false
unfolding policy_from
refused_no_members names = refl

-- and one without a version
pub blank_answer : (names : Known) (text : List ℕ) (table : Members) (answer : Result Rules PolicyFault) → IsBlank text →
    parse_document text ≡ Some table →
    (has_rules table ≡ false → is_ok (policy_from names table) ≡ false → Equals (λ policy. policy) answer (policy_from names table)) →
    answer ≡ Err BadVersion
blank_answer names text table answer blank parsed exact =
    let no_table : table ≡ no_members = same_Some _ _ (sym parsed ∙ parse_document-blank text blank) in
    no_members_answer names answer
    (subst (λ (t : Members). Equals (λ policy. policy) answer (policy_from names t)) no_table
    (exact (rw no_table) (subst (λ (t : Members). is_ok (policy_from names t) ≡ false) (sym no_table) (refused_no_members names))))
