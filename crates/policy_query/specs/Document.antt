-- What a policy's file holds: a TOML document, or none; and the policy that it is.
use Rattle.std.specs.Prelude.{ℕ, List, [], Option, Some, None, Result, if◌then◌else◌}
use Rattle.std.specs.Str.{is_utf8}
use Rattle.toml.specs.Data.{Members}
use Rattle.toml.specs.Parse.{parse_document}
use Rattle.toml.specs.View.{table_view}
use Rattle.policy_core.specs.RuleList.{Rules}
use Rattle.policy_text.specs.Document.{policy_at}
use Rattle.policy_text.specs.Names.{Known}
use Rattle.policy_text.specs.declared.fault.PolicyFault.{PolicyFault}
use Rattle.policy_query.specs.declared.document.Document.{Document}
use Rattle.policy_query.specs.declared.document.Document.TheVariants.{Toml, NotToml, NotText}

-- the text that a file's bytes are, where they are UTF-8
unfoldable pub text_in : List ℕ → List ℕ
text_in bytes = if is_utf8 bytes then bytes else []

-- the document that they are; bytes that are not UTF-8 are none
unfoldable pub document_in : List ℕ → Option Members
document_in bytes = if is_utf8 bytes then parse_document bytes else None

-- ---- what was read

abbrev pub text_of : Document → List ℕ
text_of (Toml text table) = text.now
text_of (NotToml text error) = text.now
text_of (NotText before) = []

abbrev pub document_of : Document → Option Members
document_of (Toml text table) = Some (table_view table)
document_of (NotToml text error) = None
document_of (NotText before) = None

-- the policy that it is, or its first fault
unfoldable pub policy_in : Known → Document → Result Rules PolicyFault
policy_in names document = policy_at names (document_of document)
