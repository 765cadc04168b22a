use Rattle.std.proofs.Common.{◌≡◌, IfOk, subst, sym, ℕ, List, Option}
use Rattle.toml.specs.Data.{Members}
use Rattle.policy_query.specs.Document.{document_of, text_of}
use Rattle.policy_query.proofs.DocumentLemmas.{no_document, no_text, text_document, text_itself}
use Rattle.policy_query.proofs.document.Document.read.Goals as goal

pub returns-in-Ok-clause-exact : goal.returns-in-Ok-clause-exact
returns-in-Ok-clause-exact c =
    subst (λ (document : Option Members). IfOk c.parsed.result (λ d. document_of d ≡ document))
    (text_document c.args.bytes.now c.in-Ok.text.now c.in-Ok.ensures.cases.1 c.in-Ok.ensures.cases.0) c.parsed.ensures.exact

pub returns-in-Ok-clause-text : goal.returns-in-Ok-clause-text
returns-in-Ok-clause-text c =
    subst (λ (text : List ℕ). IfOk c.parsed.result (λ d. text_of d ≡ text))
    (text_itself c.args.bytes.now c.in-Ok.text.now c.in-Ok.ensures.cases.1 c.in-Ok.ensures.cases.0) c.parsed.ensures.text

pub returns-in-Err-clause-exact : goal.returns-in-Err-clause-exact
returns-in-Err-clause-exact c = sym (no_document c.args.bytes.now c.in-Err.ensures.cases.0)

pub returns-in-Err-clause-text : goal.returns-in-Err-clause-text
returns-in-Err-clause-text c = sym (no_text c.args.bytes.now c.in-Err.ensures.cases.0)
