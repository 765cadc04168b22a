use Rattle.std.proofs.Common.{◌≡◌, None, rules}
use Rattle.toml.specs.Parse.{parse_document}
use Rattle.toml.specs.View.{table_view}
use Rattle.policy_text.proofs.BlankLemmas.{blank_answer, refused_blank}
use Rattle.policy_text.proofs.document.read.Goals as goal

pub returns-in-Ok-clause-blank : goal.returns-in-Ok-clause-blank
returns-in-Ok-clause-blank c = λ blank.
    blank_answer c.args.names.now c.args.text.now (table_view c.in-Ok.table) c.policy_from.result blank c.in-Ok.ensures.ok
    c.policy_from.ensures.without_memory

pub returns-in-Err-2-clause-blank : goal.returns-in-Err-2-clause-blank
returns-in-Err-2-clause-blank c = λ blank.
    let none : parse_document c.args.text.now ≡ None = search rules in
    absurd (refused_blank c.args.text.now blank none)
