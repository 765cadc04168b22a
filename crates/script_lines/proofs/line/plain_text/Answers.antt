use Rattle.std.proofs.Common.{sym, ◌∙◌}
use Rattle.script_lines.proofs.LineLemmas.{IsUtf8-plain}
use Rattle.script_lines.proofs.line.plain_text.Goals as goal

pub returns-in-Err : goal.returns-in-Err
returns-in-Err c =
    absurd (c.in-Err.ensures.cases.0 (IsUtf8-plain c.args.line.now (sym c.is_plain.ensures ∙ c.if-not-is_plain.false)))
