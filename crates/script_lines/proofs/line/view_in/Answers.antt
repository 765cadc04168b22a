use Rattle.std.proofs.Common.{sym}
use Rattle.script_lines.proofs.LineLemmas.{view_in-more}
use Rattle.script_lines.proofs.line.view_in.Goals as goal

pub returns-in-Some-fields : goal.returns-in-Some-fields
returns-in-Some-fields c =
    rw (c.in-Some.is, c.first_piece.ensures, c.in-Some-fields.is) (sym (view_in-more _ c.in-Some-fields.field-0.now))
