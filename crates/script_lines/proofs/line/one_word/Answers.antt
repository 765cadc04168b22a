use Rattle.std.proofs.Common.{sym}
use Rattle.script_lines.proofs.LineLemmas.{one-more}
use Rattle.script_lines.proofs.line.one_word.Goals as goal

pub returns-in-Some : goal.returns-in-Some
returns-in-Some c = rw (c.in_ok-fields.was, c.first_piece.ensures, c.in-Some.is) (sym (one-more _ c.in-Some.field-0.now))
