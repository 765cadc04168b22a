use Rattle.std.proofs.Common.{sym}
use Rattle.script_lines.proofs.LineLemmas.{two-more}
use Rattle.script_lines.proofs.line.two_words.Goals as goal

pub returns-in-Some : goal.returns-in-Some
returns-in-Some c =
    rw (c.in_ok-fields.was, c.first_piece.ensures, c.in_ok-fields-2.was, c.first_piece-2.ensures, c.in-Some.is)
    (sym (two-more _ _ c.in-Some.field-0.now))
