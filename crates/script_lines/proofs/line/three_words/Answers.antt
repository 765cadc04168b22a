use Rattle.std.proofs.Common.{sym}
use Rattle.script_lines.proofs.LineLemmas.{three-more}
use Rattle.script_lines.proofs.line.three_words.Goals as goal

pub returns-in-Some : goal.returns-in-Some
returns-in-Some c =
    rw (
      c.in_ok-fields.was,
      c.first_piece.ensures,
      c.in_ok-fields-2.was,
      c.first_piece-2.ensures,
      c.in_ok-fields-3.was,
      c.first_piece-3.ensures,
      c.in-Some.is,
    )
    (sym (three-more _ _ _ c.in-Some.field-0.now))
