use Rattle.script_lines.proofs.PiecesLemmas.{pieces-cut, pieces-whole}
use Rattle.script_lines.proofs.pieces.first_piece.Goals as goal

pub returns-in-Some : goal.returns-in-Some
returns-in-Some c =
    let cut = c.in-Some.ensures.byte c.requires (λ w o h. h) in
    rw (cut.0, cut.1) (pieces-cut c.args.mark c.args.text.now cut.2)

pub returns-in-None : goal.returns-in-None
returns-in-None c = pieces-whole c.args.mark c.args.text.now (c.in-None.ensures.byte c.requires (λ w o h. h))
