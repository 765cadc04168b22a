use Rattle.std.proofs.Common.{sym}
use Rattle.script_lines.proofs.PiecesLemmas.{pieces-at, pieces-nowhere}
use Rattle.script_lines.proofs.pieces.first_of_bytes.Goals as goal

pub returns-in-Some : goal.returns-in-Some
returns-in-Some c =
    rw c.split_at.ensures.back (pieces-at c.args.mark c.args.bytes.now c.in-Some.place (sym c.in-Some.ensures))

pub returns-in-None : goal.returns-in-None
returns-in-None c = pieces-nowhere c.args.mark c.args.bytes.now (sym c.in-None.ensures)
