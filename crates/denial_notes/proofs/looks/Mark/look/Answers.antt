use Rattle.std.proofs.Common.{◌∙◌, ap, min, length}
use Rattle.denial_notes.proofs.LookLemmas.{new_of_all}
use Rattle.denial_notes.proofs.looks.Mark.look.Goals as goal

pub returns-clause-fresh : goal.returns-clause-fresh
returns-clause-fresh g c before count =
    new_of_all before c.args.kept.now c.args.self.now.seen c.args.dropped c.min-skip.result c.saturating_sub-2.result
    (c.min-skip.ensures ∙ ap (λ many. min many (length c.args.kept.now)) c.saturating_sub.ensures)
    c.saturating_sub-2.ensures count
