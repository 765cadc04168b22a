use Rattle.std.proofs.Common.{◌++◌, take, append_assoc, ◌∙◌, refl}
use Rattle.std.proofs.lemmas.List.{take-append-drop}
use Rattle.driver_script.proofs.OutputLemmas.{appends_more}
use Rattle.driver_script.proofs.output.write_whole.Goals as goal

pub pieces-preserved : goal.pieces-preserved
pieces-preserved g c =
    let written = c.pieces.invariant in
    let pieces = c.split_at.ensures in (
      written.0 ++ take c.in-Ok.count c.pieces.rest.now,
      written.1 ∙ rw (append_assoc, pieces.back, take-append-drop) refl,
      appends_more _ _ _ _ _ written.2 c.in-Ok.ensures.bytes,
    )
