use Rattle.std.proofs.Common.{subst}
use Rattle.image_log.specs.Layout.{layout_of}
use Rattle.image_log.specs.Log.{Log}
use Rattle.log_pairs.specs.Layout.{IsWellFormed}
use Rattle.image_log.proofs.Layouts.{well_formed}
use Rattle.image_log.proofs.log.ImageLog.holds.Goals as goal

pub returns : goal.returns
returns c =
    let s = c.self.inside in
    subst (λ (l : Log). IsWellFormed (layout_of l)) c.self.view_is
    (well_formed s.ident s.join s.base s.contiguous s.greatest s.moment s.status s.pairs s.store c.self.invariant c.is_blank.ensures)
