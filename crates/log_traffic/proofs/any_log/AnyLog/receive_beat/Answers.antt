use Rattle.std.proofs.Common.{sym, subst}
use Rattle.image_log.specs.Rebuilt.{Rebuilt}
use Rattle.log_traffic.specs.declared.any_log.AnyLog.{AnyLog}
use Rattle.log_traffic.specs.declared.any_log.AnyLog.TheVariants.{Image}
use Rattle.log_traffic.specs.Held.{Lies}
use Rattle.log_traffic.specs.Receiving.{after_beat}
use Rattle.log_traffic.proofs.AnyLemmas.{beat_ident, image_lies}
use Rattle.log_traffic.proofs.any_log.AnyLog.receive_beat.Goals as goal

pub returns-in-Image-clause-lies : goal.returns-in-Image-clause-lies
returns-in-Image-clause-lies c =
    let r : Rebuilt = c.in-Image.log.rebuilt in
    subst (λ (old : AnyLog). Lies old (Image c.receive_beat.new.log)) (sym c.in-Image.is)
    (image_lies c.in-Image.log c.receive_beat.new.log (after_beat r c.args.now c.args.place.now) c.receive_beat.ensures
    (beat_ident r c.args.now c.args.place.now))
