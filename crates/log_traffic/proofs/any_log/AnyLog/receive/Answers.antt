use Rattle.std.proofs.Common.{List, sym, subst}
use Rattle.frame_codec.specs.Frame.{Sent}
use Rattle.frame_codec.specs.Frames.{frames_left}
use Rattle.image_log.specs.Rebuilt.{Rebuilt}
use Rattle.log_traffic.specs.declared.any_log.AnyLog.{AnyLog}
use Rattle.log_traffic.specs.declared.any_log.AnyLog.TheVariants.{Image}
use Rattle.log_traffic.specs.Held.{Lies}
use Rattle.log_traffic.specs.Receiving.{after_data}
use Rattle.log_traffic.proofs.AnyLemmas.{data_ident, image_lies}
use Rattle.log_traffic.proofs.any_log.AnyLog.receive.Goals as goal

pub returns-in_ok-receive-in-Image-clause-lies : goal.returns-in_ok-receive-in-Image-clause-lies
returns-in_ok-receive-in-Image-clause-lies c =
    let r : Rebuilt = c.in-Image.log.rebuilt in
    let frames : List Sent = frames_left c.args.frames in
    subst (λ (old : AnyLog). Lies old (Image c.receive.new.log)) (sym c.in-Image.is)
    (image_lies c.in-Image.log c.receive.new.log (after_data r c.args.now frames) c.in_ok-receive-in-Image.ensures.after
    (data_ident r c.args.now frames))
