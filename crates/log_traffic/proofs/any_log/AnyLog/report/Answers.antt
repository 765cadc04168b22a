use Rattle.std.proofs.Common.{arith, sym, subst}
use Rattle.image_log.specs.Rebuilt.{Rebuilt}
use Rattle.log_traffic.specs.declared.any_log.AnyLog.{AnyLog}
use Rattle.log_traffic.specs.declared.any_log.AnyLog.TheVariants.{Image}
use Rattle.log_traffic.specs.Held.{Lies}
use Rattle.log_traffic.specs.Receiver.{log_after}
use Rattle.log_traffic.proofs.AnyLemmas.{image_lies, report_ident}
use Rattle.log_traffic.proofs.any_log.AnyLog.report.Goals as goal

pub datagrams_of-requires : goal.datagrams_of-requires
datagrams_of-requires c = omega (arith, c.ident.ensures.terms.0)

pub returns-clause-lies : goal.returns-clause-lies
returns-clause-lies c =
    let r : Rebuilt = c.in-Image.log.rebuilt in
    subst (λ (old : AnyLog). Lies old (Image c.pass.new.log)) (sym c.in-Image.is)
    (image_lies c.in-Image.log c.pass.new.log (log_after c.args.receiver.now r c.args.now) c.pass.ensures.log
    (report_ident c.args.receiver.now r c.args.now))
