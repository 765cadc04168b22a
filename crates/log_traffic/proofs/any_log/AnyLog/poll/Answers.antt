use Rattle.std.proofs.Common.{sym, subst}
use Rattle.image_log.specs.Polling.{polled}
use Rattle.log_traffic.specs.declared.any_log.AnyLog.{AnyLog}
use Rattle.log_traffic.specs.declared.any_log.AnyLog.TheVariants.{Image}
use Rattle.log_traffic.specs.Held.{Lies}
use Rattle.log_traffic.proofs.AnyLemmas.{image_lies, polled_ident}
use Rattle.log_traffic.proofs.any_log.AnyLog.poll.Goals as goal

pub returns-in_ok-poll_copies-in-Image-clause-lies : goal.returns-in_ok-poll_copies-in-Image-clause-lies
returns-in_ok-poll_copies-in-Image-clause-lies c =
    subst (λ (old : AnyLog). Lies old (Image c.poll_copies-in-Image.new.self)) (sym c.in-Image.is)
    (image_lies c.in-Image.log c.poll_copies-in-Image.new.self (polled c.in-Image.log.rebuilt c.args.subscription c.args.limit).after
    c.in_ok-poll_copies-in-Image.ensures.exact (polled_ident c.in-Image.log.rebuilt c.args.subscription c.args.limit))
