use Rattle.std.proofs.Common.{◌≡◌, is_some}
use Rattle.driver_core.specs.Cached.{AreCached}
use Rattle.media_driver.proofs.RunLemmas.{Went}
use Rattle.media_driver.specs.Clients.{Attached}
use Rattle.media_driver.specs.Remembering.{IsRemembered}
use Rattle.media_driver.specs.Runs.{with_offer}
use Rattle.published_registry.specs.Histories.{IsContinuedBy, registry_of}
use Rattle.media_driver.proofs.offering.offer_run.Given as goal

abbrev pub invariant-loop-taken : goal.invariant-loop-taken
invariant-loop-taken g l = record {
  known : IsContinuedBy l.fn.pass l.pass;
  part : l.mine.parts ≡ 1;
  right : AreCached (registry_of l.pass) l.cache;
  remembered : IsRemembered l.client l.remembered l.pass;
  offers : (attached : Attached) → attached.number ≡ l.client → Went g.M.Messages.next_is g.M.Messages.went g.N.Naming.home l.registration l._taken l.fn.messages l.messages
      (with_offer attached l.fn.pass l.now l.fn.mine.number (is_some l.fn.ended) l.fn.audit)
      (with_offer attached l.pass l.now l.mine.number (is_some l.ended) l.audit);
}
