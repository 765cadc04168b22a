-- A log whose readers change lies where it lay.
use Rattle.std.proofs.Common.{◌≡◌, ℕ, ◌-◌, List, sym, subst}
use Rattle.log_steps.proofs.MoveLemmas.{held_lies}
use Rattle.log_steps.specs.Recovery.{Recovering}
use Rattle.log_steps.specs.Held.{LiesAsBefore}
use Rattle.log_traffic.specs.declared.any_log.AnyLog.{AnyLog}
use Rattle.log_traffic.specs.Held.{Lies, rejoined_held as rejoined_any}
use Rattle.log_traffic.proofs.AnyLemmas.{rejoined_lies}

-- ---- a log goes on where it lies

-- others read it now
pub readers_lie : (source : ℕ) (kept : Recovering) (subscriptions : List ℕ) (old new : AnyLog) → new ≡ rejoined_any subscriptions old
    → LiesAsBefore (record { source = source; log = old; recovery = kept }) (record { source = source; log = new; recovery = kept })
readers_lie source kept subscriptions old new is =
    held_lies source kept kept old new (subst (λ (l : AnyLog). Lies old l) (sym is) (rejoined_lies subscriptions old))
