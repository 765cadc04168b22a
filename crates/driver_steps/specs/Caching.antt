-- The caches of clients.
use Rattle.std.specs.Prelude.{◌≡◌, List, length, All}
use Rattle.decision_cache.specs.declared.key.Key.{Key}
use Rattle.driver_core.specs.Cached.{AreCached}
use Rattle.driver_core.specs.State.{State}
use Rattle.policy_core.specs.declared.verdict.Verdict.{Verdict}

-- there are 64, and each is right of the registry
pub record AllCached (s : State) (caches : List (List (Key × Verdict))) : Type 0 where
  pub count : length caches ≡ 64
  pub each : All (AreCached s) caches
