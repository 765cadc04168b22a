-- Each cache stays right of the registry.
use Rattle.std.proofs.Common.{◌≡◌, ℕ, ◌<◌, List, [], length, get_or, ◌∙◌, sym, subst, length-set}
use Rattle.std.specs.Prelude.{All, slice_set}
use Rattle.std.proofs.lemmas.List.Elements.{All-set, All-weaker}
use Rattle.decision_cache.specs.declared.key.Key.{Key}
use Rattle.driver_core.specs.Cached.{AreCached}
use Rattle.driver_core.specs.State.{State}
use Rattle.driver_steps.specs.Caching.{AllCached}
use Rattle.policy_core.specs.declared.verdict.Verdict.{Verdict}

pub cached_opened : (s : State) (caches : List (List (Key × Verdict))) → AreCached s [] → length caches ≡ 64 →
    All (λ entries. entries ≡ []) caches → AllCached s caches
cached_opened s caches none count empty = record {
  count = count;
  each = All-weaker (λ entries. entries ≡ []) (AreCached s) (λ entries is. subst (AreCached s) (sym is) none) caches empty;
}

pub cached_later : (s after : State) (caches : List (List (Key × Verdict))) →
    ((entries : List (Key × Verdict)) → AreCached s entries → AreCached after entries) → AllCached s caches →
    AllCached after caches
cached_later s after caches stays all = record {
  count = all.count;
  each = All-weaker (AreCached s) (AreCached after) stays caches all.each;
}

pub cached_set : (s : State) (caches : List (List (Key × Verdict))) (at : ℕ) (new : List (Key × Verdict)) →
    AllCached s caches → AreCached s new → AllCached s (slice_set caches at new)
cached_set s caches at new all one = record {
  count = length-set caches at new ∙ all.count;
  each = All-set (AreCached s) caches at new one all.each;
}

pub cached_at : (s : State) (caches : List (List (Key × Verdict))) (at : ℕ) (cache : List (Key × Verdict)) →
    AllCached s caches → at < length caches → cache ≡ get_or caches at cache → AreCached s cache
cached_at s caches at cache all within is = subst (AreCached s) (sym is) (all.each at cache within)
