-- Which subscriptions read a log. Own rules.
use Rattle.std.specs.Prelude.{ℕ, ◌==◌, List, map, filter}
use Rattle.stream_registry.specs.declared.pairs.Pair.{Pair}

-- the subscriptions that read the log of that source
unfoldable pub readers_of : List Pair → ℕ → List ℕ
readers_of pairs source = map (λ pair. pair.subscription) (filter (λ pair. pair.source == source) pairs)
