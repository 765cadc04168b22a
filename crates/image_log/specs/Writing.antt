-- Bytes that are written over others.
use Rattle.std.specs.Prelude.{ℕ, ◌+◌, List, ◌++◌, length, take, drop}

-- the bytes ws over those of xs from `at` on
unfoldable pub written : ℕ → List ℕ → List ℕ → List ℕ
written at ws xs = take at xs ++ (ws ++ drop (at + length ws) xs)
