-- How many logs there may be.
use Rattle.std.specs.Prelude.{◌≡◌, ℕ, ◌≤◌, List, length, filter}
use Rattle.stream_registry.specs.declared.row.LogRow.{LogRow}
use Rattle.stream_registry.specs.Origins.{is_published, is_remote}

-- at most 256 publications and 512 images
pub record AreFew (logs : List LogRow) : Type 0 where
  pub published : length (filter is_published logs) ≤ 256
  pub remote : length (filter is_remote logs) ≤ 512

-- they are, and so many are publications
pub record AreCounted (logs : List LogRow) (published : ℕ) : Type 0 where
  pub few : AreFew logs
  pub count : published ≡ length (filter is_published logs)
