-- How a subscriber polls its streams. Own rules.
use Rattle.std.specs.Prelude.{ℕ, List, map}
use Rattle.printed_streams.specs.declared.inbox.Image.{Image}

-- a stream by its source, as a pair with a subscription
abbrev pub pair_with : ℕ → Image → ℕ × ℕ
pair_with subscription image = (subscription, image.source)

abbrev pub pairs_with : ℕ → List Image → List (ℕ × ℕ)
pairs_with subscription images = map (pair_with subscription) images
