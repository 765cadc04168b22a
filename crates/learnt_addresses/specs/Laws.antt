-- What holds of every table of learnt addresses that calls make.
use Rattle.std.specs.Prelude.{◌≡◌, ℕ, ◌≤◌, false, length, List, [], ◌∷◌}
use Rattle.channel_uri.specs.declared.address.Address.{Address}
use Rattle.learnt_addresses.specs.declared.learnt_address.LearntAddress.{LearntAddress}
use Rattle.learnt_addresses.specs.LearntAddresses.{has, none, learnt, forgotten, standing}

-- no address is there twice
abbrev pub AreOnce : List LearntAddress → Type 0
AreOnce [] = Unit {0}
AreOnce (row ∷ rows) = (has rows row.address ≡ false) × AreOnce rows

pub record AreOrderly (rows : List LearntAddress) : Type 0 where
  pub once : AreOnce rows
  pub few : length rows ≤ 32

-- they are orderly at first, and each call leaves orderly ones
pub record StaysOrderly : Type 0 where
  pub none : AreOrderly none
  pub learnt : (now : ℕ) (address : Address) (rows : List LearntAddress) → AreOrderly rows → AreOrderly (learnt now address rows)
  pub forgotten : (address : Address) (rows : List LearntAddress) → AreOrderly rows → AreOrderly (forgotten address rows)
  pub standing : (now timeout : ℕ) (rows : List LearntAddress) → AreOrderly rows → AreOrderly (standing now timeout rows)
