use Rattle.std.specs.Prelude.{ℕ, List}
use Rattle.policy_core.specs.Moments.{at, coming}
use Rattle.policy_core.specs.RuleList.{Rules}

-- a policy as its text has it, with its number, and the moment as of which it stands
pub record Numbered : Type 0 where
  pub given : Rules
  pub as_of : ℕ
  pub epoch : ℕ

-- what it is as of that moment
abbrev pub standing : Numbered → Rules
standing numbered = at numbered.given numbered.as_of

-- what it becomes after that
abbrev pub later : Numbered → List Rules
later numbered = coming numbered.given numbered.as_of
