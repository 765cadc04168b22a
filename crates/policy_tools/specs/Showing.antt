-- The lines that show rules.
use Rattle.std.specs.Prelude.{◌≡◌, ℕ, ◌+◌, List, [], ◌∷◌, ◌++◌, Option, Some, None, codes, map, take}
use Rattle.std.specs.Fmt.{decimal}
use Rattle.moment_words.specs.Date.{IsDateOf}
use Rattle.policy_core.specs.declared.rule.Rule.{Rule}
use Rattle.policy_tools.specs.declared.columns.Line.{Line}

-- the first two cells of each line
abbrev pub heads : List Line → List (List (List ℕ))
heads lines = map (λ line. take 2 line.cells.items) lines

-- for each rule its number, from this one on, and its name
abbrev pub numbered : ℕ → List Rule → List (List (List ℕ))
numbered number [] = []
numbered number (rule ∷ rules) = (decimal number ∷ rule.name ∷ []) ∷ numbered (number + 1) rules

-- ---- when a rule stands, in words

-- from this moment on, by its date
pub record IsFrom (from : ℕ) (text : List ℕ) : Type 0 where
  pub date : List ℕ
  pub is_date : IsDateOf from date
  pub written : text ≡ codes "from " ++ date

-- up to this moment, and not at it
pub record IsUntil (until : ℕ) (text : List ℕ) : Type 0 where
  pub date : List ℕ
  pub is_date : IsDateOf until date
  pub written : text ≡ codes "until " ++ date

-- from the one on, up to the other
pub record IsBetween (from until : ℕ) (text : List ℕ) : Type 0 where
  pub first : List ℕ
  pub last : List ℕ
  pub begins : IsFrom from first
  pub ends : IsUntil until last
  pub written : text ≡ first ++ (codes " " ++ last)

-- the words for the bounds that there are
abbrev pub AreMoments : Option ℕ → Option ℕ → List ℕ → Type 0
AreMoments None None text = text ≡ codes "always"
AreMoments (Some from) None text = IsFrom from text
AreMoments None (Some until) text = IsUntil until text
AreMoments (Some from) (Some until) text = IsBetween from until text
