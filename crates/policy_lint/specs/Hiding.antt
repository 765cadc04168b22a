-- When a rule of a policy never decides, since rules before it take each request from it.
use Rattle.std.specs.Prelude.{◌≡◌, ◌≢◌, ℕ, ◌<◌, ◌&&◌, Bool, true, ℤ, ◌≤ℤ◌, List, Some, map, slice_get}
use Rattle.std.specs.List.{Contains}
use Rattle.policy_core.specs.declared.act.Act.{Act}
use Rattle.policy_core.specs.declared.rule.Rule.{Rule}
use Rattle.policy_core.specs.Acts.{holds}
use Rattle.policy_core.specs.Moments.{at, stands_at}
use Rattle.policy_core.specs.Question.{Question}
use Rattle.policy_core.specs.Rule.{matches, speaks_of}
use Rattle.policy_core.specs.RuleList.{Rules}
use Rattle.policy_core.specs.Rules.{verdict_of}
use Rattle.policy_lint.specs.Lasting.{outlasts}
use Rattle.policy_lint.specs.declared.hiding.Hidden.{Hidden}
use Rattle.policy_tools.specs.Sharing.{is_over}
use Rattle.policy_tools.specs.Wider.{IsWider}

-- at no moment a request has the rule of this number, counted from 1, as its verdict's rule
pub record NeverDecides (policy : Rules) (number : ℕ) : Type 0 where
  pub never : (moment epoch : ℕ) (question : Question) → (verdict_of (at policy moment) epoch question).rule ≢ Some number

-- one of the rules at these places, which count from 0, stands at the moment and matches the request
pub record IsTaken (rules : List Rule) (places : List ℕ) (moment : ℕ) (question : Question) : Type 0 where
  pub index : ℕ
  pub place : ℕ
  pub rule : Rule
  pub listed : slice_get places index ≡ Some place
  pub found : slice_get rules place ≡ Some rule
  pub stands : stands_at rule moment ≡ true
  pub is_match : matches rule question ≡ true

-- each of these places is before that one
abbrev pub AreBefore : List ℕ → ℕ → Type 0
AreBefore places at = (index place : ℕ) → slice_get places index ≡ Some place → place < at

-- the rules at these places come before the rule at that place, and at each moment at which it stands one of them stands and
-- matches whatever it matches
pub record IsHiddenBy (rules : List Rule) (place : ℕ) (places : List ℕ) : Type 0 where
  pub before : AreBefore places place
  pub taken : (moment : ℕ) (question : Question) (rule : Rule) → slice_get rules place ≡ Some rule → stands_at rule moment ≡ true →
      matches rule question ≡ true → IsTaken rules places moment question

-- ---- one rule that hides another one by itself

-- the wide rule stands whenever the narrow one does, and each part of it is as wide
abbrev pub hides : Rule → Rule → Bool
hides wide narrow = outlasts wide narrow && is_over wide narrow

-- the rule at this place is before the one at that place, and hides it so
pub record IsHider (rules : List Rule) (place at : ℕ) : Type 0 where
  pub wide : Rule
  pub narrow : Rule
  pub before : place < at
  pub first : slice_get rules place ≡ Some wide
  pub second : slice_get rules at ≡ Some narrow
  pub hidden : hides wide narrow ≡ true

-- of the rules before this place each that one rule hides by itself is found
abbrev pub AreFound : List Rule → List Hidden → ℕ → Type 0
AreFound rules found count = (at place : ℕ) → at < count → IsHider rules place at → Contains (map (λ hidden. hidden.at) found) at

-- ---- how it is found

-- the wide rule stands whenever the narrow one does, everybody of whom the narrow one speaks is spoken of by the wide one, and
-- each channel that the narrow one's pattern covers is covered by the wide one's
pub record IsOver (wide narrow : Rule) : Type 0 where
  pub moments : (moment : ℕ) → stands_at narrow moment ≡ true → stands_at wide moment ≡ true
  pub principals : (principal : ℕ) → speaks_of narrow.principals principal ≡ true → speaks_of wide.principals principal ≡ true
  pub channels : IsWider wide.channel narrow.channel

-- so it is of the rules at these places
abbrev pub IsOverAt : List Rule → ℕ → ℕ → Type 0
IsOverAt rules place at = (wide narrow : Rule) → slice_get rules place ≡ Some wide → slice_get rules at ≡ Some narrow → IsOver wide narrow

-- each of these places is before that one, with a rule that is over the one there
pub record AreOver (rules : List Rule) (places : List ℕ) (at : ℕ) : Type 0 where
  pub before : AreBefore places at
  pub over : (index place : ℕ) → slice_get places index ≡ Some place → IsOverAt rules place at

-- the rule holds the act, and its range the stream
pub record Holds (rule : Rule) (act : Act) (stream : ℤ) : Type 0 where
  pub act_held : holds rule.acts act ≡ true
  pub low : rule.low ≤ℤ stream
  pub high : stream ≤ℤ rule.high

-- one of the rules at these places does
pub record IsHeld (rules : List Rule) (places : List ℕ) (act : Act) (stream : ℤ) : Type 0 where
  pub index : ℕ
  pub place : ℕ
  pub rule : Rule
  pub listed : slice_get places index ≡ Some place
  pub stands : slice_get rules place ≡ Some rule
  pub held : Holds rule act stream

-- for each stream of the rule at that place one of the rules at these places holds the act
abbrev pub ActIsHeld : List Rule → List ℕ → ℕ → Act → Type 0
ActIsHeld rules places at act =
    (rule : Rule) (stream : ℤ) → slice_get rules at ≡ Some rule → holds rule.acts act ≡ true → rule.low ≤ℤ stream → stream ≤ℤ rule.high → IsHeld rules places act stream
