use Rattle.std.specs.Prelude.{◌≡◌, ℕ, List, length, map}
use Rattle.policy_core.specs.Moments.{as_of}
use Rattle.policy_core.specs.declared.rule.Rule.{Rule}
use Rattle.compiled_policy.specs.declared.rule_set.RuleSet.{RuleSet}
use Rattle.compiled_policy.specs.Class.{is_in}
use Rattle.compiled_policy.specs.Group.{is_of}
use Rattle.compiled_policy.specs.Line.{AreStarts, is_on}
use Rattle.compiled_policy.specs.RuleSet.{AreSetsOf}

-- an index as its tables: sets of rules for each class, each group and each interval, and where the intervals start
pub record Tables : Type 0 where
  pub classes : List RuleSet
  pub groups : List RuleSet
  pub intervals : List RuleSet
  pub starts : List ℕ

-- for each class, each group and each interval the set of exactly the rules of that class, of everybody or that group, and
-- whose range holds the interval; an interval starts wherever a rule's range starts or ends
pub record IsIndex (rules : List Rule) (index : Tables) : Type 0 where
  pub starts : AreStarts rules (length rules) index.starts
  pub class_count : length index.classes ≡ 42
  pub group_count : length index.groups ≡ 64
  pub interval_count : length index.intervals ≡ length index.starts
  pub classes : AreSetsOf rules is_in (length rules) index.classes
  pub groups : AreSetsOf rules is_of (length rules) index.groups
  pub intervals : AreSetsOf rules (is_on index.starts) (length rules) index.intervals

-- the index of rules of which these are what they are at some moment
abbrev pub IsIndexAt : List Rule → Tables → Type 0
IsIndexAt standing index =
    (rules : List Rule) × (moment : ℕ) × IsIndex rules index × (standing ≡ map (as_of moment) rules)
