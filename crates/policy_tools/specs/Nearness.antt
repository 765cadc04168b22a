-- How near a rule comes to a match.
use Rattle.std.specs.Prelude.{ℕ, ◌+◌, ◌==◌, ◌++◌, ◌∷◌, [], Bool, true, false, List, take, if◌then◌else◌}
use Rattle.channel_uri.specs.Pattern.{covers}
use Rattle.policy_core.specs.Acts.{holds}
use Rattle.policy_core.specs.Question.{Question}
use Rattle.policy_core.specs.Rule.{speaks_of}
use Rattle.policy_core.specs.declared.rule.Rule.{Rule}
use Rattle.policy_tools.specs.Explaining.{in_range}

abbrev pub one_unless : Bool → ℕ
one_unless true = 0
one_unless false = 1

-- how many of its fields don't match
abbrev pub distance : Rule → Question → ℕ
distance rule question =
    one_unless (speaks_of rule.principals question.principal) + one_unless (holds rule.acts question.act)
    + one_unless (covers rule.channel question.channel) + one_unless (in_range rule question)

-- the places of the rules that don't match by so many fields, where the first rule stands at this place
abbrev pub places_at : ℕ → List Rule → Question → ℕ → List ℕ
places_at place [] question count = []
places_at place (rule ∷ rules) question count =
    if distance rule question == count then place ∷ places_at (place + 1) rules question count
    else places_at (place + 1) rules question count

-- the places of so many at most: the nearest ones first, and among equals in their order
abbrev pub nearest : List Rule → Question → ℕ → List ℕ
nearest rules question most =
    take most (((places_at 0 rules question 1 ++ places_at 0 rules question 2) ++ places_at 0 rules question 3) ++ places_at 0 rules question 4)
