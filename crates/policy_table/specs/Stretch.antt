-- What decides the requests of an asker and an act from a stream on, and up to which stream it is the same.
use Rattle.std.specs.Prelude.{ℕ, ◌+◌, ℤ, pos, ◌-ℤ◌, Bool, true, false, ◌&&◌, List, [], ◌∷◌, ◌++◌, if◌then◌else◌, int_le}
use Rattle.channel_uri.specs.declared.pattern.Pattern.{Pattern}
use Rattle.channel_uri.specs.declared.pattern.Pattern.TheVariants.{Any, Of}
use Rattle.policy_core.specs.declared.rule.Rule.{Rule}
use Rattle.policy_table.specs.declared.scope.Scope.{Scope}
use Rattle.policy_table.specs.declared.stretch.Stretch.{Stretch}
use Rattle.policy_table.specs.Scope.{is_within, speaks_to}

-- the rule's range holds the stream
abbrev pub in_range : Rule → ℤ → Bool
in_range rule stream = is_within rule.low rule.high stream

-- the pattern is `*`
abbrev pub is_any : Pattern → Bool
is_any Any = true
is_any (Of media keys) = false

-- the lesser of two streams
abbrev pub least : ℤ → ℤ → ℤ
least one other = if int_le one other then one else other

-- the stream up to which, from `low` on and not beyond `high`, the rule's range holds every stream or none
abbrev pub end_at : Rule → ℤ → ℤ → ℤ
end_at rule low high =
    if int_le rule.low low then (if int_le low rule.high then least rule.high high else high) else least (rule.low -ℤ pos 1) high

-- the rule speaks of the scope's asker and act, and of its low stream
abbrev pub speaks_of_low : Rule → Scope → Bool
speaks_of_low rule scope = speaks_to rule scope.asker scope.act && in_range rule scope.low

-- up to a stream the rules at these places speak of each request
pub record Span : Type 0 where
  pub high : ℤ
  pub places : List ℕ

abbrev pub span_of : Stretch → Span
span_of stretch = record { high = stretch.high; places = stretch.rules.items }

-- where the rule speaks of the scope's asker and act, the span ends where its range starts or ends, and has its place if its
-- range holds the low stream
abbrev pub look : Rule → ℕ → Scope → Span → Span
look rule place scope span =
    if speaks_to rule scope.asker scope.act
    then record {
      high = end_at rule scope.low span.high;
      places = span.places ++ (if in_range rule scope.low then place ∷ [] else []);
    }
    else span

-- the rule speaks of each request of the scope on its low stream, so that no rule after it decides one
abbrev pub closes : Rule → Scope → Bool
closes rule scope = speaks_of_low rule scope && is_any rule.channel

-- the same for rules, the first of which is at this place
abbrev pub looked : List Rule → ℕ → Scope → Span → Span
looked [] place scope span = span
looked (rule ∷ rules) place scope span =
    if closes rule scope then look rule place scope span else looked rules (place + 1) scope (look rule place scope span)

-- what decides from the scope's low stream on, and up to where, which is not beyond its high stream
unfoldable pub span_at : List Rule → Scope → Span
span_at rules scope = looked rules 0 scope (record { high = scope.high; places = [] })
