-- Why a rule doesn't match a request, and why a policy decides as it does.
use Rattle.std.specs.Prelude.{◌≡◌, ◌+◌, ◌≤◌, ◌&&◌, ◌==◌, ℕ, Bool, true, false, List, Option, Some, None, length, slice_get, int_le}
use Rattle.channel_uri.specs.Channel.{Shape}
use Rattle.channel_uri.specs.Keys.{Pair, value_at}
use Rattle.channel_uri.specs.Media.{media_number}
use Rattle.channel_uri.specs.Pattern.{covers, is_fit}
use Rattle.channel_uri.specs.declared.pattern.Pattern.{Pattern}
use Rattle.channel_uri.specs.declared.pattern.Pattern.TheVariants.{Any, Of}
use Rattle.policy_core.specs.Acts.{holds}
use Rattle.policy_core.specs.Question.{Question}
use Rattle.policy_core.specs.Rule.{matches, speaks_of}
use Rattle.policy_core.specs.RuleList.{Rules}
use Rattle.policy_core.specs.Rules.{verdict_of}
use Rattle.policy_core.specs.declared.rule.Rule.{Rule}
use Rattle.policy_core.specs.declared.verdict.Verdict.{Verdict}
use Rattle.policy_tools.specs.declared.explaining.ChannelMiss.{ChannelMiss}
use Rattle.policy_tools.specs.declared.explaining.ChannelMiss.TheVariants.{Key, Medium}
use Rattle.policy_tools.specs.declared.explaining.Miss.{Miss}
use Rattle.policy_tools.specs.declared.explaining.Miss.TheVariants.{Principal, Act, Channel, Stream}

-- the rule's range holds the stream
abbrev pub in_range : Rule → Question → Bool
in_range rule question = int_le rule.low question.stream && int_le question.stream rule.high

-- this field of the rule doesn't match, and those before it do
abbrev pub IsFirstMiss : Rule → Question → Miss → Type 0
IsFirstMiss rule question Principal = speaks_of rule.principals question.principal ≡ false
IsFirstMiss rule question Act = (speaks_of rule.principals question.principal ≡ true) × (holds rule.acts question.act ≡ false)
IsFirstMiss rule question Channel =
    (speaks_of rule.principals question.principal ≡ true)
    × (holds rule.acts question.act ≡ true)
    × (covers rule.channel question.channel ≡ false)
IsFirstMiss rule question Stream =
    (speaks_of rule.principals question.principal ≡ true)
    × (holds rule.acts question.act ≡ true)
    × (covers rule.channel question.channel ≡ true)
    × (in_range rule question ≡ false)

-- each of these rules doesn't match by this field, and the rule after them does, unless they are all
pub record AreMisses (rules : List Rule) (question : Question) (misses : List Miss) : Type 0 where
  pub few : length misses ≤ length rules
  pub each : (at : ℕ) (rule : Rule) (miss : Miss) → slice_get rules at ≡ Some rule → slice_get misses at ≡ Some miss → IsFirstMiss rule question miss
  pub then_matches : (rule : Rule) → slice_get rules (length misses) ≡ Some rule → matches rule question ≡ true

-- so many rules stand before the one that decides
abbrev pub IsCount : Rules → Option ℕ → ℕ → Type 0
IsCount policy (Some rule) count = rule ≡ count + 1
IsCount policy None count = length policy.rules ≡ count

-- the verdict, and each rule before the one that decides with its first field that doesn't match; where none decides, all
-- rules
pub record Explains (policy : Rules) (question : Question) (verdict : Verdict) (misses : List Miss) : Type 0 where
  pub verdict_is : verdict ≡ verdict_of policy 1 question
  pub each : (at : ℕ) (rule : Rule) (miss : Miss) → slice_get policy.rules at ≡ Some rule → slice_get misses at ≡ Some miss → IsFirstMiss rule question miss
  pub all : IsCount policy verdict.rule (length misses)

-- ---- of a channel

-- a part of the pattern that the channel doesn't fit: the medium; or, where that is the same, a key that the pattern has
-- and to which the channel has no value that fits
abbrev pub IsUnfit : Pattern → Shape → ChannelMiss → Type 0
IsUnfit Any channel miss = ⊥
IsUnfit (Of media wanted) channel Medium = (media_number media == media_number channel.media) ≡ false
IsUnfit (Of media wanted) channel (Key key) =
    ((media_number media == media_number channel.media) ≡ true)
    × ((value : List ℕ) × (value_at key.now wanted ≡ Some value) × (is_fit value (value_at key.now channel.keys) ≡ false))

-- the channel's value fits what the pattern wants at the key, or it wants nothing there
abbrev pub fits_from : Option (List ℕ) → Option (List ℕ) → Bool
fits_from None value = true
fits_from (Some wanted) value = is_fit wanted value

abbrev pub key_fits : List Pair → List Pair → List ℕ → Bool
key_fits wanted keys key = fits_from (value_at key wanted) (value_at key keys)
