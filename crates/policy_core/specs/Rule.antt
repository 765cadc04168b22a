-- What a rule speaks of.
use Rattle.std.specs.Prelude.{ℕ, Bool, true, ◌==◌, ◌&&◌, int_le}
use Rattle.channel_uri.specs.Pattern.{covers}
use Rattle.policy_core.specs.declared.rule.Principals.{Principals}
use Rattle.policy_core.specs.declared.rule.Principals.TheVariants.{Any, One}
use Rattle.policy_core.specs.declared.rule.Rule.{Rule}
use Rattle.policy_core.specs.Acts.{holds}
use Rattle.policy_core.specs.Question.{Question}

-- the principal is among those spoken of
abbrev pub speaks_of : Principals → ℕ → Bool
speaks_of Any principal = true
speaks_of (One one) principal = one == principal

-- the rule speaks of what is asked: its principal is everybody or the asker, its acts hold the act, its pattern covers
-- the channel, and its range holds the stream
unfoldable pub matches : Rule → Question → Bool
matches rule question =
    speaks_of rule.principals question.principal
    && holds rule.acts question.act
    && covers rule.channel question.channel
    && int_le rule.low question.stream
    && int_le question.stream rule.high
