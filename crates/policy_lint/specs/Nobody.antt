-- What a policy denies to whoever asks.
use Rattle.std.specs.Prelude.{◌≡◌, ◌==◌, ℕ, ℤ, Bool, true, false, List, codes}
use Rattle.std.specs.List.{list_any}
use Rattle.channel_uri.specs.Channel.{Shape}
use Rattle.channel_uri.specs.Keys.{value_at}
use Rattle.channel_uri.specs.Place.{is_text}
use Rattle.policy_core.specs.declared.act.Act.{Act}
use Rattle.policy_core.specs.declared.act.Act.TheVariants.{Publish, PublishExclusive, Subscribe, Spy, Destination, Counter, Terminate, Offer, Image, Receive, Send, Retransmit, Join, List as ListOf}
use Rattle.policy_core.specs.declared.rule.Principals.{Principals}
use Rattle.policy_core.specs.declared.rule.Principals.TheVariants.{Any, One}
use Rattle.policy_core.specs.declared.rule.Rule.{Rule}
use Rattle.policy_core.specs.Moments.{at}
use Rattle.policy_core.specs.RuleList.{Rules}
use Rattle.policy_core.specs.Rules.{verdict_of}
use Rattle.channel_uri.specs.declared.media.Media.TheVariants.{Udp}
use Rattle.policy_lint.specs.declared.unmet.Lack.{Lack}
use Rattle.policy_lint.specs.declared.unmet.Lack.TheVariants.{Other, Resend}
use Rattle.policy_lint.specs.declared.unmet.Unmet.{Unmet}

-- as policy 1 it allows the principal the act on that channel and stream
abbrev pub may : Rules → Act → Shape → ℤ → ℕ → Bool
may policy act channel stream principal =
    (verdict_of policy 1 (record { principal = principal; act = act; channel = channel; stream = stream })).allow

-- it does so to nobody
abbrev pub NobodyMay : Rules → Act → Shape → ℤ → Type 0
NobodyMay policy act channel stream = (principal : ℕ) → may policy act channel stream principal ≡ false

-- the principal is named, and not spoken of with everybody
abbrev pub names : ℕ → Principals → Bool
names principal Any = false
names principal (One one) = one == principal

-- some rule names the principal
abbrev pub is_named : List Rule → ℕ → Bool
is_named rules principal = list_any (λ rule. names principal rule.principals) rules

-- ---- ends that nobody may be

-- whoever does the act there is alone: nobody joins a publication that learns its destinations, or nobody publishes what is to be
-- joined
abbrev pub IsAlone : Rules → Act → Shape → ℤ → Type 0
IsAlone policy Publish channel stream = NobodyMay policy Join channel stream
IsAlone policy PublishExclusive channel stream = NobodyMay policy Join channel stream
IsAlone policy Join channel stream = NobodyMay policy Publish channel stream × NobodyMay policy PublishExclusive channel stream
IsAlone policy Subscribe channel stream = ⊥
IsAlone policy Spy channel stream = ⊥
IsAlone policy Destination channel stream = ⊥
IsAlone policy Counter channel stream = ⊥
IsAlone policy Terminate channel stream = ⊥
IsAlone policy Offer channel stream = ⊥
IsAlone policy Image channel stream = ⊥
IsAlone policy Receive channel stream = ⊥
IsAlone policy Send channel stream = ⊥
IsAlone policy Retransmit channel stream = ⊥
IsAlone policy ListOf channel stream = ⊥

-- what nobody may do: be the other end of a publication that learns its destinations; or ask for what is lost on its way
abbrev pub Lacks : Lack → Rules → Act → Shape → ℤ → Type 0
Lacks Other policy act channel stream = IsAlone policy act channel stream
Lacks Resend policy act channel stream = NobodyMay policy Retransmit channel stream

-- where that is looked for: on channels whose publications learn their destinations; on channels over udp
abbrev pub IsThere : Lack → Shape → Type 0
IsThere Other channel = is_text (codes "dynamic") (value_at (codes "control-mode") channel.keys) ≡ true
IsThere Resend channel = channel.media ≡ Udp

-- the principal may do the act on the channel and stream, and nobody may do what is lacking there
pub record IsUnmetAt (policy : Rules) (lack : Lack) (act : Act) (principal : ℕ) (channel : Shape) (stream : ℤ) : Type 0 where
  pub there : IsThere lack channel
  pub granted : may policy act channel stream principal ≡ true
  pub lacking : Lacks lack policy act channel stream

-- so it is at the moment that is named
abbrev pub IsUnmet : Rules → Unmet → Type 0
IsUnmet policy unmet = IsUnmetAt (at policy unmet.moment) unmet.lack unmet.act unmet.principal unmet.channel unmet.stream
