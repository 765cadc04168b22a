-- What the policy in force decides on a client's command.
use Rattle.std.specs.Prelude.{ℤ}
use Rattle.driver_core.specs.State.{State}
use Rattle.channel_uri.specs.Channel.{Shape}
use Rattle.client_registry.specs.declared.client.Client.{Client}
use Rattle.policy_core.specs.declared.act.Act.{Act}
use Rattle.policy_core.specs.declared.decision.Decision.{Decision}
use Rattle.policy_core.specs.Question.{Question}
use Rattle.policy_core.specs.Rules.{verdict_of}

-- what the policy is asked: whether the client's principal may do that
abbrev pub question_by : Client → Act → Shape → ℤ → Question
question_by client act channel stream =
    record { principal = client.principal; act = act; channel = channel; stream = stream }

-- the verdict of the policy in force, for those who audit
unfoldable pub decision_by : State → Client → Act → Shape → ℤ → Decision
decision_by s client act channel stream = record {
  principal = client.principal;
  act = act;
  subject = 0;
  stream = stream;
  verdict = verdict_of s.policy s.epoch (question_by client act channel stream);
}
