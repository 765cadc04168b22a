use Rattle.std.specs.Prelude.{ℕ, ℤ}
use Rattle.channel_uri.specs.Channel.{Shape}
use Rattle.policy_core.specs.declared.act.Act.{Act}
use Rattle.policy_core.specs.declared.request.Request.{Request}

-- what a policy is asked: who, what, on which channel and stream
pub record Question : Type 0 where
  pub principal : ℕ
  pub act : Act
  pub channel : Shape
  pub stream : ℤ

-- what a `Request` asks
abbrev pub question_of : Request → Question
question_of request =
    record { principal = request.principal; act = request.act; channel = request.channel.now; stream = request.stream }
