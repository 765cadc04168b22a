-- Over every list of events: a denial is answered only to a request, or to a SETUP's image, that the policy in force denies, and
-- names its rule.
use Rattle.std.specs.Prelude.{◌≡◌, ℕ, false, List, ◌++◌, Option, Some, None, codes}
use Rattle.std.specs.Fmt.{decimal}
use Rattle.std.specs.List.{AllByRecursion}
use Rattle.driver_core.specs.declared.state.event.Event.{Event}
use Rattle.driver_core.specs.declared.state.event.Event.TheVariants.{Command, Setup}
use Rattle.driver_core.specs.declared.state.event.Inputs.{Inputs}
use Rattle.driver_core.specs.declared.state.outcome.Outcome.{Outcome}
use Rattle.driver_core.specs.declared.state.outcome.Response.{Response}
use Rattle.driver_core.specs.declared.state.outcome.Response.TheVariants.{Dropped}
use Rattle.driver_core.specs.declared.state.refusal.Refusal.{Refusal}
use Rattle.driver_core.specs.declared.state.refusal.Refusal.TheVariants.{Denied}
use Rattle.driver_core.specs.declared.state.replies.Reply.{Reply}
use Rattle.driver_core.specs.declared.state.replies.Reply.TheVariants.{Error}
use Rattle.driver_core.specs.declared.state.setup_fault.SetupFault.{SetupFault}
use Rattle.driver_core.specs.declared.state.setup_fault.SetupFault.TheVariants as fault
use Rattle.driver_core.specs.Conduct.{coming_to, outcome_of}
use Rattle.driver_core.specs.Replies.{refusal_text}
use Rattle.driver_core.specs.SettingUp.{wanted_by}
use Rattle.driver_core.specs.State.{State}
use Rattle.driver_core.specs.Verdicts.{IsByPolicy, verdict_on}
use Rattle.driver_laws.specs.Acts.{IsListed}
use Rattle.driver_laws.specs.Events.{AfterAnyEvents}
use Rattle.driver_laws.specs.SettingLaws.{IsDeniedToAll}
use Rattle.channel_uri.specs.declared.address.Address.{Address}
use Rattle.frame_codec.specs.declared.join.Join.{Join}
use Rattle.frame_codec.specs.declared.setup.Setup.{Setup as SetupFrame}
use Rattle.frame_codec.specs.Join.{join_of}
use Rattle.policy_core.specs.declared.verdict.Verdict.{Verdict}
use Rattle.policy_core.specs.Question.{Question}
use Rattle.policy_core.specs.Verdict.{verdict_text}

-- the text of a denial names the rule by its number, or the default
abbrev pub denial_text : Option ℕ → ℕ → List ℕ
denial_text (Some rule) epoch = codes "denied by rule " ++ (decimal rule ++ (codes " in policy " ++ decimal epoch))
denial_text None epoch = codes "denied by default in policy " ++ decimal epoch

-- ---- of a request

-- the event is a request that the policy in force denies by this verdict
pub record IsDeniedOn (s : State) (event : Event) (client correlation : ℕ) (verdict : Verdict) : Type 0 where
  pub moment : ℕ
  pub bytes : List ℕ
  pub question : Question
  pub event_is : event ≡ Command moment client bytes
  pub asks : IsListed s client bytes correlation question
  pub verdict_is : verdict ≡ verdict_on s question
  pub by : IsByPolicy s question verdict
  pub denies : verdict.allow ≡ false
  pub words : refusal_text (Denied verdict) ≡ verdict_text verdict
  pub text : refusal_text (Denied verdict) ≡ denial_text verdict.rule s.epoch

abbrev pub IsNamedRefusal : State → Event → ℕ → ℕ → Refusal → Type 0
IsNamedRefusal s event client correlation (Denied verdict) = IsDeniedOn s event client correlation verdict
IsNamedRefusal s event client correlation refusal = Unit {0}

abbrev pub IsDenialNamed : State → Event → ℕ → Reply → Type 0
IsDenialNamed s event client (Error correlation refusal) = IsNamedRefusal s event client correlation refusal
IsDenialNamed s event client reply = Unit {0}

-- ---- of an image

-- the event is a SETUP, whose image the policy in force denies to each subscription that it fits, and to the one of the
-- lowest number by this verdict
pub record IsImageDeniedOn (s : State) (event : Event) (verdict : Verdict) : Type 0 where
  pub now : ℕ
  pub local : Address
  pub from : Address
  pub setup : SetupFrame
  pub join : Join
  pub event_is : event ≡ Setup now local from setup
  pub join_is : join_of setup ≡ Some join
  pub to_all : IsDeniedToAll s now (wanted_by local from setup join) verdict
  pub denies : verdict.allow ≡ false
  pub text : verdict_text verdict ≡ denial_text verdict.rule s.epoch

abbrev pub IsNamedFault : State → Event → SetupFault → Type 0
IsNamedFault s event (fault.Denied verdict) = IsImageDeniedOn s event verdict
IsNamedFault s event other = Unit {0}

abbrev pub IsResponseNamed : State → Event → Response → Type 0
IsResponseNamed s event (Dropped why) = IsNamedFault s event why
IsResponseNamed s event response = Unit {0}

-- ---- after every list of events

-- each denial that the event answers a client, or is answered by, is so
pub record NamesDenials (s : State) (event : Event) (outcome : Outcome) : Type 0 where
  pub replies : AllByRecursion (λ message. IsDenialNamed s event message.client message.reply) outcome.replies
  pub response : IsResponseNamed s event outcome.response

abbrev pub DenialsAreNamed : Type 0
DenialsAreNamed =
    AfterAnyEvents (λ s. (event : Event) (inputs : Inputs) → NamesDenials (coming_to s event) event (outcome_of s event inputs))
