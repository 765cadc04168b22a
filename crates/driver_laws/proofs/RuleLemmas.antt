-- What the rules ask of a policy is what the table of acts says.
use Rattle.std.proofs.Common.{refl}
use Rattle.driver_laws.specs.ActLaws.{RulesAskAsListed}

pub ask_as_listed : RulesAskAsListed
ask_as_listed = record {
  publications = λ request. refl;
  subscriptions = λ request. refl;
  destinations = λ request. refl;
  counters = λ client fields. refl;
  terminations = λ client. refl;
  offers = λ request. refl;
  pairs = λ principal reader. refl;
  polls = λ request. refl;
  datagrams = λ log to. refl;
  learnt_datagrams = λ s log to. refl;
  joins = λ s from log. refl;
  resends = λ s from log. refl;
  looks = λ principal row. refl;
  looks_at_logs = λ principal log. refl;
}
