-- What is served of each of two worlds is served of both.
use Rattle.std.proofs.Common.{◌≡◌, ℕ, Bool, true, if◌then◌else◌, List, [], ◌∷◌, ◌++◌, length, Option, Some, None, refl, sym, ap, ap₂, ◌∙◌, subst}
use Rattle.channel_uri.specs.declared.address.Address.{Address}
use Rattle.log_steps.specs.declared.answer.Answer.{Answer}
use Rattle.log_steps.specs.declared.answer.Answer.TheVariants.{BadStep}
use Rattle.driver_steps.specs.declared.step.Step.TheVariants.{Packet}
use Rattle.driver_world.specs.declared.reading.Reading.{Reading}
use Rattle.driver_world.specs.Standing.{Held, Serves}
use Rattle.two_drivers.specs.Drivers.{is_quiet, numbered}
use Rattle.two_drivers.specs.Sent.{Datagram, sent_by}
use Rattle.two_drivers.specs.Standing.{AnswerBoth, HeldBoth, RunBoth, ServesBoth, StandForEnds, held_both, held_step}
use Rattle.two_drivers.specs.Memory.{HasMemoryOfSecond, HaveMemoryOfBoth}
use Rattle.two_drivers.specs.declared.pair_step.PairStep.{PairStep}
use Rattle.two_drivers.specs.declared.pair_step.PairStep.TheVariants.{A, B, Deliver}
use Rattle.two_drivers.specs.Worlds.{AreAnswersOfBoth, IsAnswerOfSecond, TwoEnds, after_both, after_second, coming, end_of_both, sent_of, sent_of_all, step_of_second}
use Rattle.two_drivers.proofs.SoFarLemmas.{sent_push}

-- a step of the first
pub first_serves : (old : HeldBoth) (new : Held) (reading : Reading) (answer : Answer) → Serves old.first new reading answer →
    ServesBoth old (record { first = new; second = old.second; sent = old.sent ++ sent_by answer }) (A reading) answer
first_serves old new reading answer served = record {
  on = λ e stands.
      (let there = served.on e.first stands.first in
      (there.0, record { first = there.1; second = stands.second; sent = ap (λ (sent : List Datagram). sent ++ sent_by answer) stands.sent }));
  without_memory = λ e stands. served.without_memory e.first stands.first;
}

-- what is held says which step the second takes
step_held : (held : HeldBoth) (e : TwoEnds) (step : PairStep) → StandForEnds held e → step_of_second e step ≡ held_step held step
step_held held e (A reading) stands = refl
step_held held e (B reading) stands = refl
step_held held e (Deliver sent now view) stands =
    ap₂ (λ (from : Address) (o : Option Datagram). coming from now view o)
    (ap (λ s. s.settings.send_address) (sym stands.first.driver.registry)) (ap (numbered sent) (sym stands.sent))

second_on : (old : HeldBoth) (new : Held) (reading : Reading) (answer : Answer) (e : TwoEnds) (o : Option Reading) → o ≡ Some reading →
    Serves old.second new reading answer → StandForEnds old e → IsAnswerOfSecond e o answer × StandForEnds (record old { second = new }) (after_second e o answer)
second_on old new reading answer e o is served stands =
    let there = served.on e.second stands.second in
    subst (λ (x : Option Reading). IsAnswerOfSecond e x answer × StandForEnds (record old { second = new }) (after_second e x answer)) (sym is)
    (there.0, record { first = stands.first; second = there.1; sent = stands.sent })

second_memory : (old : HeldBoth) (new : Held) (reading : Reading) (answer : Answer) (e : TwoEnds) (o : Option Reading) → o ≡ Some reading →
    Serves old.second new reading answer → StandForEnds old e → HasMemoryOfSecond e o answer
second_memory old new reading answer e o is served stands =
    subst (λ (x : Option Reading). HasMemoryOfSecond e x answer) (sym is) (served.without_memory e.second stands.second)

-- a step of the second, its own or by what comes
pub second_serves : (old : HeldBoth) (new : Held) (step : PairStep) (reading : Reading) (answer : Answer) → held_step old step ≡ Some reading →
    Serves old.second new reading answer → ServesBoth old (record old { second = new }) step answer
second_serves old new (A own) reading answer is served = absurd (cc is)
second_serves old new (B own) reading answer is served = record {
  on = λ e stands.
      second_on old new reading answer e (step_of_second e (B own)) (step_held old e (B own) stands ∙ is) served stands;
  without_memory = λ e stands.
      second_memory old new reading answer e (step_of_second e (B own)) (step_held old e (B own) stands ∙ is) served stands;
}
second_serves old new (Deliver sent now view) reading answer is served = record {
  on = λ e stands.
      second_on old new reading answer e (step_of_second e (Deliver sent now view)) (step_held old e (Deliver sent now view) stands ∙ is) served stands;
  without_memory = λ e stands.
      second_memory old new reading answer e (step_of_second e (Deliver sent now view)) (step_held old e (Deliver sent now view) stands ∙ is) served stands;
}

-- its own, if nothing comes by it
pub own_serves : (old : HeldBoth) (new : Held) (reading : Reading) (answer : Answer) → is_quiet reading.step ≡ true →
    Serves old.second new reading answer → ServesBoth old (record old { second = new }) (B reading) answer
own_serves old new reading answer quiet served =
    second_serves old new (B reading) reading answer (ap (λ (b : Bool). if b then Some reading else None) quiet) served

-- by the datagram that was found
pub come_serves : (old : HeldBoth) (new : Held) (sent now : ℕ) (view : Option ℕ) (datagram : Datagram) (answer : Answer) →
    Some datagram ≡ numbered sent old.sent →
    Serves old.second new (record { view = view; step = Packet now datagram.to old.first.driver.registry.settings.send_address datagram.bytes }) answer →
    ServesBoth old (record old { second = new }) (Deliver sent now view) answer
come_serves old new sent now view datagram answer found served =
    second_serves old new (Deliver sent now view)
    (record { view = view; step = Packet now datagram.to old.first.driver.registry.settings.send_address datagram.bytes }) answer
    (ap (coming old.first.driver.registry.settings.send_address now view) (sym found)) served

none_on : (old : HeldBoth) (e : TwoEnds) (o : Option Reading) → o ≡ None → StandForEnds old e →
    IsAnswerOfSecond e o BadStep × StandForEnds old (after_second e o BadStep)
none_on old e o is stands =
    subst (λ (x : Option Reading). IsAnswerOfSecond e x BadStep × StandForEnds old (after_second e x BadStep)) (sym is) (refl, stands)

none_memory : (e : TwoEnds) (o : Option Reading) → o ≡ None → HasMemoryOfSecond e o BadStep
none_memory e o is = subst (λ (x : Option Reading). HasMemoryOfSecond e x BadStep) (sym is) tt

-- one that it does not take
pub own_refused : (old : HeldBoth) (reading : Reading) → held_step old (B reading) ≡ None → ServesBoth old old (B reading) BadStep
own_refused old reading is = record {
  on = λ e stands. none_on old e (step_of_second e (B reading)) (step_held old e (B reading) stands ∙ is) stands;
  without_memory = λ e stands. none_memory e (step_of_second e (B reading)) (step_held old e (B reading) stands ∙ is);
}

pub none_comes : (old : HeldBoth) (sent now : ℕ) (view : Option ℕ) → held_step old (Deliver sent now view) ≡ None → ServesBoth old old (Deliver sent now view) BadStep
none_comes old sent now view is = record {
  on = λ e stands. none_on old e (step_of_second e (Deliver sent now view)) (step_held old e (Deliver sent now view) stands ∙ is) stands;
  without_memory = λ e stands. none_memory e (step_of_second e (Deliver sent now view)) (step_held old e (Deliver sent now view) stands ∙ is);
}

-- ---- runs

both_append : (e : TwoEnds) (steps more : List PairStep) (answers given : List Answer) → AreAnswersOfBoth e steps answers →
    AreAnswersOfBoth (end_of_both e steps answers) more given → AreAnswersOfBoth e (steps ++ more) (answers ++ given)
both_append e [] more [] given are next = next
both_append e [] more (answer ∷ answers) given are next = absurd are
both_append e (step ∷ steps) more [] given are next = absurd are
both_append e (step ∷ steps) more (answer ∷ answers) given are next =
    (are.0, both_append (after_both e step answer) steps more answers given are.1 next)

end_append : (e : TwoEnds) (steps more : List PairStep) (answers given : List Answer) → AreAnswersOfBoth e steps answers →
    end_of_both e (steps ++ more) (answers ++ given) ≡ end_of_both (end_of_both e steps answers) more given
end_append e [] more [] given are = refl
end_append e [] more (answer ∷ answers) given are = absurd are
end_append e (step ∷ steps) more [] given are = absurd are
end_append e (step ∷ steps) more (answer ∷ answers) given are = end_append (after_both e step answer) steps more answers given are.1

both_memory : (e : TwoEnds) (steps more : List PairStep) (answers given : List Answer) → AreAnswersOfBoth e steps answers →
    HaveMemoryOfBoth e steps answers → HaveMemoryOfBoth (end_of_both e steps answers) more given →
    HaveMemoryOfBoth e (steps ++ more) (answers ++ given)
both_memory e [] more [] given are have next = next
both_memory e [] more (answer ∷ answers) given are have next = absurd are
both_memory e (step ∷ steps) more [] given are have next = absurd are
both_memory e (step ∷ steps) more (answer ∷ answers) given are have next =
    (have.0, both_memory (after_both e step answer) steps more answers given are.1 have.1 next)

pub both_none : (held : HeldBoth) → RunBoth held held [] []
both_none held = record { on = λ e stands. (tt, stands); without_memory = λ e stands. tt }

-- one more step
pub both_more : (old middle new : HeldBoth) (steps : List PairStep) (step : PairStep) (answers : List Answer) (answer : Answer) →
    RunBoth old middle steps answers → ServesBoth middle new step answer → RunBoth old new (steps ++ step ∷ []) (answers ++ answer ∷ [])
both_more old middle new steps step answers answer ran served = record {
  on = λ e stands.
      (let so_far = ran.on e stands in
      let last = served.on (end_of_both e steps answers) so_far.1 in (
        both_append e steps (step ∷ []) answers (answer ∷ []) so_far.0 (last.0, tt),
        rw (end_append e steps (step ∷ []) answers (answer ∷ []) so_far.0) last.1,
      ));
  without_memory = λ e stands.
      (let so_far = ran.on e stands in
      both_memory e steps (step ∷ []) answers (answer ∷ []) so_far.0 (ran.without_memory e stands)
      (served.without_memory (end_of_both e steps answers) so_far.1, tt));
}

-- the answers of all
pub answer_both : (old new : HeldBoth) (steps : List PairStep) (answers : List Answer) → RunBoth old new steps answers → AnswerBoth old steps answers
answer_both old new steps answers ran = record {
  on = λ e stands. (let both = ran.on e stands in both.0);
  without_memory = ran.without_memory;
}

-- the answer of one more step, of worlds that keep nothing of what was sent but the answers
pub both_pushed : (old : HeldBoth) (first second later other : Held) (steps : List PairStep) (step : PairStep) (answers : List Answer) (answer : Answer) →
    length steps ≡ length answers → RunBoth old (held_both first second (sent_of_all steps answers)) steps answers →
    ServesBoth (held_both first second (sent_of_all steps answers)) (held_both later other (sent_of_all steps answers ++ sent_of step answer)) step answer →
    RunBoth old (held_both later other (sent_of_all (steps ++ step ∷ []) (answers ++ answer ∷ []))) (steps ++ step ∷ []) (answers ++ answer ∷ [])
both_pushed old first second later other steps step answers answer same ran served =
    rw (sent_push steps answers step answer same)
    (both_more old (held_both first second (sent_of_all steps answers)) (held_both later other (sent_of_all steps answers ++ sent_of step answer)) steps step
    answers answer ran served)
