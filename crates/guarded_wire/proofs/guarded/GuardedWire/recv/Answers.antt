use Rattle.std.proofs.Common.{◌≡◌, ℕ, List, [], ◌∷◌, ◌++◌, Ok, Option, Some, refl, arith, subst, take}
use Rattle.channel_uri.specs.declared.address.Address.{Address}
use Rattle.media_wire.specs.Events.{Event, read_event}
use Rattle.media_wire.specs.Letters.{letter}
use Rattle.guarded_wire.proofs.Guarding.{answered, goes_on, one_more, tired}
use Rattle.guarded_wire.proofs.Spending.{judged_goes_on, judged_rules}
use Rattle.guarded_wire.specs.Reads.{IsGuarded}
use Rattle.guarded_wire.proofs.guarded.GuardedWire.recv.Goals as goal

pub returns-in-Ok-None-clause-event : goal.returns-in-Ok-None-clause-event
returns-in-Ok-None-clause-event g c =
    answered g.W.Wire.went _ _ _ _ _ _ _ _ c.loop-dropped.invariant
    (subst (λ (found : Option (ℕ × Address)). (own : List Event) → g.W.Wire.went c.loop-dropped.self.wire own
    → g.W.Wire.went c.recv.new.self (own ++ read_event c.args.local.now c.recv.new.buffer (Ok found) ∷ []))
    c.in-Ok-None.field-0-is c.in-Ok-None.ensures.event) refl

pub returns-in-Err-clause-event : goal.returns-in-Err-clause-event
returns-in-Err-clause-event g c = answered g.W.Wire.went _ _ _ _ _ _ _ _ c.loop-dropped.invariant c.in-Err.ensures.event refl

pub returns-in-None-clause-event : goal.returns-in-None-clause-event
returns-in-None-clause-event g c =
    goes_on g.W.Wire.went _ _ _ _ _ _ _ (letter c.in-Ok-Some.read.1 c.args.local.now (take c.in-Ok-Some.read.0 c.recv.new.buffer))
    c.loop-dropped.invariant
    (subst (λ (found : Option (ℕ × Address)). (own : List Event) → g.W.Wire.went c.loop-dropped.self.wire own
    → g.W.Wire.went c.recv.new.self (own ++ read_event c.args.local.now c.recv.new.buffer (Ok found) ∷ []))
    c.in-Ok-Some.field-0-is c.in-Ok-Some.ensures.event) (judged_goes_on _ _ _ c.in-None.ensures)

pub loop-dropped-preserved : goal.loop-dropped-preserved
loop-dropped-preserved g c =
    one_more g.W.Wire.went _ _ _ _ _ _ _ (letter c.in-Ok-Some.read.1 c.args.local.now (take c.in-Ok-Some.read.0 c.recv.new.buffer)) c.in-Some.cause
    c.loop-dropped.invariant
    (subst (λ (found : Option (ℕ × Address)). (own : List Event) → g.W.Wire.went c.loop-dropped.self.wire own
    → g.W.Wire.went c.recv.new.self (own ++ read_event c.args.local.now c.recv.new.buffer (Ok found) ∷ []))
    c.in-Ok-Some.field-0-is c.in-Ok-Some.ensures.event) c.in-Some.ensures
    (judged_rules c.loop-dropped.self.guard c.judge.new.self c.in-Ok-Some.read.1 (take c.in-Ok-Some.read.0 c.recv.new.buffer) (Some c.in-Some.cause) c.in-Some.ensures)

pub returns-clause-event : goal.returns-clause-event
returns-clause-event g c = λ events is.
    let all : c.loop-dropped._dropped ≡ 1024 = omega (arith, c.loop-dropped-test.false, c.loop-dropped.auto._dropped-end) in
    tired g.W.Wire.went c.loop-dropped.self.wire c.loop-dropped.self.guard events c.args.local.now
    (subst (λ (lost : ℕ). IsGuarded g.W.Wire.went c.loop-dropped.self.wire c.loop-dropped.self.guard lost events) all (c.loop-dropped.invariant.calls events is))
