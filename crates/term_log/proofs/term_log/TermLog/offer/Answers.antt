-- What was decided is appended, and the log stands for one message or pad more.
use Rattle.std.proofs.Common.{rules, ◌≡◌, ℕ, ◌%◌, ap, List, ◌++◌, ◌∷◌, [], sym, subst, arith}
use Rattle.term_log.specs.declared.offer.Offer.{Offer}
use Rattle.term_log.specs.Ident.{IsIdent}
use Rattle.term_log.specs.Frames.{Frame, pad}
use Rattle.term_log.specs.Kept.{Kept, StandsFor, rest_of, after_frames}
use Rattle.term_log.specs.Log.{Log, frames_of, appended, offer_of}
use Rattle.term_log.proofs.Nears.{log_grows}
use Rattle.term_log.proofs.Standing.{offer_stands}
use Rattle.term_log.proofs.Stands.{message_stands, pad_stands}
use Rattle.term_log.proofs.term_log.TermLog.offer.Goals as goal

pub invariant_of-self : goal.invariant_of-self
invariant_of-self c =
    let s = c.self.inside in
    let l : Log = record { kept = s.appender; pairs = s.pairs; sender = s.sender } in
    let room = rw (c.in-At.is) at c.decide-answer.ensures.room in
    let here = rw (← c.self.view_is) at room in
    log_grows l c.append_message.new.self (frames_of s.appender c.args.message.now) c.self.invariant c.append_message.ensures here.2 here.3 here.4

pub invariant_of-self-in-AdminAction : goal.invariant_of-self-in-AdminAction
invariant_of-self-in-AdminAction c =
    let s = c.self.inside in
    let l : Log = record { kept = s.appender; pairs = s.pairs; sender = s.sender } in
    let room = rw (c.in-AdminAction.is) at c.decide-answer.ensures.room in
    let here = rw (← c.self.view_is) at room in
    log_grows l c.pad.new.self (pad (rest_of s.appender) ∷ []) c.self.invariant c.pad.ensures (omega (arith, here.0)) (omega (arith, here.1)) here.2

pub returns-in-At-clause-stands : goal.returns-in-At-clause-stands
returns-in-At-clause-stands c frames stands =
    let s = c.self.inside in
    let message : List ℕ = c.args.message.now in
    let kept : c.args.self.now.kept ≡ s.appender = sym (ap (λ (l : Log). l.kept) c.self.view_is) in
    let sound = subst (λ (k : Kept). IsIdent k.ident) kept c.decide-answer.ensures.sound in
    let here = subst (λ (k : Kept). StandsFor k frames) kept stands in
    let room = rw (← c.self.view_is) at (rw (c.in-At.is) at c.decide-answer.ensures.room) in
    let more : StandsFor c.append_message.new.self (frames ++ frames_of s.appender message) =
    message_stands s.appender c.append_message.new.self message frames sound room.1 c.append_message.ensures here in
    subst (λ (o : Offer). StandsFor c.append_message.new.self (frames ++ appended o c.args.self.now.kept message)) (sym c.in-At.is)
    (subst (λ (k : Kept). StandsFor c.append_message.new.self (frames ++ frames_of k message)) (sym kept) more)

pub returns-in-AdminAction-clause-stands : goal.returns-in-AdminAction-clause-stands
returns-in-AdminAction-clause-stands c frames stands =
    let s = c.self.inside in
    let message : List ℕ = c.args.message.now in
    let kept : c.args.self.now.kept ≡ s.appender = sym (ap (λ (l : Log). l.kept) c.self.view_is) in
    let sound = subst (λ (k : Kept). IsIdent k.ident) kept c.decide-answer.ensures.sound in
    let aligned = subst (λ (k : Kept). k.tail % 32 ≡ 0) kept c.decide-answer.ensures.aligned in
    let here = subst (λ (k : Kept). StandsFor k frames) kept stands in
    let more : StandsFor c.pad.new.self (frames ++ pad (rest_of s.appender) ∷ []) =
    pad_stands s.appender c.pad.new.self frames sound aligned c.pad.ensures here in
    subst (λ (o : Offer). StandsFor c.pad.new.self (frames ++ appended o c.args.self.now.kept message)) (sym c.in-AdminAction.is)
    (subst (λ (k : Kept). StandsFor c.pad.new.self (frames ++ pad (rest_of k) ∷ [])) (sym kept) more)

pub returns-in-At-clause-whole : goal.returns-in-At-clause-whole
returns-in-At-clause-whole c =
    let s = c.self.inside in
    let new : Log = record { kept = c.append_message.new.self; pairs = s.pairs; sender = s.sender } in
    let exact : new ≡ record c.args.self.now { kept = after_frames c.args.self.now.kept (appended c.decide-answer.result c.args.self.now.kept c.args.message.now) } = search rules in
    offer_stands c.args.self.now new c.args.message.now c.decide-answer.result c.decide-answer.ensures.answer exact (returns-in-At-clause-stands c)

pub returns-in-AdminAction-clause-whole : goal.returns-in-AdminAction-clause-whole
returns-in-AdminAction-clause-whole c =
    let s = c.self.inside in
    let new : Log = record { kept = c.pad.new.self; pairs = s.pairs; sender = s.sender } in
    let exact : new ≡ record c.args.self.now { kept = after_frames c.args.self.now.kept (appended c.decide-answer.result c.args.self.now.kept c.args.message.now) } = search rules in
    offer_stands c.args.self.now new c.args.message.now c.decide-answer.result c.decide-answer.ensures.answer exact (returns-in-AdminAction-clause-stands c)

pub returns-in-TooLong : goal.returns-in-TooLong
returns-in-TooLong c =
    let old : Log = c.args.self.now in
    let message : List ℕ = c.args.message.now in
    let answer : Offer = c.decide-answer.result in
    let is : answer ≡ offer_of old message = c.decide-answer.ensures.answer in
    let exact : old ≡ record old { kept = after_frames old.kept (appended answer old.kept message) } = search rules in
    let stands : (frames : List Frame) → StandsFor old.kept frames → StandsFor old.kept (frames ++ appended answer old.kept message) = λ frames s. search rules in
    record { answer = is; exact = exact; stands = stands; whole = offer_stands old old message answer is exact stands }
