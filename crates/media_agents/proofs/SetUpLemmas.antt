-- SETUPs that are pushed, one after another.
use Rattle.std.proofs.Common.{◌≡◌, ℕ, List, [], ◌∷◌, ◌++◌, Result, Ok, Err, ap, append_assoc, arith, inl, inr, refl, subst, sym, ◌∙◌, length-append}
use Rattle.std.proofs.lemmas.List.{append-nil}
use Rattle.std.proofs.lemmas.List.Elements.{All-append, All-cons, All-nil}
use Rattle.channel_uri.specs.declared.address.Address.{Address}
use Rattle.command_queue.specs.declared.known.Facts.{Facts}
use Rattle.command_queue.specs.Facts.{WasFull}
use Rattle.command_queue.specs.Sent.{Sent}
use Rattle.driver_core.specs.declared.state.event.Event.{Event}
use Rattle.driver_core.specs.declared.state.event.Event.TheVariants.{Setup as SetUp}
use Rattle.frame_codec.specs.declared.fault.BadPacket.{BadPacket}
use Rattle.frame_codec.specs.declared.setup.Setup.{Setup}
use Rattle.frame_codec.specs.Datagram.{Content, beat, frames, nak, setup, status}
use Rattle.media_agents.specs.SetUps.{GoesOrIsLost, HadNone, IsSetUp, SetsUp, SetsUpAs, SetsUpFew, SetsUpIfRead, SettingUp}

-- a queue that is full has fewer than half of its places free
pub full_has_none : (queue : Sent Event) → (facts : Facts Event) × WasFull queue.total queue.number queue.sent facts → HadNone queue
full_has_none queue full = (1024, omega arith, full)

pub sets_up_none : (now : ℕ) (old : SettingUp) → SetsUp now old old
sets_up_none now old = record {
  more = [];
  pushes = (All-nil (IsSetUp now), ap (λ (sent : List Event). record old.queue { sent = sent }) (sym (append-nil old.queue.sent)));
  left = omega arith;
}

same : (now : ℕ) (old new : SettingUp) → new ≡ old → SetsUp now old new
same now old new is = subst (SetsUp now old) (sym is) (sets_up_none now old)

one : (now : ℕ) (local from : Address) (fields : Setup) (old new : SettingUp) → GoesOrIsLost (SetUp now local from fields) old new → SetsUp now old new
one now local from fields old new (inl goes) = record {
  more = SetUp now local from fields ∷ [];
  pushes = (All-cons (IsSetUp now) (SetUp now local from fields) [] (local, from, fields, refl) (All-nil (IsSetUp now)), goes.queue);
  left = goes.left;
}
one now local from fields old new (inr lost) = same now old new lost.0

of_content : (now : ℕ) (local from : Address) (what : Content) (old new : SettingUp) → SetsUpAs now local from what old new → SetsUp now old new
of_content now local from (frames those) old new is = same now old new is
of_content now local from (beat header) old new is = same now old new is
of_content now local from (nak fields) old new is = same now old new is
of_content now local from (status fields) old new is = same now old new is
of_content now local from (setup fields) old new goes = one now local from fields old new goes

-- those of one datagram
pub sets_up_by : (now : ℕ) (local from : Address) (what : Result Content BadPacket) (old new : SettingUp)
    → SetsUpIfRead now local from what old new → SetsUp now old new
sets_up_by now local from (Ok what) old new is = of_content now local from what old new is
sets_up_by now local from (Err fault) old new is = same now old new is

pub sets_up_more : (now : ℕ) (old between new : SettingUp) → SetsUp now old between → SetsUp now between new → SetsUp now old new
sets_up_more now old between new first then = record {
  more = first.more ++ then.more;
  pushes = (
    All-append (IsSetUp now) first.more then.more first.pushes.0 then.pushes.0,
    then.pushes.1 ∙ ap (λ (queue : Sent Event). record queue { sent = queue.sent ++ then.more }) first.pushes.1
        ∙ ap (λ (sent : List Event). record old.queue { sent = sent }) (append_assoc old.queue.sent first.more then.more),
  );
  left = omega (arith, first.left, then.left, length-append first.more then.more);
}

-- those of a turn, which may push 64
pub few_in_turn : (now : ℕ) (before begun ended : SettingUp) (old : Sent Event) → begun ≡ record before { left = 64 } → before.queue ≡ old
    → SetsUp now begun ended → SetsUpFew now old ended.queue
few_in_turn now before begun ended old begins was pushed = record {
  more = pushed.more;
  pushes = (
    pushed.pushes.0,
    pushed.pushes.1 ∙ ap (λ (queue : Sent Event). record queue { sent = queue.sent ++ pushed.more }) (ap (λ (s : SettingUp). s.queue) begins ∙ was),
  );
  few = omega (arith, pushed.left, ap (λ (s : SettingUp). s.left) begins);
}
