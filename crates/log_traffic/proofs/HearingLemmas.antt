-- What a log does with a status message is what becomes of each whole log that it stands for.
use Rattle.std.proofs.Common.{◌≡◌, ◌∙◌, ℕ, true, false, ap}
use Rattle.frame_codec.specs.declared.status_message.StatusMessage.{StatusMessage}
use Rattle.frame_codec.specs.Flags.{asks_for_setup}
use Rattle.log_traffic.specs.Hearing.{consumed, heard_of}
use Rattle.term_log.specs.declared.ident.Ident.{Ident}
use Rattle.term_log.specs.Log.{Log}
use Rattle.term_log.specs.SenderSteps.{elicited, heard}
use Rattle.term_log.specs.Whole.{Carries}

pub carries_elicited : (now : ℕ) (message : StatusMessage) (old new : Log) → asks_for_setup message.flags ≡ true → Carries old new elicited
    → Carries old new (heard_of now message)
unfolding heard_of elicited
carries_elicited now message old new asks carries = record { on = λ w s. rw (asks) (carries.on w s) }

pub carries_heard : (now : ℕ) (message : StatusMessage) (old new : Log) (position : ℕ) → asks_for_setup message.flags ≡ false
    → position ≡ consumed old.kept.ident message → Carries old new (heard now position message.receiver_window)
    → Carries old new (heard_of now message)
unfolding heard_of heard
carries_heard now message old new position asks is carries =
    record {
      on = λ w s.
          let here : position ≡ consumed w.ident message = is ∙ ap (λ (i : Ident). consumed i message) s.ident in
          rw (asks, ← here) (carries.on w s);
    }
