-- What a new driver is made of.
use Rattle.std.proofs.Common.{◌≡◌, ℕ, zero, suc, List, [], ◌∷◌, ◌++◌, All, length, replicate, Some, refl, sym, subst, ap₂, ◌∙◌, arith, rules}
use Rattle.std.proofs.lemmas.List.Elements.{All-append, All-cons, All-nil, All-pop, All-replicate}
use Rattle.std.proofs.lemmas.Grind.{common_steps}
use Rattle.command_queue.specs.Sent.{Sent, new_sender, new_senders}
use Rattle.command_queue.specs.Taken.{Taken}
use Rattle.driver_core.specs.declared.state.event.Event.{Event}
use Rattle.driver_core.specs.declared.state.peer.Peer.{Peer}
use Rattle.driver_core.specs.declared.state.settings.Settings.{Settings}
use Rattle.driver_core.specs.Soundness.{AreSettings, AreSizes, BeginsSoundly, IsSound}
use Rattle.driver_core.specs.State.{State, opened}
use Rattle.logbook.specs.Pages.{Book}
use Rattle.media_driver.specs.Parts.{AreFresh}
use Rattle.policy_core.specs.RuleList.{Rules}
use Rattle.published_registry.specs.Histories.{History, registry_after, registry_of}
use Rattle.stream_registry.specs.declared.row.LogRow.{LogRow}

-- in a registry that was opened there is no log that could be unsound
opened_sound : (settings : Settings) (policy : Rules) (peers : List Peer) → AreSettings settings →
    IsSound (opened settings policy peers)
unfolding opened
opened_sound settings policy peers sound = record {
  defaults = sound.sizes;
  sizes = All-nil (λ (log : LogRow). AreSizes log.measures);
  numbered = omega arith;
  begins = All-nil BeginsSoundly;
  laid_out = record { within = search rules; apart = search rules };
  subscriptions = omega arith;
}

-- a history without entries is at the registry that was opened
pub begins_sound : (publisher : History) (registry : State) (settings : Settings) (policy : Rules) (peers : List Peer) →
    publisher.opening ≡ registry → publisher.entries ≡ [] → registry ≡ opened settings policy peers →
    AreSettings settings → IsSound (registry_of publisher)
begins_sound publisher registry settings policy peers opening entries is sound =
    subst IsSound (sym (ap₂ registry_after opening entries ∙ is)) (opened_sound settings policy peers sound)

-- passes of one history are of its book
pub ours : (history : History) (count : ℕ) → All (λ (pass : History). pass.book ≡ history.book) (replicate count history)
ours history count = All-replicate (λ (pass : History). pass.book ≡ history.book) count history refl

-- the passes but for the last, and the last
pub pass_fresh : (book : Book) (before after : List History) (pass : History) (senders : List (Sent Event)) →
    before ≡ after ++ pass ∷ [] → AreFresh book before senders → AreFresh book after senders × (pass.book ≡ book)
pass_fresh book before after pass senders is fresh =
    let parts = All-pop (λ (it : History). it.book ≡ book) before after (Some pass) is fresh.ours in
    (record { ours = parts.0; unsent = fresh.unsent }, parts.1)

-- the senders but for the last, and the last
pub sender_fresh : (book : Book) (passes : List History) (before after : List (Sent Event)) (sender : Sent Event) →
    before ≡ after ++ sender ∷ [] → AreFresh book passes before → AreFresh book passes after × (sender.sent ≡ [])
sender_fresh book passes before after sender is fresh =
    let parts = All-pop (λ (it : Sent Event). it.sent ≡ []) before after (Some sender) is fresh.unsent in
    (record { ours = fresh.ours; unsent = parts.0 }, parts.1)

-- new senders have sent nothing
pub unsent : (taker : Taken Event) (total count : ℕ) →
    All (λ (sender : Sent Event). sender.sent ≡ []) (new_senders taker.queue total count)
unsent taker total zero = All-nil _
unsent taker total (suc count) =
    All-append (λ (sender : Sent Event). sender.sent ≡ []) (new_senders taker.queue total count)
    (new_sender taker.queue total count ∷ []) (unsent taker total count)
    (All-cons (λ (sender : Sent Event). sender.sent ≡ []) (new_sender taker.queue total count) [] refl (All-nil _))

pub many : (taker : Taken Event) (total count : ℕ) → length (new_senders {E = Event} taker.queue total count) ≡ count
many taker total zero = refl
many taker total (suc count) =
    grind (arith, common_steps, many taker total count)
