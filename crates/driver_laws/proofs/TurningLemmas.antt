-- What is reported of pairs and images around what an event's own rule does.
use Rattle.std.proofs.Common.{◌≡◌, ℕ, not, ◌||◌, List, [], ◌∷◌, map, filter, refl, sym, ap, ◌∙◌, subst}
use Rattle.std.proofs.lemmas.List.{append-nil}
use Rattle.driver_core.specs.Change.{Change}
use Rattle.driver_core.specs.declared.state.event.Event.{Event}
use Rattle.driver_core.specs.declared.state.event.Inputs.{Inputs}
use Rattle.driver_core.specs.declared.state.replies.Message.{Message}
use Rattle.driver_core.specs.Conduct.{coming_to, conduct, drafted}
use Rattle.driver_core.specs.Draft.{Draft}
use Rattle.driver_core.specs.Pairs.{lacking, pairs_of}
use Rattle.driver_core.specs.Renewal.{images_told, renewed}
use Rattle.driver_core.specs.State.{State, at_moment, ruled}
use Rattle.driver_core.specs.Unread.{dropping, without_unread}
use Rattle.driver_laws.specs.NumberLaws.{AreRising}
use Rattle.driver_laws.specs.OwnerLaws.{HaveTheirClients}
use Rattle.driver_laws.specs.Turning.{TurnsTo}
use Rattle.log_readers.specs.Unread.{is_kept, is_left, is_unread, without_unread as without_unread_in}
use Rattle.stream_registry.specs.declared.lingering.LogPlace.{LogPlace}
use Rattle.stream_registry.specs.declared.pairs.Pair.{Pair}
use Rattle.stream_registry.specs.declared.row.LogRow.{LogRow}
use Rattle.stream_registry.specs.Lingering.{place_of}
use Rattle.driver_core.specs.Commands.{heard, at_request}
use Rattle.driver_core.proofs.PairLemmas.{pairs_heard}

-- where the event's own rule closes no log, and leaves these pairs
pub turns_to : (before : State) (inputs : Inputs) (draft : Draft) (after : State) → draft.closes ≡ [] →
    pairs_of draft.after ≡ pairs_of after → TurnsTo before after (dropping before (renewed before inputs draft))
unfolding dropping renewed
turns_to before inputs draft after closes same = record {
  gone = ap (λ (pairs : List Pair). lacking (pairs_of before) pairs) same;
  come = ap (λ (pairs : List Pair). lacking pairs (pairs_of before)) same;
  closes =
      ap (λ (places : List LogPlace).
      map place_of
      (filter (λ (log : LogRow). not (is_left places log) || is_unread (pairs_of draft.after) log) before.streams.sources))
      closes
      ∙ ap (λ (pairs : List Pair). map place_of (filter (is_unread pairs) before.streams.sources)) same;
}

-- what an event comes to at a registry whose policy already is what it is at the event's moment
abbrev pub drawn : State → Event → Inputs → Change
drawn s event inputs = dropping s (renewed s inputs (drafted s event inputs))

-- an event comes to what its own rule makes of the registry to which it comes
pub by_draft : (P : Change → Type 0) (before : State) (event : Event) (inputs : Inputs) (draft : Draft) →
    drafted (coming_to before event) event inputs ≡ draft → P (dropping before (renewed before inputs draft)) →
    P (conduct before event inputs)
unfolding conduct
by_draft P before event inputs draft is holds =
    subst (λ (d : Draft). P (dropping before (renewed before inputs d))) (sym is) holds

-- one reply is the event's own, and those of images come after it
pub told_before : (before : State) (inputs : Inputs) (draft : Draft) (message : Message) → draft.replies ≡ message ∷ [] →
    draft.later ≡ [] →
    (dropping before (renewed before inputs draft)).outcome.replies
    ≡ message
    ∷ images_told draft.after inputs (dropping before (renewed before inputs draft)).outcome.gone
    (dropping before (renewed before inputs draft)).outcome.come
unfolding dropping renewed
told_before before inputs draft message is none = rw (is, none) (ap (λ rest. message ∷ rest) (append-nil _))

-- the logs that are left where a client was heard of are those that are left without it
pub streams_heard : (s : State) (now handle : ℕ) →
    (without_unread (at_request s now handle)).streams ≡ (without_unread s).streams
unfolding without_unread without_unread_in pairs_of heard at_moment
streams_heard s now handle =
    ap (λ (pairs : List Pair). record s.streams { sources = filter (is_kept pairs) s.streams.sources })
    (pairs_heard s now handle)

-- ---- what the policy does not touch

pub sources_at : (s : State) (now : ℕ) → s.streams.sources ≡ (ruled s now).streams.sources
unfolding ruled
sources_at s now = refl

pub rising_at : (s : State) (now : ℕ) → AreRising s → AreRising (ruled s now)
unfolding ruled
rising_at s now rising = record {
  clients = rising.clients;
  sources = rising.sources;
  registrations = rising.registrations;
  subscriptions = rising.subscriptions;
  counters = rising.counters;
}

pub owned_at : (s : State) (now : ℕ) → HaveTheirClients s → HaveTheirClients (ruled s now)
unfolding ruled
owned_at s now owned = record {
  registrations = owned.registrations;
  subscriptions = owned.subscriptions;
  counters = owned.counters;
}
