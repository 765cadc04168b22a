-- A request that a registration or a counter go takes away what it names, and nothing else; so one that sets a counter.
use Rattle.std.proofs.Common.{◌≡◌, ℕ, true, false, List, [], ◌∷◌, refl, ap, ◌∙◌}
use Rattle.std.proofs.lemmas.Bool.{eq-eqb}
use Rattle.std.proofs.lemmas.List.{append-nil}
use Rattle.driver_core.specs.declared.state.event.Event.TheVariants.{Command}
use Rattle.driver_core.specs.declared.state.event.Inputs.{Inputs}
use Rattle.driver_core.specs.declared.state.refusal.Refusal.TheVariants.{UnknownCounter, UnknownPublication}
use Rattle.driver_core.specs.declared.state.replies.Message.{Message}
use Rattle.driver_core.specs.declared.state.replies.Reply.TheVariants.{OperationSuccess}
use Rattle.driver_core.specs.Commands.{asked, body_change, command, heard, requested, at_request}
use Rattle.driver_core.specs.Conduct.{conduct, drafted}
use Rattle.driver_core.specs.Counting.{remove_counter, set_counter, uncounted, valued}
use Rattle.driver_core.specs.Draft.{Draft, refused, replied, told}
use Rattle.driver_core.specs.Pairs.{pairs_of}
use Rattle.driver_core.specs.Renewal.{renewed}
use Rattle.driver_core.specs.Requests.{Asks}
use Rattle.driver_core.specs.State.{State, at_moment, ruled}
use Rattle.driver_core.specs.Unpublishing.{remove_publication, unpublished}
use Rattle.driver_core.specs.Unread.{dropping}
use Rattle.driver_core.proofs.PairLemmas.{pairs_by, pairs_heard}
use Rattle.driver_laws.specs.CounterLaws.{IsSet, IsSetExactly, IsUncounted, IsUncountedExactly}
use Rattle.driver_laws.specs.RemovalLaws.{IsUnregistered, IsUnregisteredExactly}
use Rattle.client_registry.specs.declared.client.Client.{Client}
use Rattle.command_codec.specs.declared.command.Body.{Body}
use Rattle.command_codec.specs.declared.command.Body.TheVariants.{RemoveCounter as RemovesCounter, RemovePublication as Unpublishes, SetCounter as Sets}
use Rattle.command_codec.specs.declared.removal.Removal.{Removal}
use Rattle.command_codec.specs.declared.set_counter.SetCounter.{SetCounter}
use Rattle.counters.specs.Counters.{has}
use Rattle.stream_registry.specs.Leaving.{has_registration}
use Rattle.driver_laws.proofs.GrantLemmas.{asks_at}
use Rattle.driver_laws.proofs.PairCountLemmas.{pairs_unregistered}
use Rattle.driver_laws.proofs.RemovalLemmas.{unknown_change}
use Rattle.driver_laws.proofs.TurningLemmas.{by_draft, turns_to}
use Rattle.driver_laws.proofs.SubscribingLemmas.{found_number}

-- a client's request comes to the rule of its body
pub body_is_asked : (s : State) (now handle correlation : ℕ) (bytes : List ℕ) (inputs : Inputs) (client : Client) (body : Body) →
    Asks s handle bytes client correlation body →
    drafted s (Command now handle bytes) inputs ≡ body_change (at_request s now handle) client correlation body
unfolding drafted command asked requested at_moment
body_is_asked s now handle correlation bytes inputs client body asks =
    rw (asks.command, eq-eqb handle handle refl, asks.attached) refl

-- ---- registrations

unpublished_pairs : (s : State) (now handle correlation number : ℕ) (client : Client) →
    pairs_of (unpublished (at_request s now handle) client correlation number).after ≡ pairs_of s
unfolding unpublished replied told
unpublished_pairs s now handle correlation number client =
    pairs_unregistered (at_request s now handle) client.number number (at_request s now handle).moment
    ∙ pairs_heard s now handle

unregistered_change : (before s : State) (now handle correlation number : ℕ) (inputs : Inputs) (client : Client) →
    client.number ≡ handle →
    IsUnregistered before s now handle correlation number inputs (
    dropping before (renewed before inputs (unpublished (at_request s now handle) client correlation number)))
unfolding dropping renewed unpublished replied told heard at_moment
unregistered_change before s now handle correlation number inputs client own =
    let draft : Draft = unpublished (at_request s now handle) client correlation number in
    let done : Message = record { client = handle; reply = OperationSuccess correlation } in
    record {
      after_is = rw own refl;
      turns = turns_to before inputs draft s refl (unpublished_pairs s now handle correlation number client);
      told = rw own (ap (λ (others : List Message). done ∷ others) (append-nil _));
      decided = rw own refl;
    }

registration_goes : (s : State) (client : Client) (correlation : ℕ) (fields : Removal) →
    has_registration s.streams client.number fields.registration ≡ true →
    remove_publication s client correlation fields ≡ unpublished s client correlation fields.registration
unfolding remove_publication
registration_goes s client correlation fields known = rw known refl

registration_is_unknown : (s : State) (client : Client) (correlation : ℕ) (fields : Removal) →
    has_registration s.streams client.number fields.registration ≡ false →
    remove_publication s client correlation fields ≡ refused s [] client.number correlation UnknownPublication
unfolding remove_publication
registration_is_unknown s client correlation fields unknown = rw unknown refl

registrations_before : (s : State) (now handle number : ℕ) →
    has_registration (at_request s now handle).streams handle number ≡ has_registration s.streams handle number
unfolding heard at_moment
registrations_before s now handle number = refl

registration_by_number : (before s : State) (now handle correlation : ℕ) (inputs : Inputs) (client : Client)
    (fields : Removal) → client.number ≡ handle →
    IsUnregisteredExactly before s now handle correlation fields.registration inputs (
    dropping before (renewed before inputs (remove_publication (at_request s now handle) client correlation fields)))
registration_by_number before s now handle correlation inputs client fields own =
    let same = ap (λ (n : ℕ). has_registration (at_request s now handle).streams n fields.registration) own
    ∙ registrations_before s now handle fields.registration in
    record {
      known = λ known.
          rw (registration_goes (at_request s now handle) client correlation fields (same ∙ known))
          (unregistered_change before s now handle correlation fields.registration inputs client own);
      unknown = λ unknown.
          rw (registration_is_unknown (at_request s now handle) client correlation fields (same ∙ unknown))
          (unknown_change before s now handle client.number correlation inputs UnknownPublication own);
    }

pub unregistered_exactly : (s : State) (now handle correlation : ℕ) (bytes : List ℕ) (inputs : Inputs) (client : Client)
    (fields : Removal) → Asks s handle bytes client correlation (Unpublishes fields) →
    IsUnregisteredExactly s (ruled s now) now handle correlation fields.registration inputs (
    conduct s (Command now handle bytes) inputs)
unregistered_exactly s now handle correlation bytes inputs client fields asks =
    by_draft (IsUnregisteredExactly s (ruled s now) now handle correlation fields.registration inputs) s
    (Command now handle bytes) inputs (remove_publication (at_request (ruled s now) now handle) client correlation fields)
    (body_is_asked (ruled s now) now handle correlation bytes inputs client (Unpublishes fields)
    (asks_at s now handle bytes client correlation (Unpublishes fields) asks))
    (registration_by_number s (ruled s now) now handle correlation inputs client fields
    (found_number s.clients.rows handle client asks.attached))

-- ---- counters

-- no pair is by a counter
uncounted_pairs : (s : State) (now handle correlation number : ℕ) (client : Client) →
    pairs_of (uncounted (at_request s now handle) client correlation number).after ≡ pairs_of s
unfolding uncounted told
uncounted_pairs s now handle correlation number client =
    pairs_by (uncounted (at_request s now handle) client correlation number).after (at_request s now handle) refl refl refl
    (λ n. refl)
    ∙ pairs_heard s now handle

uncounted_change : (before s : State) (now handle correlation number : ℕ) (inputs : Inputs) (client : Client) →
    client.number ≡ handle →
    IsUncounted before s now handle correlation number inputs (
    dropping before (renewed before inputs (uncounted (at_request s now handle) client correlation number)))
unfolding dropping renewed uncounted told heard at_moment
uncounted_change before s now handle correlation number inputs client own =
    let draft : Draft = uncounted (at_request s now handle) client correlation number in
    record {
      after_is = rw own refl;
      turns = turns_to before inputs draft s refl (uncounted_pairs s now handle correlation number client);
      told = rw own refl;
      decided = rw own refl;
    }

counter_goes : (s : State) (client : Client) (correlation : ℕ) (fields : Removal) →
    has s.counters client.number fields.registration ≡ true →
    remove_counter s client correlation fields ≡ uncounted s client correlation fields.registration
unfolding remove_counter
counter_goes s client correlation fields known = rw known refl

counter_is_unknown : (s : State) (client : Client) (correlation : ℕ) (fields : Removal) →
    has s.counters client.number fields.registration ≡ false →
    remove_counter s client correlation fields ≡ refused s [] client.number correlation UnknownCounter
unfolding remove_counter
counter_is_unknown s client correlation fields unknown = rw unknown refl

counters_before : (s : State) (now handle number : ℕ) →
    has (at_request s now handle).counters handle number ≡ has s.counters handle number
unfolding heard at_moment
counters_before s now handle number = refl

counter_by_number : (before s : State) (now handle correlation : ℕ) (inputs : Inputs) (client : Client) (fields : Removal) →
    client.number ≡ handle →
    IsUncountedExactly before s now handle correlation fields.registration inputs (
    dropping before (renewed before inputs (remove_counter (at_request s now handle) client correlation fields)))
counter_by_number before s now handle correlation inputs client fields own =
    let same = ap (λ (n : ℕ). has (at_request s now handle).counters n fields.registration) own
    ∙ counters_before s now handle fields.registration in
    record {
      known = λ known.
          rw (counter_goes (at_request s now handle) client correlation fields (same ∙ known))
          (uncounted_change before s now handle correlation fields.registration inputs client own);
      unknown = λ unknown.
          rw (counter_is_unknown (at_request s now handle) client correlation fields (same ∙ unknown))
          (unknown_change before s now handle client.number correlation inputs UnknownCounter own);
    }

pub uncounted_exactly : (s : State) (now handle correlation : ℕ) (bytes : List ℕ) (inputs : Inputs) (client : Client)
    (fields : Removal) → Asks s handle bytes client correlation (RemovesCounter fields) →
    IsUncountedExactly s (ruled s now) now handle correlation fields.registration inputs (
    conduct s (Command now handle bytes) inputs)
uncounted_exactly s now handle correlation bytes inputs client fields asks =
    by_draft (IsUncountedExactly s (ruled s now) now handle correlation fields.registration inputs) s
    (Command now handle bytes) inputs (remove_counter (at_request (ruled s now) now handle) client correlation fields)
    (body_is_asked (ruled s now) now handle correlation bytes inputs client (RemovesCounter fields)
    (asks_at s now handle bytes client correlation (RemovesCounter fields) asks))
    (counter_by_number s (ruled s now) now handle correlation inputs client fields
    (found_number s.clients.rows handle client asks.attached))

-- ---- a counter that is set

-- no pair is by a counter
valued_pairs : (s : State) (now handle correlation : ℕ) (client : Client) (fields : SetCounter) →
    pairs_of (valued (at_request s now handle) client correlation fields).after ≡ pairs_of s
unfolding valued replied told
valued_pairs s now handle correlation client fields =
    pairs_by (valued (at_request s now handle) client correlation fields).after (at_request s now handle) refl refl refl
    (λ n. refl)
    ∙ pairs_heard s now handle

valued_change : (before s : State) (now handle correlation : ℕ) (inputs : Inputs) (client : Client) (fields : SetCounter) →
    client.number ≡ handle →
    IsSet before s now handle correlation inputs fields (
    dropping before (renewed before inputs (valued (at_request s now handle) client correlation fields)))
unfolding dropping renewed valued replied told heard at_moment
valued_change before s now handle correlation inputs client fields own =
    let draft : Draft = valued (at_request s now handle) client correlation fields in
    let done : Message = record { client = handle; reply = OperationSuccess correlation } in
    record {
      after_is = rw own refl;
      turns = turns_to before inputs draft s refl (valued_pairs s now handle correlation client fields);
      told = rw own (ap (λ (others : List Message). done ∷ others) (append-nil _));
      decided = rw own refl;
    }

value_is_set : (s : State) (client : Client) (correlation : ℕ) (fields : SetCounter) →
    has s.counters client.number fields.registration ≡ true →
    set_counter s client correlation fields ≡ valued s client correlation fields
unfolding set_counter
value_is_set s client correlation fields known = rw known refl

value_is_unknown : (s : State) (client : Client) (correlation : ℕ) (fields : SetCounter) →
    has s.counters client.number fields.registration ≡ false →
    set_counter s client correlation fields ≡ refused s [] client.number correlation UnknownCounter
unfolding set_counter
value_is_unknown s client correlation fields unknown = rw unknown refl

value_by_number : (before s : State) (now handle correlation : ℕ) (inputs : Inputs) (client : Client) (fields : SetCounter) →
    client.number ≡ handle →
    IsSetExactly before s now handle correlation inputs fields (
    dropping before (renewed before inputs (set_counter (at_request s now handle) client correlation fields)))
value_by_number before s now handle correlation inputs client fields own =
    let same = ap (λ (n : ℕ). has (at_request s now handle).counters n fields.registration) own
    ∙ counters_before s now handle fields.registration in
    record {
      known = λ known.
          rw (value_is_set (at_request s now handle) client correlation fields (same ∙ known))
          (valued_change before s now handle correlation inputs client fields own);
      unknown = λ unknown.
          rw (value_is_unknown (at_request s now handle) client correlation fields (same ∙ unknown))
          (unknown_change before s now handle client.number correlation inputs UnknownCounter own);
    }

pub set_exactly : (s : State) (now handle correlation : ℕ) (bytes : List ℕ) (inputs : Inputs) (client : Client)
    (fields : SetCounter) → Asks s handle bytes client correlation (Sets fields) →
    IsSetExactly s (ruled s now) now handle correlation inputs fields (conduct s (Command now handle bytes) inputs)
set_exactly s now handle correlation bytes inputs client fields asks =
    by_draft (IsSetExactly s (ruled s now) now handle correlation inputs fields) s (Command now handle bytes) inputs
    (set_counter (at_request (ruled s now) now handle) client correlation fields)
    (body_is_asked (ruled s now) now handle correlation bytes inputs client (Sets fields)
    (asks_at s now handle bytes client correlation (Sets fields) asks))
    (value_by_number s (ruled s now) now handle correlation inputs client fields
    (found_number s.clients.rows handle client asks.attached))
