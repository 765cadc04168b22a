-- A client is shown exactly the counters that the policy in force shows it.
use Rattle.std.proofs.Common.{◌≡◌, ℕ, Bool, List, [], ◌∷◌, Some, None, refl, sym, ◌∙◌}
use Rattle.std.specs.List.{filter}
use Rattle.driver_core.specs.declared.asked.listing.Listed.TheVariants as listed_as
use Rattle.driver_core.specs.declared.asked.listing.Shown.TheVariants as shown_as
use Rattle.driver_core.specs.LeftOut.{left_out as left_out_of}
use Rattle.driver_core.specs.Listing.{list, value}
use Rattle.driver_core.specs.Renewal.{source_at}
use Rattle.driver_core.specs.State.{State}
use Rattle.driver_core.specs.Verdicts.{verdict_on}
use Rattle.driver_laws.specs.ListingLaws.{LeavesOutExactly, ListsExactly, ShowsExactly, ShowsSourceExactly, LooksExactly, look_question, is_shown_to, source_look}
use Rattle.client_registry.specs.declared.client.Client.{Client}
use Rattle.client_registry.specs.Clients.{client_at}
use Rattle.counters.specs.declared.counter.Counter.{Counter}
use Rattle.counters.specs.Counters.{counter_at, is_visible, visible_of}
use Rattle.stream_registry.specs.declared.row.LogRow.{LogRow}
use Rattle.counters.proofs.VisibleLemmas.{any_number}
use Rattle.driver_core.proofs.VerdictLemmas.{by_policy}
use Rattle.driver_laws.proofs.DenialTextLemmas.{epoch_of, denial_words, denial_is_named}

-- tests that agree leave the same
filter_agree : {X : Type 0} (p q : X → Bool) → ((x : X) → p x ≡ q x) → (xs : List X) → filter p xs ≡ filter q xs
filter_agree p q same [] = refl
filter_agree p q same (x ∷ xs) = rw (same x, filter_agree p q same xs) refl

lists_exactly : (s : State) (handle : ℕ) (client : Client) → client_at s.clients.rows handle ≡ Some client →
    ListsExactly s client (list s handle)
unfolding list visible_of
lists_exactly s handle client found = record {
  answer_is =
      rw (
        found,
        filter_agree (is_visible s.policy client.principal) (is_shown_to s client)
            (λ counter. sym (any_number s.policy s.epoch client.principal counter)) s.counters,
      )
      refl;
  by = λ counter. by_policy s (look_question client counter);
  sources_by = λ source. by_policy s (source_look client source);
}

shows_exactly : (s : State) (handle : ℕ) (client : Client) (number : ℕ) (counter : Counter) →
    client_at s.clients.rows handle ≡ Some client → counter_at s.counters number ≡ Some counter →
    ShowsExactly s client counter (value s handle number)
unfolding value
shows_exactly s handle client number counter found there =
    let question = look_question client counter in
    record {
      by = by_policy s question;
      shown = λ allows. rw (found, there, allows) refl;
      denied = λ denies. rw (found, there, denies) refl;
      text = λ denies.
          sym (denial_words (verdict_on s question))
          ∙ denial_is_named (verdict_on s question) s.epoch denies (epoch_of s question);
    }

shows_source_exactly : (s : State) (handle : ℕ) (client : Client) (number : ℕ) (source : LogRow) →
    client_at s.clients.rows handle ≡ Some client → counter_at s.counters number ≡ None →
    source_at s.streams.sources number ≡ Some source → ShowsSourceExactly s client source (value s handle number)
unfolding value
shows_source_exactly s handle client number source found none there =
    let question = source_look client source in
    record {
      by = by_policy s question;
      shown = λ allows. rw (found, none, there, allows) refl;
      denied = λ denies. rw (found, none, there, denies) refl;
      text = λ denies.
          sym (denial_words (verdict_on s question))
          ∙ denial_is_named (verdict_on s question) s.epoch denies (epoch_of s question);
    }

unknown_is_told : (s : State) (handle : ℕ) (client : Client) (number : ℕ) →
    client_at s.clients.rows handle ≡ Some client → counter_at s.counters number ≡ None →
    source_at s.streams.sources number ≡ None → value s handle number ≡ shown_as.UnknownCounter
unfolding value
unknown_is_told s handle client number found none nothing = rw (found, none, nothing) refl

nobody_is_listed : (s : State) (handle : ℕ) → client_at s.clients.rows handle ≡ None →
    list s handle ≡ listed_as.WrongClient
unfolding list
nobody_is_listed s handle gone = rw gone refl

nobody_is_shown : (s : State) (handle number : ℕ) → client_at s.clients.rows handle ≡ None →
    value s handle number ≡ shown_as.WrongClient
unfolding value
nobody_is_shown s handle number gone = rw gone refl

leaves_out_exactly : (s : State) (handle : ℕ) (client : Client) → client_at s.clients.rows handle ≡ Some client →
    LeavesOutExactly s client (left_out_of s handle)
unfolding left_out_of
leaves_out_exactly s handle client found = record { denials_are = rw found refl }

nobody_is_left_out : (s : State) (handle : ℕ) → client_at s.clients.rows handle ≡ None → left_out_of s handle ≡ []
unfolding left_out_of
nobody_is_left_out s handle gone = rw gone refl

pub looks_exactly : (s : State) (handle : ℕ) → LooksExactly s handle
looks_exactly s handle = record {
  listed = λ client found. lists_exactly s handle client found;
  valued = λ client number counter found there. shows_exactly s handle client number counter found there;
  sourced = λ client number source found none there. shows_source_exactly s handle client number source found none there;
  unknown = λ client number found none nothing. unknown_is_told s handle client number found none nothing;
  left_out = λ client found. leaves_out_exactly s handle client found;
  leaves_nobody = λ gone. nobody_is_left_out s handle gone;
  lists_nobody = λ gone. nobody_is_listed s handle gone;
  values_nobody = λ number gone. nobody_is_shown s handle number gone;
}
