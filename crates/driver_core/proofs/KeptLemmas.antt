-- Each change of the lists keeps what is kept beside them.
use Rattle.std.proofs.Common.{arith, ◌≡◌, ℕ, ℤ, ◌+◌, ◌≤◌, Bool, true, List, [], false, ◌==◌, ◌∷◌, cond, Option, Some, length, is_some, filter, refl, sym, ap, ◌∙◌}
use Rattle.std.proofs.lemmas.List.Elements.{All-nil}
use Rattle.std.proofs.lemmas.Bool.{eqb-true}
use Rattle.driver_core.specs.Commands.{heard}
use Rattle.driver_core.specs.Kept.{AreRead, IsKept, IsTended}
use Rattle.driver_core.specs.State.{State}
use Rattle.driver_core.proofs.PairLemmas.{principal_heard}
use Rattle.channel_uri.specs.Channel.{Shape}
use Rattle.client_registry.specs.declared.client.Client.{Client}
use Rattle.client_registry.specs.Clients.{ClientList, admitted, client_at, principal_at, touched, without}
use Rattle.log_readers.specs.Numbering.{IsOwned}
use Rattle.log_readers.specs.Readers.{all_readers}
use Rattle.log_readers.specs.Unread.{is_unread}
use Rattle.log_readers.proofs.OrderLemmas.{admitted_in_order, cleared_in_order, closed_in_order, imaged_in_order, joined_in_order, later_in_order, left_in_order, made_in_order, subscribed_in_order, touched_in_order, unregistered_in_order, unsubscribed_in_order, without_images_in_order}
use Rattle.log_readers.proofs.ReaderLemmas.{as_many_as_logs}
use Rattle.log_readers.proofs.SameLemmas.{admitted_alike, touched_alike, unregistered_alike}
use Rattle.policy_core.specs.RuleList.{Rules}
use Rattle.stream_registry.specs.declared.wanted.Adding.{Adding}
use Rattle.stream_registry.specs.declared.wanted.Adding.TheVariants.{Join, Make}
use Rattle.stream_registry.specs.declared.wanted.ImageWanted.{ImageWanted}
use Rattle.stream_registry.specs.declared.wanted.Wanted.{Wanted}
use Rattle.stream_registry.specs.Adding.{added, subscribed}
use Rattle.stream_registry.specs.Images.{imaged, without_images}
use Rattle.stream_registry.specs.Leaving.{left, unregistered, unsubscribed}
use Rattle.stream_registry.specs.Lingering.{closed}
use Rattle.stream_registry.specs.declared.measures.Measures.{Measures}
use Rattle.stream_registry.specs.declared.row.Subscription.{Subscription}
use Rattle.stream_registry.specs.declared.pairs.Pair.{Pair}
use Rattle.stream_registry.specs.Pairs.{pairs_of}
use Rattle.stream_registry.specs.Streams.{Streams, cleared, opened as nothing_published}

-- ---- clients

pub kept_touched : (s : Streams) (clients : ClientList) (policy : Rules) (epoch last : ℕ) (readers : List (List ℕ))
    (number now : ℕ) → IsKept s clients.rows policy epoch last readers →
    IsKept s (touched clients number now).rows policy epoch last readers
kept_touched s clients policy epoch last readers number now kept = record {
  exact = kept.exact ∙ sym (touched_alike policy epoch s clients number now).readers;
  order = touched_in_order s clients last number now kept.order;
}

pub kept_admitted : (s : Streams) (clients : ClientList) (policy : Rules) (epoch last : ℕ) (readers : List (List ℕ))
    (principal now : ℕ) → IsKept s clients.rows policy epoch last readers →
    IsKept s (admitted clients principal now).rows policy epoch last readers
kept_admitted s clients policy epoch last readers principal now kept = record {
  exact = kept.exact ∙ sym (admitted_alike policy epoch s clients principal now kept.order.owned).readers;
  order = admitted_in_order s clients last principal now kept.order;
}

-- ---- numbers

pub kept_later : (s : Streams) (clients : List Client) (policy : Rules) (epoch last next : ℕ) (readers : List (List ℕ)) →
    IsKept s clients policy epoch last readers → last ≤ next → IsKept s clients policy epoch next readers
kept_later s clients policy epoch last next readers kept more = record {
  exact = kept.exact;
  order = later_in_order s clients last next kept.order more;
}

-- ---- subscriptions

pub kept_subscribed : (s : Streams) (clients : List Client) (policy : Rules) (epoch last client : ℕ) (channel : Shape) (stream : ℤ)
    (readers after : List (List ℕ)) → IsKept s clients policy epoch last readers →
    is_some (principal_at clients client) ≡ true →
    after ≡ all_readers (subscribed s (last + 1) client channel stream) clients policy epoch →
    IsKept (subscribed s (last + 1) client channel stream) clients policy epoch (last + 1) after
kept_subscribed s clients policy epoch last client channel stream readers after kept owned is = record {
  exact = is;
  order = subscribed_in_order s clients last (last + 1) (last + 1) client channel stream kept.order (omega arith) (omega arith) owned;
}

pub kept_unsubscribed : (s : Streams) (clients : List Client) (policy : Rules) (epoch last client number : ℕ)
    (readers after : List (List ℕ)) → IsKept s clients policy epoch last readers →
    after ≡ all_readers (unsubscribed s client number) clients policy epoch →
    IsKept (unsubscribed s client number) clients policy epoch last after
kept_unsubscribed s clients policy epoch last client number readers after kept is = record {
  exact = is;
  order = unsubscribed_in_order s clients last client number kept.order;
}

-- ---- publications

pub kept_added : (s : Streams) (clients : List Client) (policy : Rules) (epoch last client : ℕ) (wanted : Wanted) (place : ℕ)
    (adding : Adding) (readers after : List (List ℕ)) → IsKept s clients policy epoch last readers →
    after ≡ all_readers (added s (last + 1) client wanted place adding) clients policy epoch →
    IsKept (added s (last + 1) client wanted place adding) clients policy epoch (last + 1) after
kept_added s clients policy epoch last client wanted place (Join source session) readers after kept is = record {
  exact = is;
  order = joined_in_order s clients last (last + 1) (last + 1) client wanted place source session kept.order (omega arith) (omega arith);
}
kept_added s clients policy epoch last client wanted place (Make session) readers after kept is = record {
  exact = is;
  order = made_in_order s clients last (last + 1) (last + 1) client wanted place session kept.order (omega arith) (omega arith);
}

pub kept_unregistered : (s : Streams) (clients : List Client) (policy : Rules) (epoch last client number now : ℕ)
    (readers : List (List ℕ)) → IsKept s clients policy epoch last readers →
    IsKept (unregistered s client number now) clients policy epoch last readers
kept_unregistered s clients policy epoch last client number now readers kept = record {
  exact = kept.exact ∙ sym (unregistered_alike policy epoch s clients client number now).readers;
  order = unregistered_in_order s clients last client number now kept.order;
}

-- ---- images

pub kept_imaged : (s : Streams) (clients : List Client) (policy : Rules) (epoch last : ℕ) (wanted : ImageWanted) (place : ℕ)
    (readers after : List (List ℕ)) → IsKept s clients policy epoch last readers →
    after ≡ all_readers (imaged s (last + 1) wanted place) clients policy epoch →
    IsKept (imaged s (last + 1) wanted place) clients policy epoch (last + 1) after
kept_imaged s clients policy epoch last wanted place readers after kept is = record {
  exact = is;
  order = imaged_in_order s clients last (last + 1) (last + 1) wanted place kept.order (omega arith) (omega arith);
}

-- ---- what leaves and closes

pub kept_left : (s : Streams) (clients : ClientList) (policy : Rules) (epoch last client now : ℕ) (readers after : List (List ℕ)) →
    IsKept s clients.rows policy epoch last readers →
    after ≡ all_readers (left s client now) (without clients client).rows policy epoch →
    IsKept (left s client now) (without clients client).rows policy epoch last after
kept_left s clients policy epoch last client now readers after kept is = record {
  exact = is;
  order = left_in_order s clients last client now kept.order;
}

pub kept_closed : (s : Streams) (clients : List Client) (policy : Rules) (epoch last now : ℕ) (silent : List ℕ)
    (readers after : List (List ℕ)) → IsKept s clients policy epoch last readers →
    after ≡ all_readers (closed s now silent) clients policy epoch →
    IsKept (closed s now silent) clients policy epoch last after
kept_closed s clients policy epoch last now silent readers after kept is = record {
  exact = is;
  order = closed_in_order s clients last now silent kept.order;
}

pub kept_without_images : (s : Streams) (clients : List Client) (policy : Rules) (epoch last : ℕ) (numbers : List ℕ)
    (readers after : List (List ℕ)) → IsKept s clients policy epoch last readers →
    after ≡ all_readers (without_images s numbers) clients policy epoch →
    IsKept (without_images s numbers) clients policy epoch last after
kept_without_images s clients policy epoch last numbers readers after kept is = record {
  exact = is;
  order = without_images_in_order s clients last numbers kept.order;
}

pub kept_cleared : (s : Streams) (clients : List Client) (policy : Rules) (epoch last : ℕ) →
    IsKept (cleared s) clients policy epoch last []
unfolding all_readers
kept_cleared s clients policy epoch last = record { exact = refl; order = cleared_in_order s clients last }

-- ---- the policy

pub kept_asked : (s : Streams) (clients : List Client) (policy other : Rules) (epoch next last : ℕ) (readers after : List (List ℕ)) →
    IsKept s clients policy epoch last readers → after ≡ all_readers s clients other next →
    IsKept s clients other next last after
kept_asked s clients policy other epoch next last readers after kept is = record { exact = is; order = kept.order }

-- nobody came yet
pub kept_opened : (defaults : Measures) (first_session : ℤ) (policy : Rules) →
    IsKept (nothing_published defaults first_session) [] policy 1 0 []
unfolding all_readers
kept_opened defaults first_session policy = record {
  exact = refl;
  order = record { sources = omega arith; registered = omega arith; numbers = omega arith; owned = All-nil (λ (row : Subscription). IsOwned [] row) };
}

-- there are as many readers as logs
pub kept_length : (s : Streams) (clients : List Client) (policy : Rules) (epoch last : ℕ) (readers : List (List ℕ)) →
    IsKept s clients policy epoch last readers → length readers ≡ length s.sources
kept_length s clients policy epoch last readers kept = ap length kept.exact ∙ as_many_as_logs clients policy epoch s

-- ---- the client whose command it is, is there

found_in : (number : ℕ) (client row : Client) (rows : List Client) (b : Bool) → (row.number == number) ≡ b →
    (client_at rows number ≡ Some client → client.number ≡ number) →
    cond b (Some row) (client_at rows number) ≡ Some client → client.number ≡ number
found_in number client row rows true same rest found =
    let is : row ≡ client = cc in
    ap (λ (c : Client). c.number) (sym is) ∙ eqb-true row.number number same
found_in number client row rows false same rest found = rest found

found_number : (clients : List Client) (number : ℕ) (client : Client) → client_at clients number ≡ Some client →
    client.number ≡ number
found_number [] number client found = absurd cc
found_number (row ∷ rows) number client found =
    found_in number client row rows (row.number == number) refl (found_number rows number client) found

pub found_owned : (rows : List Client) (handle : ℕ) (client : Client) → client_at rows handle ≡ Some client →
    is_some (principal_at rows client.number) ≡ true
found_owned rows handle client there = rw (found_number rows handle client there, there) refl

pub heard_owned : (s : State) (handle client : ℕ) → is_some (principal_at s.clients.rows client) ≡ true →
    is_some (principal_at (heard s handle).clients.rows client) ≡ true
unfolding heard touched
heard_owned s handle client owned =
    ap (λ (found : Option ℕ). is_some found) (principal_heard s.clients.rows handle s.moment client) ∙ owned

-- ---- whether each image has a pair

-- nothing is known of that
pub unknown : {s : Streams} {clients : List Client} {policy : Rules} {epoch last : ℕ} {readers : List (List ℕ)} →
    IsKept s clients policy epoch last readers → IsTended s clients policy epoch last readers false
unknown kept = record { kept = kept; read = λ is. absurd (cc is) }

read_alike : (s : Streams) (clients others : List Client) (policy : Rules) (epoch : ℕ) →
    pairs_of s others policy epoch ≡ pairs_of s clients policy epoch → AreRead s clients policy epoch → AreRead s others policy epoch
read_alike s clients others policy epoch same read =
    record { all = ap (λ (pairs : List Pair). filter (is_unread pairs) s.sources) same ∙ read.all }

pub tended_touched : (s : Streams) (clients : ClientList) (policy : Rules) (epoch last : ℕ) (readers : List (List ℕ)) (known : Bool)
    (number now : ℕ) → IsTended s clients.rows policy epoch last readers known →
    IsTended s (touched clients number now).rows policy epoch last readers known
tended_touched s clients policy epoch last readers known number now tended = record {
  kept = kept_touched s clients policy epoch last readers number now tended.kept;
  read = λ is.
      read_alike s clients.rows (touched clients number now).rows policy epoch (touched_alike policy epoch s clients number now).pairs
      (tended.read is);
}

pub tended_admitted : (s : Streams) (clients : ClientList) (policy : Rules) (epoch last : ℕ) (readers : List (List ℕ)) (known : Bool)
    (principal now : ℕ) → IsTended s clients.rows policy epoch last readers known →
    IsTended s (admitted clients principal now).rows policy epoch last readers known
tended_admitted s clients policy epoch last readers known principal now tended = record {
  kept = kept_admitted s clients policy epoch last readers principal now tended.kept;
  read = λ is.
      read_alike s clients.rows (admitted clients principal now).rows policy epoch
      (admitted_alike policy epoch s clients principal now tended.kept.order.owned).pairs
      (tended.read is);
}

pub tended_later : (s : Streams) (clients : List Client) (policy : Rules) (epoch last next : ℕ) (readers : List (List ℕ)) (known : Bool) →
    IsTended s clients policy epoch last readers known → last ≤ next → IsTended s clients policy epoch next readers known
tended_later s clients policy epoch last next readers known tended more =
    record { kept = kept_later s clients policy epoch last next readers tended.kept more; read = tended.read }

pub tended_opened : (defaults : Measures) (first_session : ℤ) (policy : Rules) →
    IsTended (nothing_published defaults first_session) [] policy 1 0 [] true
tended_opened defaults first_session policy =
    record { kept = kept_opened defaults first_session policy; read = λ is. record { all = refl } }
