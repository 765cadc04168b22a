-- Several clients leave at one moment, and logs close at it.
use Rattle.std.proofs.Common.{◌≡◌, ℕ, ◌==◌, Bool, true, false, not, cond, List, [], ◌∷◌, filter, refl, sym, ap, ◌∙◌}
use Rattle.std.specs.Prelude.{◌&&◌, ◌||◌}
use Rattle.std.specs.List.{list_any}
use Rattle.std.proofs.lemmas.Bool.{or_parts}
use Rattle.std.proofs.lemmas.List.Elements.{filter_agree}
use Rattle.log_readers.specs.Numbering.{AreInOrder}
use Rattle.log_readers.specs.Turnover.{IsTurnover, all_left, all_without, is_going, is_had_by, is_of_any, is_of_client, is_of_closing}
use Rattle.stream_registry.specs.declared.pairs.Pair.{Pair}
use Rattle.stream_registry.specs.declared.row.Subscription.{Subscription}
use Rattle.stream_registry.specs.Leaving.{has_subscription, is_own_subscription, is_subscription_of_another, left}
use Rattle.stream_registry.specs.Lingering.{closed, closing_of, settled}
use Rattle.stream_registry.specs.Pairs.{pairs_of}
use Rattle.stream_registry.specs.Streams.{Streams}
use Rattle.client_registry.specs.Clients.{ClientList, without}
use Rattle.policy_core.specs.RuleList.{Rules}
use Rattle.log_readers.proofs.ListLemmas.{all_pass, filter_both}
use Rattle.log_readers.proofs.OrderLemmas.{left_in_order}
use Rattle.log_readers.proofs.TurnoverLemmas.{closed_part, kept_turnover, left_part, stays_open}

-- ---- who had what is known before anybody leaves

passed_over : (mine others numbered : Bool) → (mine && numbered) ≡ false → (not mine && (others && numbered)) ≡ (others && numbered)
passed_over true true true h = absurd (cc)
passed_over true true false h = refl
passed_over true false numbered h = refl
passed_over false others numbered h = refl

one_kept : (mine : Bool) (client number : ℕ) (row : Subscription) (rest : List Subscription) →
    list_any (is_own_subscription client number) (cond (not mine) (row ∷ rest) rest)
    ≡ ((not mine && is_own_subscription client number row) || list_any (is_own_subscription client number) rest)
one_kept true client number row rest = refl
one_kept false client number row rest = refl

had_by_others : (gone client number : ℕ) (subs : List Subscription) → list_any (is_own_subscription gone number) subs ≡ false →
    list_any (is_own_subscription client number) (filter (is_subscription_of_another gone) subs)
    ≡ list_any (is_own_subscription client number) subs
had_by_others gone client number [] none = refl
had_by_others gone client number (row ∷ subs) none =
    let parts = or_parts (is_own_subscription gone number row) (list_any (is_own_subscription gone number) subs) none in
    one_kept (row.client == gone) client number row (filter (is_subscription_of_another gone) subs)
    ∙ ap (λ (b : Bool). b || list_any (is_own_subscription client number) (filter (is_subscription_of_another gone) subs))
    (passed_over (row.client == gone) (row.client == client) (row.number == number) parts.0)
    ∙ ap (λ (b : Bool). is_own_subscription client number row || b) (had_by_others gone client number subs parts.1)

left_has : (s : Streams) (gone client number now : ℕ) → has_subscription s gone number ≡ false →
    has_subscription (left s gone now) client number ≡ has_subscription s client number
unfolding left settled
left_has s gone client number now none = had_by_others gone client number s.subscriptions none

pub left_any : (s : Streams) (gone now : ℕ) (late : List ℕ) (pair : Pair) → is_of_client s gone pair ≡ false →
    is_of_any (left s gone now) late pair ≡ is_of_any s late pair
left_any s gone now [] pair none = refl
left_any s gone now (client ∷ late) pair none =
    ap (λ (b : Bool). b || is_of_any (left s gone now) late pair) (left_has s gone client pair.subscription now none)
    ∙ ap (λ (b : Bool). is_of_client s client pair || b) (left_any s gone now late pair none)

next_any : (first : Bool) (s : Streams) (gone now : ℕ) (late : List ℕ) (pair : Pair) → is_of_client s gone pair ≡ first →
    (not first && not (is_of_any (left s gone now) late pair)) ≡ not (first || is_of_any s late pair)
next_any true s gone now late pair is = refl
next_any false s gone now late pair is = ap not (left_any s gone now late pair is)

-- ---- it is asked of each subscription

any_of_two : {X : Type 0} (first rest : X → Bool) (xs : List X) →
    list_any (λ x. first x || rest x) xs ≡ (list_any first xs || list_any rest xs)
any_of_two first rest [] = refl
any_of_two first rest (x ∷ xs) =
    ap (λ (b : Bool). (first x || rest x) || b) (any_of_two first rest xs)
    ∙ turned_round (first x) (rest x) (list_any first xs) (list_any rest xs)
  where
    turned_round : (a b c d : Bool) → ((a || b) || (c || d)) ≡ ((a || c) || (b || d))
    turned_round true b c d = refl
    turned_round false true true d = refl
    turned_round false true false d = refl
    turned_round false false c d = refl

none_has : (number : ℕ) (subs : List Subscription) → list_any (is_had_by number []) subs ≡ false
none_has number [] = refl
none_has number (row ∷ subs) =
    ap (λ (b : Bool). b || list_any (is_had_by number []) subs) (never (row.number == number)) ∙ none_has number subs
  where
    never : (b : Bool) → (b && false) ≡ false
    never true = refl
    never false = refl

one_or_rest : (numbered mine rest : Bool) → (numbered && (mine || rest)) ≡ ((mine && numbered) || (numbered && rest))
one_or_rest true true rest = refl
one_or_rest true false rest = refl
one_or_rest false true rest = refl
one_or_rest false false rest = refl

any_alike : {X : Type 0} (p q : X → Bool) (xs : List X) → ((x : X) → p x ≡ q x) → list_any p xs ≡ list_any q xs
any_alike p q [] same = refl
any_alike p q (x ∷ xs) same = rw (same x) (ap (λ (b : Bool). q x || b) (any_alike p q xs same))

pub had_by_any : (s : Streams) (clients : List ℕ) (pair : Pair) →
    list_any (is_had_by pair.subscription clients) s.subscriptions ≡ is_of_any s clients pair
had_by_any s [] pair = none_has pair.subscription s.subscriptions
had_by_any s (client ∷ clients) pair =
    any_alike (is_had_by pair.subscription (client ∷ clients))
    (λ row. is_own_subscription client pair.subscription row || is_had_by pair.subscription clients row) s.subscriptions
    (λ row. one_or_rest (row.number == pair.subscription) (row.client == client) (list_any (λ one. row.client == one) clients))
    ∙ any_of_two (is_own_subscription client pair.subscription) (is_had_by pair.subscription clients) s.subscriptions
    ∙ ap (λ (b : Bool). is_of_client s client pair || b) (had_by_any s clients pair)

-- ---- what is left of the pairs

module _ (policy : Rules) (epoch : ℕ) where
  pub all_left_part : (s : Streams) (clients : ClientList) (late : List ℕ) (now last : ℕ) → AreInOrder s clients.rows last →
      pairs_of (all_left s late now) (all_without clients late).rows policy epoch
      ≡ filter (λ pair. not (is_of_any s late pair)) (pairs_of s clients.rows policy epoch)
  all_left_part s clients [] now last order = sym (all_pass (pairs_of s clients.rows policy epoch))
  all_left_part s clients (client ∷ late) now last order =
      all_left_part (left s client now) (without clients client) late now last (left_in_order s clients last client now order)
      ∙ ap (filter (λ (pair : Pair). not (is_of_any (left s client now) late pair))) (left_part policy epoch s clients client now 0 last order.numbers)
      ∙ filter_both (λ (pair : Pair). not (is_of_any (left s client now) late pair)) (λ (pair : Pair). not (is_of_client s client pair))
      (pairs_of s clients.rows policy epoch)
      ∙ filter_agree (λ (pair : Pair). not (is_of_client s client pair) && not (is_of_any (left s client now) late pair))
      (λ (pair : Pair). not (is_of_any s (client ∷ late) pair))
      (λ pair. next_any (is_of_client s client pair) s client now late pair refl) (pairs_of s clients.rows policy epoch)

  pub all_left_in_order : (s : Streams) (clients : ClientList) (late : List ℕ) (now last : ℕ) → AreInOrder s clients.rows last →
      AreInOrder (all_left s late now) (all_without clients late).rows last
  all_left_in_order s clients [] now last order = order
  all_left_in_order s clients (client ∷ late) now last order =
      all_left_in_order (left s client now) (without clients client) late now last (left_in_order s clients last client now order)

  neither : (late closing : Bool) → not (not late && not closing) ≡ (late || closing)
  neither true closing = refl
  neither false true = refl
  neither false false = refl

  -- what goes are the pairs of those clients and of the logs that close
  pub ticked_turnover : (s : Streams) (clients : ClientList) (late : List ℕ) (now : ℕ) (silent : List ℕ) (last : ℕ) →
      AreInOrder s clients.rows last →
      IsTurnover (pairs_of s clients.rows policy epoch)
      (pairs_of (closed (all_left s late now) now silent) (all_without clients late).rows policy epoch)
      (filter (is_going s late (closing_of (all_left s late now) now silent)) (pairs_of s clients.rows policy epoch)) []
  ticked_turnover s clients late now silent last order =
      let before : List Pair = pairs_of s clients.rows policy epoch in
      let closes = closing_of (all_left s late now) now silent in
      let kept = kept_turnover (λ number. not (list_any (λ client. has_subscription s client number) late)) (stays_open closes) before
      (pairs_of (closed (all_left s late now) now silent) (all_without clients late).rows policy epoch)
      (closed_part (all_without clients late).rows policy epoch (all_left s late now) now silent 0 last
      (all_left_in_order s clients late now last order).sources
      ∙ ap (filter (λ (pair : Pair). stays_open closes pair.source)) (all_left_part s clients late now last order)
      ∙ filter_both (λ (pair : Pair). stays_open closes pair.source) (λ (pair : Pair). not (is_of_any s late pair)) before) in
      record {
        gone = kept.gone
            ∙ filter_agree (λ (pair : Pair). not (not (is_of_any s late pair) && stays_open closes pair.source))
            (is_going s late closes)
            (λ pair. neither (is_of_any s late pair) (is_of_closing closes pair)) before;
        come = kept.come;
      }
