-- In which order letters are read.
use Rattle.std.proofs.Common.{◌≡◌, Bool, true, false, List, [], ◌∷◌, ◌++◌, Some, refl, ap, ◌∙◌, sym, subst, append_assoc, one-add}
use Rattle.std.specs.List.{filter, find, position_or_len, remove}
use Rattle.std.proofs.lemmas.List.Elements.{filter-append}
use Rattle.std.proofs.lemmas.Option.{same_Some}
use Rattle.channel_uri.specs.declared.address.Address.{Address}
use Rattle.media_wire.specs.Arrivals.{ArriveInOrder, FailuresLeadNowhere, all_read, all_sent}
use Rattle.media_wire.specs.Events.{Event, sent, read, nothing, failed, calm}
use Rattle.media_wire.specs.Letters.{is_for}
use Rattle.media_wire.specs.Networks.{Flight, LeadAll, start, without_first}
use Rattle.media_wire.specs.declared.letter.Letter.{Letter}
use Rattle.media_wire.specs.declared.network.Fate.{Fate}
use Rattle.media_wire.proofs.Places.{same_addresses}

module _ {X : Type 0} where
  nothing_behind : (xs : List X) → xs ++ [] ≡ xs
  nothing_behind [] = refl
  nothing_behind (x ∷ xs) = ap (λ (rest : List X). x ∷ rest) (nothing_behind xs)

  head_out : (q : X → Bool) (x : X) (xs : List X) → filter q (x ∷ xs) ≡ filter q (x ∷ []) ++ filter q xs
  head_out q x xs = filter-append q (x ∷ []) xs

  -- one more element in front, which does not pass
  past : (q : X → Bool) (x it : X) (xs rest : List X) (b : Bool) → q x ≡ b → (q x ≡ true → q it ≡ false) →
      filter q xs ≡ filter q (it ∷ []) ++ filter q rest → filter q (x ∷ xs) ≡ filter q (it ∷ []) ++ filter q (x ∷ rest)
  past q x it xs rest false is apart same = rw is same
  past q x it xs rest true is apart same =
      let out : filter q (it ∷ []) ≡ [] = rw (apart is) refl in
      let left : filter q xs ≡ filter q rest = same ∙ ap (λ (front : List X). front ++ filter q rest) out in
      rw (is, out) (ap (λ (all : List X). x ∷ all) left)

  -- what passes the one test, with the first that passes the other in front of what is left without it
  first_out : (p q : X → Bool) (xs : List X) (it : X) → find p xs ≡ Some it → ((x : X) → p x ≡ false → q x ≡ true → q it ≡ false) →
      filter q xs ≡ filter q (it ∷ []) ++ filter q (remove xs (position_or_len p xs))
  first_out p q [] it found apart = cc
  first_out p q (x ∷ xs) it found apart = by (p x) refl (λ later. first_out p q xs it later apart) where
    by : (b : Bool) → p x ≡ b →
        (find p xs ≡ Some it → filter q xs ≡ filter q (it ∷ []) ++ filter q (remove xs (position_or_len p xs))) →
        filter q (x ∷ xs) ≡ filter q (it ∷ []) ++ filter q (remove (x ∷ xs) (position_or_len p (x ∷ xs)))
    by true is rest =
        let same : x ≡ it = same_Some x it (rw is at found) in
        let left : remove (x ∷ xs) (position_or_len p (x ∷ xs)) ≡ xs = rw is refl in
        subst (λ (y : X). filter q (x ∷ xs) ≡ filter q (y ∷ []) ++ filter q (remove (x ∷ xs) (position_or_len p (x ∷ xs)))) same
        (head_out q x xs ∙ ap (λ (its : List X). filter q (x ∷ []) ++ filter q its) (sym left))
    by false is rest =
        let later : find p xs ≡ Some it = rw is at found in
        let left : remove (x ∷ xs) (position_or_len p (x ∷ xs)) ≡ x ∷ remove xs (position_or_len p xs) = rw (is, one-add) refl in
        past q x it xs (remove xs (position_or_len p xs)) (q x) refl (apart x is) (rest later)
        ∙ ap (λ (its : List X). filter q (it ∷ []) ++ filter q its) (sym left)

-- a letter that goes to the one address and not to the other tells them apart
apart : (address : Address) (it x : Letter) → is_for it.to x ≡ false → is_for address x ≡ true → is_for address it ≡ false
apart address it x other own = by (is_for address it) refl where
  by : (b : Bool) → is_for address it ≡ b → b ≡ false
  by false is = refl
  by true is =
      let same : it.to ≡ address = same_addresses it.to address is in
      let differs : is_for address x ≡ false = subst (λ (at : Address). is_for at x ≡ false) same other in
      sym own ∙ differs

abbrev to : Address → List Letter → List Letter
to address letters = filter (is_for address) letters

-- whatever was on its way at first
in_order : (flight next : Flight) (events : List Event) (address : Address) → LeadAll [] flight events next →
    to address flight.letters ++ to address (all_sent events) ≡ to address (all_read events) ++ to address next.letters
in_order flight next [] address is =
    nothing_behind (to address flight.letters) ∙ ap (λ (at : Flight). to address at.letters) (sym is)
in_order flight next (sent it ∷ events) address (mid, is, rest) =
    let more : to address mid.letters ≡ to address flight.letters ++ to address (it ∷ []) =
    ap (λ (at : Flight). to address at.letters) is ∙ filter-append (is_for address) flight.letters (it ∷ []) in
    ap (λ (all : List Letter). to address flight.letters ++ all) (head_out (is_for address) it (all_sent events))
    ∙ sym (append_assoc (to address flight.letters) (to address (it ∷ [])) (to address (all_sent events)))
    ∙ ap (λ (all : List Letter). all ++ to address (all_sent events)) (sym more)
    ∙ in_order mid next events address rest
in_order flight next (read it ∷ events) address (mid, is, rest) =
    let first : to address flight.letters ≡ to address (it ∷ []) ++ to address (without_first it.to flight.letters) =
    first_out (is_for it.to) (is_for address) flight.letters it is.0 (apart address it) in
    let left : to address mid.letters ≡ to address (without_first it.to flight.letters) =
    ap (λ (at : Flight). to address at.letters) is.1 in
    ap (λ (all : List Letter). all ++ to address (all_sent events)) (first ∙ ap (λ (all : List Letter). to address (it ∷ []) ++ all) (sym left))
    ∙ append_assoc (to address (it ∷ [])) (to address mid.letters) (to address (all_sent events))
    ∙ ap (λ (all : List Letter). to address (it ∷ []) ++ all) (in_order mid next events address rest)
    ∙ sym (append_assoc (to address (it ∷ [])) (to address (all_read events)) (to address next.letters))
    ∙ ap (λ (all : List Letter). all ++ to address next.letters) (sym (head_out (is_for address) it (all_read events)))
in_order flight next (nothing at ∷ events) address (mid, is, rest) =
    ap (λ (now : Flight). to address now.letters ++ to address (all_sent events)) (sym is.1) ∙ in_order mid next events address rest
in_order flight next (failed ∷ events) address (mid, is, rest) =
    ap (λ (now : Flight). to address now.letters ++ to address (all_sent events)) (sym is) ∙ in_order mid next events address rest

pub arrive_in_order : ArriveInOrder
arrive_in_order net events address none goes =
    in_order start net.flight events address (subst (λ (fates : List Fate). LeadAll fates start events net.flight) none goes.flight)

pub failures_lead_nowhere : FailuresLeadNowhere
failures_lead_nowhere fates flight next [] all = all
failures_lead_nowhere fates flight next (sent it ∷ events) (mid, is, rest) = (mid, is, failures_lead_nowhere fates mid next events rest)
failures_lead_nowhere fates flight next (read it ∷ events) (mid, is, rest) = (mid, is, failures_lead_nowhere fates mid next events rest)
failures_lead_nowhere fates flight next (nothing at ∷ events) (mid, is, rest) = (mid, is, failures_lead_nowhere fates mid next events rest)
failures_lead_nowhere fates flight next (failed ∷ events) (mid, is, rest) =
    subst (λ (now : Flight). LeadAll fates now (calm events) next) is (failures_lead_nowhere fates mid next events rest)
