-- What is on its way over a network, call by call.
use Rattle.std.proofs.Common.{◌≡◌, ◌≤◌, ℕ, List, [], ◌∷◌, ◌++◌, Some, None, true, length, take, refl, ap, ◌∙◌, sym, subst, arith}
use Rattle.std.specs.List.{find, position, remove, slice_index_or}
use Rattle.std.proofs.lemmas.Grind.{common_steps}
use Rattle.std.proofs.lemmas.List.Quantifiers.{position-Some}
use Rattle.channel_uri.specs.declared.address.Address.{Address}
use Rattle.media_wire.specs.Events.{Event, sent, read, nothing, failed, failures}
use Rattle.media_wire.specs.Letters.{AreShort, is_for, letter}
use Rattle.media_wire.specs.Networks.{Flight, Net, Leads, LeadAll, Goes, failed_once, flying, start, taken, without_first}
use Rattle.media_wire.specs.declared.letter.Letter.{Letter}
use Rattle.media_wire.specs.declared.network.Fate.{Fate}
use Rattle.media_wire.proofs.Places.{found_at, place_is, same_addresses}
use Rattle.media_wire.proofs.Counting.{counted-calm, counted-failed}

pub lead-append : (fates : List Fate) (flight : Flight) (events : List Event) (mid next : Flight) (event : Event) →
    LeadAll fates flight events mid → Leads fates mid event next → LeadAll fates flight (events ++ event ∷ []) next
lead-append fates flight [] mid next event is step = (next, subst (λ (now : Flight). Leads fates now event next) is step, refl)
lead-append fates flight (first ∷ events) mid next event all step =
    (all.0, all.1, lead-append fates all.0 events mid next event all.2 step)

abbrev pub net_of : List Fate → Flight → ℕ → Net
net_of fates flight failures = record { fates = fates; flight = flight; failures = failures }

-- a call that did not fail
goes_calm : (net next : Net) (events : List Event) (event : Event) → next.fates ≡ net.fates → next.failures ≡ net.failures →
    failures (event ∷ []) ≡ 0 → Leads net.fates net.flight event next.flight → Goes net events → Goes next (events ++ event ∷ [])
goes_calm net next events event fates count none step goes = record {
  flight = subst (λ (f : List Fate). LeadAll f start (events ++ event ∷ []) next.flight) (sym fates)
      (lead-append net.fates start events net.flight next.flight event goes.flight step);
  failures = count ∙ goes.failures ∙ sym (counted-calm events event none);
}

pub goes_failed : (net next : Net) (events : List Event) → next ≡ failed_once net → Goes net events → Goes next (events ++ failed ∷ [])
goes_failed net next events is goes = subst (λ (now : Net). Goes now (events ++ failed ∷ [])) (sym is) (record {
  flight = lead-append net.fates start events net.flight net.flight failed goes.flight refl;
  failures = counted-failed events net.failures goes.failures;
})

pub goes_sent : (net next : Net) (events : List Event) (it : Letter) → next ≡ flying net it → Goes net events → Goes next (events ++ sent it ∷ [])
goes_sent net next events it is goes = subst (λ (now : Net). Goes now (events ++ sent it ∷ [])) (sym is)
    (goes_calm net (flying net it) events (sent it) refl refl refl refl goes)

pub goes_nothing : (net next : Net) (events : List Event) (address : Address) → taken net address next None → Goes net events →
    Goes next (events ++ nothing address ∷ [])
goes_nothing net next events address none goes = subst (λ (now : Net). Goes now (events ++ nothing address ∷ [])) (sym none.1)
    (goes_calm net net events (nothing address) refl refl refl (none.0, refl) goes)

abbrev less : Net → Address → Net
less net address = record net { flight = record net.flight { letters = without_first address net.flight.letters } }

goes_taken : (net next : Net) (events : List Event) (it : Letter) → find (is_for it.to) net.flight.letters ≡ Some it →
    next ≡ less net it.to → Goes net events → Goes next (events ++ read it ∷ [])
goes_taken net next events it found is goes = subst (λ (now : Net). Goes now (events ++ read it ∷ [])) (sym is)
    (goes_calm net (less net it.to) events (read it) refl refl refl (found, refl) goes)

pub goes_read : (net next : Net) (events : List Event) (address : Address) (it : Letter) (bytes : List ℕ) → taken net address next (Some it) →
    bytes ≡ it.bytes → Goes net events → Goes next (events ++ read (letter it.from address bytes) ∷ [])
goes_read net next events address it bytes found same goes =
    let read_it : Goes next (events ++ read it ∷ []) =
    goes_taken net next events it
    (subst (λ (at : Address). find (is_for at) net.flight.letters ≡ Some it) (sym found.1) found.0)
    (subst (λ (at : Address). next ≡ less net at) (sym found.1) found.3) goes in
    let to : Goes next (events ++ read (letter it.from address it.bytes) ∷ []) =
    subst (λ (at : Address). Goes next (events ++ read (letter it.from at it.bytes) ∷ [])) found.1 read_it in
    subst (λ (its : List ℕ). Goes next (events ++ read (letter it.from address its) ∷ [])) (sym same) to

-- the first letter that goes to an address is taken out at its place
pub taken_first : (fates : List Fate) (letters rest : List Letter) (turn count : ℕ) (address : Address) (place : ℕ) (it : Letter) →
    position (is_for address) letters ≡ Some place → it ≡ slice_index_or letters place it → AreShort letters → rest ≡ remove letters place →
    taken (net_of fates (record { letters = letters; turn = turn }) count) address
    (net_of fates (record { letters = rest; turn = turn }) count) (Some it)
taken_first fates letters rest turn count address place it at is short left =
    let here = position-Some (is_for address) letters place it at in
    let goes : is_for address it ≡ true = subst (λ (one : Letter). is_for address one ≡ true) (sym is) here.1 in
    let fits : length it.bytes ≤ 65507 = subst (λ (one : Letter). length one.bytes ≤ 65507) (sym is) (short place it here.0) in
    let gone : rest ≡ without_first address letters = left ∙ ap (remove letters) (sym (place_is (is_for address) letters place at)) in (
      found_at (is_for address) letters place it at is,
      same_addresses it.to address goes,
      fits,
      ap (λ (its : List Letter). net_of fates (record { letters = its; turn = turn }) count) gone,
    )

pub front_of : (bytes rest copied : List ℕ) (count : ℕ) → copied ≡ bytes → count ≡ length bytes → take count (copied ++ rest) ≡ bytes
front_of bytes rest copied count same is = rw (same, is) (grind (arith, common_steps))
