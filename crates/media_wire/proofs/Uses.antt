-- What a call did with the socket of its address.
use Rattle.std.proofs.Common.{◌≡◌, ◌<◌, ◌∷◌, [], ℕ, List, Some, inl, inr, length, length-append, slice_index_or, slice_set, ap, arith, sym, ◌∙◌, subst}
use Rattle.std.proofs.lemmas.List.Quantifiers.{position-Some}
use Rattle.std.proofs.lemmas.Option.{slice_get-get_or}
use Rattle.std.specs.declared.net.socket_addr.SocketAddrV4.{SocketAddrV4}
use Rattle.channel_uri.specs.declared.address.Address.{Address}
use Rattle.media_wire.specs.Calls.{Call}
use Rattle.media_wire.specs.Doors.{Bound, Enters, UsesIts, is_at}
use Rattle.media_wire.specs.Sockets.{Sockets}

module _ {S : Type 0} (Did : Call S → Type 0) (Stands : S → SocketAddrV4 → Type 0) where
  within : (places call : ℕ) (local : Address) (doors between : List (Bound S)) (place : ℕ) (door : Bound S) →
      Enters Did Stands places call local doors between (Some place) → place < length between
  within places call local doors between place door (inl there) =
      subst (λ (all : List (Bound S)). place < length all) (sym there.1) (position-Some (is_at local) doors place door there.0).0
  within places call local doors between place door (inr added) =
      omega (arith, length-append added.left (added.door ∷ []), ap (λ (all : List (Bound S)). length all) added.next_is, added.place_is)

module _ {S : Type 0} (Did : Call S → Type 0) (Stands : S → SocketAddrV4 → Type 0) (Uses : Bound S → Bound S → Type 0) (Fails : Type 0) where
  pub used_one : (places call : ℕ) (local : Address) (doors between next : List (Bound S)) (place : ℕ) (door after : Bound S) →
      Enters Did Stands places call local doors between (Some place) → door ≡ slice_index_or between place door →
      Uses door after → next ≡ slice_set between place after → UsesIts Did Stands Uses Fails places call local doors next
  used_one places call local doors between next place door after enters there uses next_is = inl (record {
    between = between;
    place = place;
    enters = enters;
    door = door;
    there = slice_get-get_or between place door (within Did Stands places call local doors between place door enters) ∙ ap Some (sym there);
    after = after;
    uses = uses;
    next_is = next_is;
  })

  -- of the sockets whose parts these are
  pub used_by : (inside was : Sockets S) (call : ℕ) (local : Address) (next : List (Bound S)) → inside ≡ was →
      UsesIts Did Stands Uses Fails inside.places call local inside.doors next → UsesIts Did Stands Uses Fails was.places call local was.doors next
  used_by inside was call local next is uses = subst (λ (it : Sockets S). UsesIts Did Stands Uses Fails it.places call local it.doors next) is uses
