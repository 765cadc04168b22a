-- The channel of an address is what its text denotes.
use Rattle.std.proofs.Common.{◌≡◌, ℕ, ◌≤◌, Bool, true, false, cond, List, ◌++◌, None, refl, sym, ap, subst, ◌∙◌, length, drop, nat_eq, codes, append-nil, arith}
use Rattle.std.specs.List.{starts_with}
use Rattle.std.proofs.lemmas.Bool.Decides.{nat_tests}
use Rattle.channel_uri.specs.declared.address.Address.{Address}
use Rattle.channel_uri.specs.declared.media.Media.TheVariants.{Udp}
use Rattle.channel_uri.specs.Address.{IsEndpoint, address_text}
use Rattle.channel_uri.specs.Canonical.{canonical_of}
use Rattle.channel_uri.specs.Channel.{EndpointsAreDenoted, denotes, endpoint_shape}
use Rattle.channel_uri.specs.Key.{key_of}
use Rattle.channel_uri.specs.Syntax.{address_read}
use Rattle.channel_uri.specs.Values.{fault_of, first_fault}
use Rattle.channel_uri.proofs.AddressBack.{addresses_are_read_back, plain_text}
use Rattle.channel_uri.proofs.Canonical.{IsKept, canonical_size, localhost, written_back}
use Rattle.channel_uri.proofs.Cuts.{Lacks}

-- a text without `l` does not begin with `localhost:`
stays_from : (b : Bool) (value : List ℕ) → starts_with nat_eq value (codes "localhost:") ≡ b → Lacks 108 value →
    cond b (codes "127.0.0.1:" ++ drop 10 value) value ≡ value
stays_from true value is lacks = absurd (let begins : Lacks 108 (codes "localhost:" ++ drop 10 value) = subst (Lacks 108) (localhost value is) lacks in let first = begins.0 in cc)
stays_from false value is lacks = refl

stays : (value : List ℕ) → Lacks 108 value → address_read value ≡ value
stays value lacks = stays_from _ value refl lacks

kept : (address : Address) → IsEndpoint address → IsKept (codes "endpoint", address_text address)
kept address is = record {
  named = refl;
  no_equals = (refl, (refl, (refl, (refl, (refl, (refl, (refl, (refl, tt))))))));
  no_bar = (refl, (refl, (refl, (refl, (refl, (refl, (refl, (refl, tt))))))));
  value_no_bar = (plain_text 124 address refl refl refl is).lacks;
  read = stays (address_text address) (plain_text 108 address refl refl refl is).lacks;
}

sound : (address : Address) → IsEndpoint address → first_fault (endpoint_shape address).keys ≡ None
unfolding fault_of key_of
sound address is = rw (addresses_are_read_back.read_back address is) refl

written : (address : Address) → canonical_of (endpoint_shape address) ≡ codes "aeron:udp?endpoint=" ++ address_text address
unfolding canonical_of
written address = ap (λ value. codes "aeron:udp?endpoint=" ++ value) (append-nil (address_text address))

pub endpoints_are_denoted : EndpointsAreDenoted
endpoints_are_denoted address is =
    let size : length (canonical_of (endpoint_shape address)) ≤ 1024 =
    omega (arith, canonical_size false Udp (endpoint_shape address).keys, (plain_text 108 address refl refl refl is).short) in
    ap denotes (sym (written address))
    ∙ written_back (endpoint_shape address) (grind (arith, nat_tests, size)) refl (kept address is, tt) (tt, tt) (sound address is)
