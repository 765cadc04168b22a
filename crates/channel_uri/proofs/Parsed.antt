-- What a text that denotes a channel has.
use Rattle.std.proofs.Common.{◌≡◌, ℕ, Bool, true, false, cond, List, [], ◌∷◌, Option, Some, None, Result, Ok, Err, is_some, refl, sym, ap, ◌∙◌, length, nat_lt, codes}
use Rattle.std.specs.Option.{option_or}
use Rattle.std.specs.Str.{bytes_eq}
use Rattle.std.proofs.lemmas.Slice.Eq.{bytes_eq-Decides}
use Rattle.channel_uri.specs.declared.error.UriError.{UriError}
use Rattle.channel_uri.specs.declared.key.Key.{Key}
use Rattle.channel_uri.specs.declared.key.Key.TheVariants.{Endpoint, Control, Mtu, TermLength, SessionId, Linger}
use Rattle.channel_uri.specs.Address.{address_of}
use Rattle.channel_uri.specs.Channel.{Shape, denotes, media_of}
use Rattle.channel_uri.specs.Key.{key_of}
use Rattle.channel_uri.specs.Keys.{Pair, value_at}
use Rattle.channel_uri.specs.Number.{◌>>?◌}
use Rattle.channel_uri.specs.Parameters.{StatedIsRead, ValuesKeepTheirRules, endpoint_of, control_of, stated_session_of, stated_mtu_of, stated_term_length_of, stated_linger_of}
use Rattle.channel_uri.specs.Quantity.{mtu_of, term_length_of, linger_of}
use Rattle.channel_uri.specs.Session.{session_id_of}
use Rattle.channel_uri.specs.Syntax.{◌>>=◌, unspied, behind_scheme, halves, keys_of}
use Rattle.channel_uri.specs.Values.{first_fault, fault_of, checked, unless}

pub bind_ok : {A B : Type 0} (r : Result A UriError) (next : A → Result B UriError) (y : B) → r >>= next ≡ Ok y →
    (x : A) × (r ≡ Ok x) × (next x ≡ Ok y)
bind_ok (Ok x) next y e = (x, refl, e)
bind_ok (Err fault) next y e = absurd cc

pub if_ok : {A : Type 0} (b : Bool) (fault : UriError) (r : Result A UriError) (y : A) → cond b (Err fault) r ≡ Ok y →
    (b ≡ false) × (r ≡ Ok y)
if_ok true fault r y e = absurd cc
if_ok false fault r y e = (refl, e)

checked_ok : {A : Type 0} (fault : Option UriError) (x y : A) → checked fault x ≡ Ok y → (fault ≡ None) × (x ≡ y)
checked_ok None x y e = (refl, cc)
checked_ok (Some fault) x y e = absurd cc

-- the parts of a text that denotes a channel
pub record Parsed (text : List ℕ) (channel : Shape) : Type 0 where
  pub short : nat_lt 1024 (length text) ≡ false
  pub rest : List ℕ
  pub scheme : behind_scheme (unspied text).1 ≡ Ok rest
  pub spy : (unspied text).0 ≡ channel.spy
  pub media : media_of channel.spy (halves rest).0 ≡ Ok channel.media
  pub keys : keys_of (halves rest).1 ≡ Ok channel.keys
  pub sound : first_fault channel.keys ≡ None

pub parsed : (text : List ℕ) (channel : Shape) → denotes text ≡ Ok channel → Parsed text channel
unfolding denotes
parsed text channel e =
    let long = if_ok (nat_lt 1024 (length text)) _ _ channel e in
    let scheme = bind_ok (behind_scheme (unspied text).1) _ channel long.1 in
    let media = bind_ok (media_of (unspied text).0 (halves scheme.0).0) _ channel scheme.2 in
    let keys = bind_ok (keys_of (halves scheme.0).1) _ channel media.2 in
    let kept = checked_ok (first_fault keys.0) _ channel keys.2 in
    record {
      short = long.0;
      rest = scheme.0;
      scheme = scheme.1;
      spy = ap (λ c. c.spy) kept.1;
      media = ap (λ spy. media_of spy (halves scheme.0).0) (sym (ap (λ c. c.spy) kept.1)) ∙ (media.1 ∙ ap (λ c. Ok c.media) kept.1);
      keys = keys.1 ∙ ap (λ c. Ok c.keys) kept.1;
      sound = ap (λ c. first_fault c.keys) (sym kept.1) ∙ kept.0;
    }

option_or-none : (a b : Option UriError) → option_or a b ≡ None → (a ≡ None) × (b ≡ None)
option_or-none None b e = (refl, e)
option_or-none (Some fault) b e = absurd cc

abbrev Sound : List Pair → List ℕ → List ℕ → Type 0
Sound keys key value = first_fault keys ≡ None → value_at key keys ≡ Some value → fault_of (key, value) ≡ None

sound_from : (b : Bool) (e : Pair) (es : List Pair) (key value : List ℕ) → bytes_eq key e.0 ≡ b → Sound es key value →
    first_fault (e ∷ es) ≡ None → cond b (Some e.1) (value_at key es) ≡ Some value → fault_of (key, value) ≡ None
sound_from true e es key value same later sound stands =
    let key_is : key ≡ e.0 = (bytes_eq-Decides key e.0).0 same in
    let value_is : e.1 ≡ value = cc in
    rw (key_is, ← value_is) (option_or-none (fault_of e) (first_fault es) sound).0
sound_from false e es key value same later sound stands =
    later (option_or-none (fault_of e) (first_fault es) sound).1 stands

sound_at : (keys : List Pair) (key value : List ℕ) → Sound keys key value
sound_at [] key value sound stands = absurd cc
sound_at (e ∷ es) key value sound stands =
    sound_from (bytes_eq key e.0) e es key value refl (sound_at es key value) sound stands

pub values_kept : ValuesKeepTheirRules
values_kept text key value channel e stands = sound_at channel.keys key value (parsed text channel e).sound stands

good : (key : Key) (b : Bool) → unless key b ≡ None → b ≡ true
good key true e = refl
good key false e = absurd cc

-- a reader that takes each value that stands is missing none
read_where : {A : Type 0} (key : Key) (reader : List ℕ → Option A) (o : Option (List ℕ)) →
    ((value : List ℕ) → o ≡ Some value → unless key (is_some (reader value)) ≡ None) → is_some (o >>? reader) ≡ is_some o
read_where key reader None takes = refl
read_where key reader (Some value) takes = good key (is_some (reader value)) (takes value refl)

pub stated_read : StatedIsRead
unfolding fault_of key_of endpoint_of control_of stated_session_of stated_mtu_of stated_term_length_of stated_linger_of
stated_read text channel e =
    let kept = values_kept text in
    record {
      endpoint = read_where Endpoint address_of (value_at (codes "endpoint") channel.keys) (λ value. kept (codes "endpoint") value channel e);
      control = read_where Control address_of (value_at (codes "control") channel.keys) (λ value. kept (codes "control") value channel e);
      session = read_where SessionId session_id_of (value_at (codes "session-id") channel.keys) (λ value. kept (codes "session-id") value channel e);
      mtu = read_where Mtu mtu_of (value_at (codes "mtu") channel.keys) (λ value. kept (codes "mtu") value channel e);
      term_length = read_where TermLength term_length_of (value_at (codes "term-length") channel.keys) (λ value. kept (codes "term-length") value channel e);
      linger = read_where Linger linger_of (value_at (codes "linger") channel.keys) (λ value. kept (codes "linger") value channel e);
    }
