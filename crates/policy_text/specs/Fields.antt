-- The fields of a rule, and the rule that a table of a policy's text is. A rule is looked at field by field, and its
-- first fault is named.
use Rattle.std.specs.Prelude.{ℕ, ℤ, pos, negsuc, Bool, true, not, ◌&&◌, ◌==◌, nat_le, int_le, int_lt, unsigned_abs, List, [], ◌∷◌, length, Option, Some, None, Result, Ok, Err, is_some, codes, if◌then◌else◌}
use Rattle.std.specs.List.{list_all, list_any}
use Rattle.std.specs.Str.{bytes_eq}
use Rattle.toml.specs.Data.{Data, Items, no_items, item, Members, get_member, as_str, as_integer, as_array}
use Rattle.channel_uri.specs.declared.error.UriError.{UriError}
use Rattle.channel_uri.specs.declared.pattern.Pattern.{Pattern}
use Rattle.channel_uri.specs.Pattern.{pattern_of}
use Rattle.policy_core.specs.declared.act.Act.{Act}
use Rattle.policy_core.specs.declared.acts.Acts.{Acts}
use Rattle.policy_core.specs.declared.rule.Principals.{Principals}
use Rattle.policy_core.specs.declared.rule.Principals.TheVariants.{Any, One}
use Rattle.policy_core.specs.declared.rule.Rule.{Rule}
use Rattle.policy_core.specs.Act.{act_named}
use Rattle.policy_core.specs.Acts.{every_act_held, no_act_held, with_act}
use Rattle.policy_text.specs.declared.fault.Field.{Field}
use Rattle.policy_text.specs.declared.version.Version.{Version}
use Rattle.policy_text.specs.declared.version.Version.TheVariants.{One as Version1, Two as Version2}
use Rattle.policy_text.specs.declared.fault.Field.TheVariants.{Unknown, Name, Principal, Act as ActField, Channel, Stream, From, Until, Allow}
use Rattle.policy_text.specs.declared.fault.PolicyFault.{PolicyFault}
use Rattle.policy_text.specs.declared.fault.PolicyFault.TheVariants.{BadField, UnknownPrincipal, UnknownAct, BadRange}
use Rattle.policy_text.specs.Fault.{◌>>=◌, needed}
use Rattle.policy_text.specs.Members.{all_items, all_keys, bool_at, items_len, text_at}
use Rattle.policy_text.specs.Names.{Known, number_of}

-- each byte is ASCII and printable, a space too
abbrev pub is_printable : List ℕ → Bool
is_printable text = list_all (λ byte. nat_le 32 byte && nat_le byte 126) text

-- a name is 1 to 64 printable ASCII bytes
abbrev pub is_name : List ℕ → Bool
is_name text = not (length text == 0) && nat_le (length text) 64 && is_printable text

abbrev pub name_from : ℕ → Option (List ℕ) → Result (List ℕ) PolicyFault
name_from number None = Err (BadField number Name)
name_from number (Some name) = if is_name name then Ok name else Err (BadField number Name)

abbrev pub name_of : ℕ → Members → Result (List ℕ) PolicyFault
name_of number table = name_from number (text_at (codes "name") table)

-- the principal is everybody, or one whose name is known
abbrev pub principal_from : Known → ℕ → Option (List ℕ) → Result Principals PolicyFault
principal_from names number None = Err (BadField number Principal)
principal_from names number (Some name) =
    if bytes_eq name (codes "*") then Ok Any
    else needed (UnknownPrincipal number) (number_of name names) >>= λ known. Ok (One known)

abbrev pub principal_of : Known → ℕ → Members → Result Principals PolicyFault
principal_of names number table = principal_from names number (text_at (codes "principal") table)

-- the act that a text names
abbrev pub act_from : ℕ → Option (List ℕ) → Result Act PolicyFault
act_from number None = Err (BadField number ActField)
act_from number (Some name) = needed (UnknownAct number) (act_named name)

abbrev pub act_at : ℕ → Data → Result Act PolicyFault
act_at number value = act_from number (as_str value)

-- these acts and those of the items
abbrev pub acts_with : ℕ → Acts → Items → Result Acts PolicyFault
acts_with number acts no_items = Ok acts
acts_with number acts (item value items) =
    act_at number value >>= λ act. acts_with number (with_act acts act) items

-- the acts of a list: it is not empty, and all its items are texts before any is asked for its act
unfoldable pub listed_acts : ℕ → Items → Result Acts PolicyFault
listed_acts number items =
    if items_len items == 0 then Err (BadField number ActField)
    else if not (all_items (λ value. is_some (as_str value)) items) then Err (BadField number ActField)
    else acts_with number no_act_held items

-- the acts are every act, one act, or those of a list
abbrev pub acts_by : ℕ → Data → Option (List ℕ) → Option Items → Result Acts PolicyFault
acts_by number value (Some word) items =
    if bytes_eq word (codes "*") then Ok every_act_held
    else act_at number value >>= λ act. Ok (with_act no_act_held act)
acts_by number value None (Some items) = listed_acts number items
acts_by number value None None = Err (BadField number ActField)

abbrev pub acts_from : ℕ → Option Data → Result Acts PolicyFault
acts_from number None = Err (BadField number ActField)
acts_from number (Some value) = acts_by number value (as_str value) (as_array value)

abbrev pub acts_of : ℕ → Members → Result Acts PolicyFault
acts_of number table = acts_from number (get_member (codes "act") table)

-- the channels are those of a pattern
abbrev pub pattern_from : ℕ → Result Pattern UriError → Result Pattern PolicyFault
pattern_from number (Ok pattern) = Ok pattern
pattern_from number (Err error) = Err (BadField number Channel)

abbrev pub channel_from : ℕ → Option (List ℕ) → Result Pattern PolicyFault
channel_from number None = Err (BadField number Channel)
channel_from number (Some text) = pattern_from number (pattern_of text)

abbrev pub channel_of : ℕ → Members → Result Pattern PolicyFault
channel_of number table = channel_from number (text_at (codes "channel") table)

-- the integers of a list that is two integers
abbrev pub pair_from : Option ℤ → Option ℤ → Option (ℤ × ℤ)
pair_from (Some low) (Some high) = Some (low, high)
pair_from _ _ = None

abbrev pub two_integers : Items → Option (ℤ × ℤ)
two_integers (item low (item high no_items)) = pair_from (as_integer low) (as_integer high)
two_integers _ = None

-- the range from the low end to the high one, both within 32 bits
abbrev pub range_of : ℕ → ℤ → ℤ → Result (ℤ × ℤ) PolicyFault
range_of number low high =
    if int_le (negsuc 2147483647) low && int_le low high && int_le high (pos 2147483647) then Ok (low, high)
    else Err (BadRange number)

abbrev pub range_from : ℕ → Option (ℤ × ℤ) → Result (ℤ × ℤ) PolicyFault
range_from number None = Err (BadField number Stream)
range_from number (Some ends) = range_of number ends.0 ends.1

abbrev pub range_at : ℕ → Option Items → Result (ℤ × ℤ) PolicyFault
range_at number None = Err (BadField number Stream)
range_at number (Some items) = range_from number (two_integers items)

-- the range of stream ids: every one where none is stated
abbrev pub stream_from : ℕ → Option Data → Result (ℤ × ℤ) PolicyFault
stream_from number None = Ok (negsuc 2147483647, pos 2147483647)
stream_from number (Some value) = range_at number (as_array value)

abbrev pub stream_of : ℕ → Members → Result (ℤ × ℤ) PolicyFault
stream_of number table = stream_from number (get_member (codes "stream") table)

-- the word of the rule
abbrev pub allow_of : ℕ → Members → Result Bool PolicyFault
allow_of number table = needed (BadField number Allow) (bool_at (codes "allow") table)

-- ---- the moments at which it stands

-- a bound of them: none where none is stated
abbrev pub bound_from : ℕ → Field → Option Data → Result (Option ℤ) PolicyFault
bound_from number field None = Ok None
bound_from number field (Some value) = needed (BadField number field) (as_integer value) >>= λ bound. Ok (Some bound)

abbrev pub bound_at : ℕ → Field → List ℕ → Members → Result (Option ℤ) PolicyFault
bound_at number field key table = bound_from number field (get_member key table)

-- a bound is a moment where it is not negative
abbrev pub is_moment : Option ℤ → Bool
is_moment None = true
is_moment (Some bound) = int_le (pos 0) bound

-- the first moment is below the end, where both are stated
abbrev pub is_below : Option ℤ → Option ℤ → Bool
is_below (Some from) (Some until) = int_lt from until
is_below _ _ = true

abbrev pub moment_of : Option ℤ → Option ℕ
moment_of None = None
moment_of (Some bound) = Some (unsigned_abs bound)

abbrev pub span_of : ℕ → Option ℤ → Option ℤ → Result (Option ℕ × Option ℕ) PolicyFault
span_of number from until =
    if is_moment from && is_moment until && is_below from until then Ok (moment_of from, moment_of until)
    else Err (BadRange number)

-- the type of the first moment is looked at, that of the end, and then the range
abbrev pub moments_of : ℕ → Members → Result (Option ℕ × Option ℕ) PolicyFault
moments_of number table =
    bound_at number From (codes "from") table >>= λ from.
    bound_at number Until (codes "until") table >>= λ until.
    span_of number from until

-- ---- the rule

-- the keys of a rule of that version
abbrev pub is_rule_key : Version → List ℕ → Bool
is_rule_key Version1 key =
    list_any (bytes_eq key)
    (codes "name" ∷ codes "principal" ∷ codes "act" ∷ codes "channel" ∷ codes "stream" ∷ codes "allow" ∷ [])
is_rule_key Version2 key =
    list_any (bytes_eq key)
    (codes "name" ∷ codes "principal" ∷ codes "act" ∷ codes "channel" ∷ codes "stream" ∷ codes "from" ∷ codes "until"
    ∷ codes "allow" ∷ [])

-- the rule of this number, or its first fault
unfoldable pub rule_of : Known → Version → ℕ → Members → Result Rule PolicyFault
rule_of names version number table =
    if not (all_keys (is_rule_key version) table) then Err (BadField number Unknown)
    else name_of number table >>= λ name.
    principal_of names number table >>= λ principals.
    acts_of number table >>= λ acts.
    channel_of number table >>= λ channel.
    stream_of number table >>= λ range.
    moments_of number table >>= λ span.
    allow_of number table >>= λ allow.
    Ok (record {
      name = name;
      principals = principals;
      acts = acts;
      channel = channel;
      low = range.0;
      high = range.1;
      from = span.0;
      until = span.1;
      allow = allow;
    })
