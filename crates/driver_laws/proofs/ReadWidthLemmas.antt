-- A stream that a command is read with, and a session that a channel states or a counter gives, are numbers of 32 bits.
use Rattle.std.proofs.Common.{◌≡◌, ℕ, zero, suc, ◌+◌, ◌==◌, ◌^◌, ◌<◌, ◌≤◌, ℤ, pos, neg_ℤ, Bool, true, false, cond, List, [], ◌∷◌, drop, find, Option, Some, None, Result, Ok, unwrap_or, refl, subst, arith}
use Rattle.std.specs.Int.{w32, cast_signed}
use Rattle.std.specs.List.{AllByRecursion, starts_with}
use Rattle.std.specs.Option.{option_map}
use Rattle.std.specs.Prelude.{FitsSigned, codes, nat_eq, nat_lt}
use Rattle.std.proofs.lemmas.Bool.{cond_both}
use Rattle.std.proofs.lemmas.Bool.Decides.{nat_tests}
use Rattle.std.proofs.Math.Facts.{sfits_to_z}
use Rattle.channel_uri.specs.Channel.{Shape}
use Rattle.channel_uri.specs.Number.{◌>>?◌, below, decimal_of}
use Rattle.channel_uri.specs.Parameters.{stated_session_of}
use Rattle.channel_uri.specs.Session.{session_id_of}
use Rattle.command_codec.specs.declared.add_publication.AddPublication.{AddPublication}
use Rattle.command_codec.specs.declared.command.Body.{Body}
use Rattle.command_codec.specs.declared.command.Body.TheVariants as bodies
use Rattle.command_codec.specs.declared.command.Command.{Command}
use Rattle.command_codec.specs.declared.fault.CommandFault.{CommandFault}
use Rattle.command_codec.specs.declared.fault.CommandFault.TheVariants.{Unknown}
use Rattle.command_codec.specs.AddCounter.{add_counter_of}
use Rattle.command_codec.specs.AddPublication.{add_publication_of}
use Rattle.command_codec.specs.AddSubscription.{add_subscription_of}
use Rattle.command_codec.specs.Command.{all_kinds, command_of, fields_of, kind_number, kind_of}
use Rattle.command_codec.specs.Destination.{destination_of}
use Rattle.command_codec.specs.Fields.{ended, longest, number_at, signed_at, text_at}
use Rattle.command_codec.specs.Gives.{◌>>=◌}
use Rattle.command_codec.specs.Removal.{removal_of}
use Rattle.command_codec.specs.SetCounter.{set_counter_of}
use Rattle.command_codec.specs.TerminateDriver.{terminate_driver_of}
use Rattle.command_codec.proofs.FieldLemmas.{bind_ok, ended_takes, made_from, ok_is, step, was_some}
use Rattle.stream_registry.specs.declared.row.LogRow.{LogRow}
use Rattle.stream_registry.specs.Adding.{session_of}
use Rattle.stream_registry.specs.Sessions.{after, free_from, free_session, is_taken}
use Rattle.stream_registry.specs.Streams.{Streams}

-- ---- a stream

-- whatever number is read as signed
cast_by : (low : Bool) (n : ℕ) → nat_lt n (2 ^ 32) ≡ low → FitsSigned w32 (cast_signed w32 n)
cast_by true n is = sfits_to_z (record { fits = grind (arith, nat_tests) })
cast_by false n is =
    let high : nat_lt n (2 ^ 31) ≡ false = grind (arith, nat_tests) in
    let over : 2 ^ 32 ≤ n = grind (arith, nat_tests) in
    rw (high) (record { sfits = omega (arith, over) })

signed_fits : (n : ℕ) → FitsSigned w32 (cast_signed w32 n)
signed_fits n = cast_by (nat_lt n (2 ^ 32)) n refl

stream_fits : (bytes : List ℕ) (x : ℤ × List ℕ) → signed_at w32 4 bytes ≡ Ok x → FitsSigned w32 x.0
stream_fits bytes x is =
    made_from (number_at 4 bytes) (λ k. (cast_signed w32 k.0, k.1)) (λ (y : ℤ × List ℕ). FitsSigned w32 y.0) x
    (λ k read. signed_fits k.0) is

publication_fits : (bytes : List ℕ) (a : AddPublication) → add_publication_of bytes ≡ Ok a → FitsSigned w32 a.stream
unfolding add_publication_of
publication_fits bytes a is =
    elim (bind_ok (signed_at w32 4 bytes) (λ stream. text_at longest stream.1 >>= λ channel. ended (record { stream = stream.0; channel = channel.0 }) channel.1) a is) [
      | step stream stream_is later ↦
          elim (bind_ok (text_at longest stream.1) (λ channel. ended (record { stream = stream.0; channel = channel.0 }) channel.1) a later) [
            | step channel channel_is last ↦
                let made : AddPublication = record { stream = stream.0; channel = channel.0 } in
                subst (λ (x : AddPublication). FitsSigned w32 x.stream) (ended_takes made a channel.1 last).0
                (stream_fits bytes stream stream_is)
          ]
    ]

-- of what a command asks for, the stream of a publication
abbrev pub HasStreamOf32Bits : Body → Type 0
HasStreamOf32Bits (bodies.AddPublication fields) = FitsSigned w32 fields.stream
HasStreamOf32Bits (bodies.AddExclusivePublication fields) = FitsSigned w32 fields.stream
HasStreamOf32Bits body = Unit {0}

-- what holds of each of some holds of the one that is found
found_step : {K : Type 0} (P : K → Type 0) (test : K → Bool) (first kind : K) (later : List K) (b : Bool) → P first →
    (find test later ≡ Some kind → P kind) → cond b (Some first) (find test later) ≡ Some kind → P kind
found_step P test first kind later true holds rest is = let same : first ≡ kind = cc is in subst P same holds
found_step P test first kind later false holds rest is = rest is

found_holds : {K : Type 0} (P : K → Type 0) (test : K → Bool) (kinds : List K) (kind : K) → AllByRecursion P kinds →
    find test kinds ≡ Some kind → P kind
found_holds P test [] kind all is = absurd (cc is)
found_holds P test (first ∷ later) kind all is =
    found_step P test first kind later (test first) all.0 (found_holds P test later kind all.1) is

-- a command that publishes has its stream
publishing_fits : (bytes : List ℕ) (make : AddPublication → Body) (body : Body) →
    ((fields : AddPublication) → FitsSigned w32 fields.stream → HasStreamOf32Bits (make fields)) →
    (add_publication_of bytes >>= λ fields. Ok (make fields)) ≡ Ok body → HasStreamOf32Bits body
publishing_fits bytes make body fits is =
    made_from (add_publication_of bytes) make HasStreamOf32Bits body
    (λ fields read. fits fields (publication_fits bytes fields read)) is

-- one with other fields, or with no fields, has none
other_fits : {F : Type 0} (read : Result F CommandFault) (make : F → Body) (body : Body) → ((fields : F) → HasStreamOf32Bits (make fields)) →
    (read >>= λ fields. Ok (make fields)) ≡ Ok body → HasStreamOf32Bits body
other_fits read make body none is = made_from read make HasStreamOf32Bits body (λ fields found. none fields) is

bare_fits : (bare : Body) (bytes : List ℕ) (body : Body) → HasStreamOf32Bits bare → ended bare bytes ≡ Ok body → HasStreamOf32Bits body
bare_fits bare bytes body none is = subst HasStreamOf32Bits (ended_takes bare body bytes is).0 none

first_of : {X Y : Type 0} → X → Y → X × Y
first_of one later = (one, later)

-- whatever kind of command it is
kinds_fit : AllByRecursion (λ kind. (bytes : List ℕ) (body : Body) → fields_of kind bytes ≡ Ok body → HasStreamOf32Bits body) all_kinds
unfolding fields_of
kinds_fit =
    first_of (λ bytes body is. publishing_fits bytes (λ fields. bodies.AddPublication fields) body (λ fields fits. fits) is)
    (first_of (λ bytes body is. other_fits (removal_of bytes) (λ fields. bodies.RemovePublication fields) body (λ fields. tt) is)
    (first_of (λ bytes body is. publishing_fits bytes (λ fields. bodies.AddExclusivePublication fields) body (λ fields fits. fits) is)
    (first_of (λ bytes body is. other_fits (add_subscription_of bytes) (λ fields. bodies.AddSubscription fields) body (λ fields. tt) is)
    (first_of (λ bytes body is. other_fits (removal_of bytes) (λ fields. bodies.RemoveSubscription fields) body (λ fields. tt) is)
    (first_of (λ bytes body is. bare_fits bodies.ClientKeepalive bytes body tt is)
    (first_of (λ bytes body is. other_fits (destination_of bytes) (λ fields. bodies.AddDestination fields) body (λ fields. tt) is)
    (first_of (λ bytes body is. other_fits (destination_of bytes) (λ fields. bodies.RemoveDestination fields) body (λ fields. tt) is)
    (first_of (λ bytes body is. other_fits (add_counter_of bytes) (λ fields. bodies.AddCounter fields) body (λ fields. tt) is)
    (first_of (λ bytes body is. other_fits (removal_of bytes) (λ fields. bodies.RemoveCounter fields) body (λ fields. tt) is)
    (first_of (λ bytes body is. bare_fits bodies.ClientClose bytes body tt is)
    (first_of (λ bytes body is. other_fits (terminate_driver_of bytes) (λ fields. bodies.TerminateDriver fields) body (λ fields. tt) is)
    (first_of (λ bytes body is. other_fits (set_counter_of bytes) (λ fields. bodies.SetCounter fields) body (λ fields. tt) is) tt))))))))))))

kind_fits : (number : ℕ) (bytes : List ℕ) (body : Body) → (kind_of number >>= λ kind. fields_of kind bytes) ≡ Ok body → HasStreamOf32Bits body
unfolding kind_of
kind_fits number bytes body is =
    elim (bind_ok (kind_of number) (λ kind. fields_of kind bytes) body is) [
      | step kind kind_is read ↦
          found_holds (λ kind. (bytes : List ℕ) (body : Body) → fields_of kind bytes ≡ Ok body → HasStreamOf32Bits body) (λ kind. number == kind_number kind)
          all_kinds kind kinds_fit
          (was_some _ Unknown kind kind_is) bytes body read
    ]

pub command_fits : (bytes : List ℕ) (command : Command) → command_of bytes ≡ Ok command → HasStreamOf32Bits command.body
unfolding command_of
command_fits bytes command is =
    elim (bind_ok (number_at 4 bytes) (λ number. kind_of number.0 >>= λ kind. number_at 8 number.1 >>= λ client. number_at 8 client.1 >>= λ correlation. fields_of kind correlation.1 >>= λ body. Ok (record { client = client.0; correlation = correlation.0; body = body })) command is) [
      | step number number_is after_number ↦
          elim (bind_ok (kind_of number.0) (λ kind. number_at 8 number.1 >>= λ client. number_at 8 client.1 >>= λ correlation. fields_of kind correlation.1 >>= λ body. Ok (record { client = client.0; correlation = correlation.0; body = body })) command after_number) [
            | step kind kind_is after_kind ↦
                elim (bind_ok (number_at 8 number.1) (λ client. number_at 8 client.1 >>= λ correlation. fields_of kind correlation.1 >>= λ body. Ok (record { client = client.0; correlation = correlation.0; body = body })) command after_kind) [
                  | step client client_is after_client ↦
                      elim (bind_ok (number_at 8 client.1) (λ correlation. fields_of kind correlation.1 >>= λ body. Ok (record { client = client.0; correlation = correlation.0; body = body })) command after_client) [
                        | step correlation correlation_is after_correlation ↦
                            elim (bind_ok (fields_of kind correlation.1) (λ body. Ok (record { client = client.0; correlation = correlation.0; body = body })) command after_correlation) [
                              | step body body_is made_is ↦
                                  let made : Command = record { client = client.0; correlation = correlation.0; body = body } in
                                  subst (λ (x : Command). HasStreamOf32Bits x.body) (ok_is made command made_is)
                                  (kind_fits number.0 correlation.1 body (rw (kind_is) body_is))
                            ]
                      ]
                ]
          ]
    ]

-- ---- a session

positive_by : (low : Bool) (n : ℕ) (session : ℤ) → nat_lt n (2 ^ 31) ≡ low → option_map pos (cond low (Some n) None) ≡ Some session →
    FitsSigned w32 session
positive_by true n session small is =
    let same : pos n ≡ session = cc is in
    let low : n < 2 ^ 31 = grind (arith, nat_tests) in
    subst (FitsSigned w32) same (record { sfits = low })
positive_by false n session small is = absurd (cc is)

negative_fits : (n : ℕ) → n < 2 ^ 31 + 1 → FitsSigned w32 (neg_ℤ (pos n))
negative_fits zero low = record { sfits = omega arith }
negative_fits (suc n) low = record { sfits = omega (arith, low) }

negative_by : (low : Bool) (n : ℕ) (session : ℤ) → nat_lt n (2 ^ 31 + 1) ≡ low →
    option_map (λ number. neg_ℤ (pos number)) (cond low (Some n) None) ≡ Some session → FitsSigned w32 session
negative_by true n session small is =
    let same : neg_ℤ (pos n) ≡ session = cc is in
    let low : n < 2 ^ 31 + 1 = grind (arith, nat_tests) in
    subst (FitsSigned w32) same (negative_fits n low)
negative_by false n session small is = absurd (cc is)

positive_number : (read : Option ℕ) (session : ℤ) → option_map pos (below (2 ^ 31) read) ≡ Some session → FitsSigned w32 session
positive_number None session is = absurd (cc is)
positive_number (Some n) session is = positive_by (nat_lt n (2 ^ 31)) n session refl is

negative_number : (read : Option ℕ) (session : ℤ) →
    option_map (λ number. neg_ℤ (pos number)) (below (2 ^ 31 + 1) read) ≡ Some session → FitsSigned w32 session
negative_number None session is = absurd (cc is)
negative_number (Some n) session is = negative_by (nat_lt n (2 ^ 31 + 1)) n session refl is

either_number : (negative : Bool) (one other : Option ℕ) (session : ℤ) →
    cond negative (option_map (λ number. neg_ℤ (pos number)) (below (2 ^ 31 + 1) one)) (option_map pos (below (2 ^ 31) other)) ≡ Some session →
    FitsSigned w32 session
either_number true one other session is = negative_number one session is
either_number false one other session is = positive_number other session is

text_fits : (text : List ℕ) (session : ℤ) → session_id_of text ≡ Some session → FitsSigned w32 session
unfolding session_id_of
text_fits text session is =
    either_number (starts_with nat_eq text (codes "-")) (decimal_of (drop 1 text)) (decimal_of text) session is

value_fits : (value : Option (List ℕ)) (session : ℤ) → (value >>? session_id_of) ≡ Some session → FitsSigned w32 session
value_fits None session is = absurd (cc is)
value_fits (Some text) session is = text_fits text session is

stated_fits : (channel : Shape) (session : ℤ) → stated_session_of channel ≡ Some session → FitsSigned w32 session
unfolding stated_session_of
stated_fits channel session is = value_fits _ session is

-- the one that comes after it
pub after_fits : (session : ℤ) → FitsSigned w32 (after session)
after_fits session = sfits_to_z (record { fits = omega arith })

free_fits : (others logs : List LogRow) (session : ℤ) → FitsSigned w32 session → FitsSigned w32 (free_from others logs session)
free_fits [] logs session fits = fits
free_fits (other ∷ others) logs session fits =
    cond_both (is_taken logs session) (free_from others logs (after session)) session (FitsSigned w32)
    (λ taken. free_fits others logs (after session) (after_fits session)) (λ free. fits)

own_by : (s : Streams) (stated : Option ℤ) → ((session : ℤ) → stated ≡ Some session → FitsSigned w32 session) →
    FitsSigned w32 s.next_session → FitsSigned w32 (unwrap_or stated (free_session s.sources s.next_session))
unfolding free_session
own_by s None each fits = free_fits s.sources s.sources s.next_session fits
own_by s (Some session) each fits = each session refl

-- that of a new log
pub own_session_fits : (s : Streams) (channel : Shape) → FitsSigned w32 s.next_session → FitsSigned w32 (session_of s channel)
own_session_fits s channel fits = own_by s (stated_session_of channel) (stated_fits channel) fits
