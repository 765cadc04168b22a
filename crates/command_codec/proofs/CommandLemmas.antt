-- Commands are read as they were written, and written as they were read.
use Rattle.std.proofs.Common.{◌≡◌, ℕ, ◌^◌, ◌<◌, ◌≤◌, false, ltb, List, ◌++◌, length, drop, Ok, refl, sym, ap, subst, ◌∙◌, append_assoc, arith}
use Rattle.std.proofs.lemmas.Bool.{ltb-false, le-ltb}
use Rattle.std.proofs.lemmas.List.{drop-drop, length-drop}
use Rattle.command_codec.specs.declared.fault.CommandFault.TheVariants.{Unknown, Malformed}
use Rattle.command_codec.specs.declared.command.Command.{Command}
use Rattle.command_codec.specs.declared.command.Body.{Body}
use Rattle.command_codec.specs.declared.command.Body.TheVariants as bodies
use Rattle.command_codec.specs.declared.command.Kind.{Kind}
use Rattle.command_codec.specs.declared.command.Kind.TheVariants as kinds
use Rattle.command_codec.specs.Gives.{◌>>=◌}
use Rattle.command_codec.specs.Fields.{number_in, number_at, number_bytes, IsBytes}
use Rattle.command_codec.specs.AddPublication.{add_publication_of}
use Rattle.command_codec.specs.AddSubscription.{add_subscription_of}
use Rattle.command_codec.specs.Removal.{removal_of}
use Rattle.command_codec.specs.Destination.{destination_of}
use Rattle.command_codec.specs.AddCounter.{add_counter_of}
use Rattle.command_codec.specs.TerminateDriver.{terminate_driver_of}
use Rattle.command_codec.specs.SetCounter.{set_counter_of}
use Rattle.command_codec.specs.Command.{all_kinds, kind_number, kind_of, kind_in, fields_of, fields_bytes, AreFields, command_of, command_bytes, correlation_of, IsCommand}
use Rattle.command_codec.proofs.FieldLemmas.{bind_ok, step, guard_ok, made_from, ok_is, Takes, Takes-then, number_takes, number_again, ended_takes}
use Rattle.command_codec.proofs.Finding.{found_by_number}
use Rattle.command_codec.proofs.AddPublicationLemmas.{add_publication_takes, add_publication_again}
use Rattle.command_codec.proofs.AddSubscriptionLemmas.{add_subscription_takes, add_subscription_again}
use Rattle.command_codec.proofs.RemovalLemmas.{removal_takes, removal_again}
use Rattle.command_codec.proofs.DestinationLemmas.{destination_takes, destination_again}
use Rattle.command_codec.proofs.AddCounterLemmas.{add_counter_takes, add_counter_again}
use Rattle.command_codec.proofs.TerminateDriverLemmas.{terminate_driver_takes, terminate_driver_again}
use Rattle.command_codec.proofs.SetCounterLemmas.{set_counter_takes, set_counter_again}

-- ---- a line for each kind of command

kind_again : (kind : Kind) → kind_of (kind_number kind) ≡ Ok kind
unfolding kind_of kind_number
kind_again kinds.AddPublication = refl
kind_again kinds.RemovePublication = refl
kind_again kinds.AddExclusivePublication = refl
kind_again kinds.AddSubscription = refl
kind_again kinds.RemoveSubscription = refl
kind_again kinds.ClientKeepalive = refl
kind_again kinds.AddDestination = refl
kind_again kinds.RemoveDestination = refl
kind_again kinds.AddCounter = refl
kind_again kinds.RemoveCounter = refl
kind_again kinds.ClientClose = refl
kind_again kinds.TerminateDriver = refl
kind_again kinds.SetCounter = refl

number_fits : (kind : Kind) → kind_number kind < 256 ^ 4
unfolding kind_number
number_fits kinds.AddPublication = omega arith
number_fits kinds.RemovePublication = omega arith
number_fits kinds.AddExclusivePublication = omega arith
number_fits kinds.AddSubscription = omega arith
number_fits kinds.RemoveSubscription = omega arith
number_fits kinds.ClientKeepalive = omega arith
number_fits kinds.AddDestination = omega arith
number_fits kinds.RemoveDestination = omega arith
number_fits kinds.AddCounter = omega arith
number_fits kinds.RemoveCounter = omega arith
number_fits kinds.ClientClose = omega arith
number_fits kinds.TerminateDriver = omega arith
number_fits kinds.SetCounter = omega arith

fields_again : (body : Body) → AreFields body → fields_of (kind_in body) (fields_bytes body) ≡ Ok body
unfolding fields_of fields_bytes
fields_again (bodies.AddPublication fields) h = rw (add_publication_again fields h) refl
fields_again (bodies.RemovePublication fields) h = rw (removal_again fields h) refl
fields_again (bodies.AddExclusivePublication fields) h = rw (add_publication_again fields h) refl
fields_again (bodies.AddSubscription fields) h = rw (add_subscription_again fields h) refl
fields_again (bodies.RemoveSubscription fields) h = rw (removal_again fields h) refl
fields_again bodies.ClientKeepalive h = refl
fields_again (bodies.AddDestination fields) h = rw (destination_again fields h) refl
fields_again (bodies.RemoveDestination fields) h = rw (destination_again fields h) refl
fields_again (bodies.AddCounter fields) h = rw (add_counter_again fields h) refl
fields_again (bodies.RemoveCounter fields) h = rw (removal_again fields h) refl
fields_again bodies.ClientClose h = refl
fields_again (bodies.TerminateDriver fields) h = rw (terminate_driver_again fields h) refl
fields_again (bodies.SetCounter fields) h = rw (set_counter_again fields h) refl

number_known : (number : ℕ) (kind : Kind) → kind_of number ≡ Ok kind → number ≡ kind_number kind
unfolding kind_of
number_known number kind e = found_by_number kind_number all_kinds Unknown number kind e

-- what was read as a kind's fields
record Reads (kind : Kind) (bytes : List ℕ) (body : Body) : Type 0 where
  is_kind : kind ≡ kind_in body
  spelt : bytes ≡ fields_bytes body
  sound : AreFields body

fields_take : (kind : Kind) (bytes : List ℕ) (body : Body) → IsBytes bytes → fields_of kind bytes ≡ Ok body → Reads kind bytes body
unfolding fields_of fields_bytes
fields_take kinds.AddPublication bytes body fits e =
    made_from (add_publication_of bytes) (λ fields. bodies.AddPublication fields) (Reads kinds.AddPublication bytes) body (λ fields is.
    let t = add_publication_takes bytes fields fits is in
    record { is_kind = refl; spelt = t.0; sound = t.1 }) e
fields_take kinds.RemovePublication bytes body fits e =
    made_from (removal_of bytes) (λ fields. bodies.RemovePublication fields) (Reads kinds.RemovePublication bytes) body (λ fields is.
    let t = removal_takes bytes fields fits is in
    record { is_kind = refl; spelt = t.0; sound = t.1 }) e
fields_take kinds.AddExclusivePublication bytes body fits e =
    made_from (add_publication_of bytes) (λ fields. bodies.AddExclusivePublication fields) (Reads kinds.AddExclusivePublication bytes) body (λ fields is.
    let t = add_publication_takes bytes fields fits is in
    record { is_kind = refl; spelt = t.0; sound = t.1 }) e
fields_take kinds.AddSubscription bytes body fits e =
    made_from (add_subscription_of bytes) (λ fields. bodies.AddSubscription fields) (Reads kinds.AddSubscription bytes) body (λ fields is.
    let t = add_subscription_takes bytes fields fits is in
    record { is_kind = refl; spelt = t.0; sound = t.1 }) e
fields_take kinds.RemoveSubscription bytes body fits e =
    made_from (removal_of bytes) (λ fields. bodies.RemoveSubscription fields) (Reads kinds.RemoveSubscription bytes) body (λ fields is.
    let t = removal_takes bytes fields fits is in
    record { is_kind = refl; spelt = t.0; sound = t.1 }) e
fields_take kinds.ClientKeepalive bytes body fits e =
    let t = ended_takes bodies.ClientKeepalive body bytes e in
    subst (Reads kinds.ClientKeepalive bytes) t.0 (record { is_kind = refl; spelt = t.1; sound = tt })
fields_take kinds.AddDestination bytes body fits e =
    made_from (destination_of bytes) (λ fields. bodies.AddDestination fields) (Reads kinds.AddDestination bytes) body (λ fields is.
    let t = destination_takes bytes fields fits is in
    record { is_kind = refl; spelt = t.0; sound = t.1 }) e
fields_take kinds.RemoveDestination bytes body fits e =
    made_from (destination_of bytes) (λ fields. bodies.RemoveDestination fields) (Reads kinds.RemoveDestination bytes) body (λ fields is.
    let t = destination_takes bytes fields fits is in
    record { is_kind = refl; spelt = t.0; sound = t.1 }) e
fields_take kinds.AddCounter bytes body fits e =
    made_from (add_counter_of bytes) (λ fields. bodies.AddCounter fields) (Reads kinds.AddCounter bytes) body (λ fields is.
    let t = add_counter_takes bytes fields fits is in
    record { is_kind = refl; spelt = t.0; sound = t.1 }) e
fields_take kinds.RemoveCounter bytes body fits e =
    made_from (removal_of bytes) (λ fields. bodies.RemoveCounter fields) (Reads kinds.RemoveCounter bytes) body (λ fields is.
    let t = removal_takes bytes fields fits is in
    record { is_kind = refl; spelt = t.0; sound = t.1 }) e
fields_take kinds.ClientClose bytes body fits e =
    let t = ended_takes bodies.ClientClose body bytes e in
    subst (Reads kinds.ClientClose bytes) t.0 (record { is_kind = refl; spelt = t.1; sound = tt })
fields_take kinds.TerminateDriver bytes body fits e =
    made_from (terminate_driver_of bytes) (λ fields. bodies.TerminateDriver fields) (Reads kinds.TerminateDriver bytes) body (λ fields is.
    let t = terminate_driver_takes bytes fields fits is in
    record { is_kind = refl; spelt = t.0; sound = t.1 }) e
fields_take kinds.SetCounter bytes body fits e =
    made_from (set_counter_of bytes) (λ fields. bodies.SetCounter fields) (Reads kinds.SetCounter bytes) body (λ fields is.
    let t = set_counter_takes bytes fields fits is in
    record { is_kind = refl; spelt = t.0; sound = t.1 }) e

-- ---- commands

-- the head and the fields that were read, and what each took
taken : (c : Command) (number : ℕ) (bytes after_number after_client after : List ℕ) → Takes bytes (number_bytes 4 number) after_number → Takes after_number (number_bytes 8 c.client) after_client → Takes after_client (number_bytes 8 c.correlation) after → number ≡ kind_number (kind_in c.body) → after ≡ fields_bytes c.body → command_bytes c ≡ bytes
unfolding command_bytes
taken c number bytes after_number after_client after p q r number_is after_is =
    let two = Takes-then bytes (number_bytes 4 number) after_number (number_bytes 8 c.client) after_client p q in
    let three = Takes-then bytes (number_bytes 4 number ++ number_bytes 8 c.client) after_client (number_bytes 8 c.correlation) after two r in
    let spelt = three.parts ∙ ap (λ (n : ℕ). number_bytes 4 n ++ number_bytes 8 c.client ++ number_bytes 8 c.correlation ++ after) number_is in
    sym (spelt ∙ ap (λ (w : List ℕ). number_bytes 4 (kind_number (kind_in c.body)) ++ number_bytes 8 c.client ++ number_bytes 8 c.correlation ++ w) after_is)

pub command_takes : (bytes : List ℕ) (c : Command) → IsBytes bytes → command_of bytes ≡ Ok c → (command_bytes c ≡ bytes) × IsCommand c
unfolding command_of
command_takes bytes c fits e =
    elim (bind_ok (number_at 4 bytes) (λ number. kind_of number.0 >>= λ kind. number_at 8 number.1 >>= λ client. number_at 8 client.1 >>= λ correlation. fields_of kind correlation.1 >>= λ body. Ok (record { client = client.0; correlation = correlation.0; body = body })) c e) [
      | step n n_is after_n ↦
          elim (bind_ok (kind_of n.0) (λ kind. number_at 8 n.1 >>= λ client. number_at 8 client.1 >>= λ correlation. fields_of kind correlation.1 >>= λ body. Ok (record { client = client.0; correlation = correlation.0; body = body })) c after_n) [
            | step kind kind_is after_kind ↦
                elim (bind_ok (number_at 8 n.1) (λ client. number_at 8 client.1 >>= λ correlation. fields_of kind correlation.1 >>= λ body. Ok (record { client = client.0; correlation = correlation.0; body = body })) c after_kind) [
                  | step l l_is after_l ↦
                      elim (bind_ok (number_at 8 l.1) (λ correlation. fields_of kind correlation.1 >>= λ body. Ok (record { client = l.0; correlation = correlation.0; body = body })) c after_l) [
                        | step r r_is after_r ↦
                            elim (bind_ok (fields_of kind r.1) (λ body. Ok (record { client = l.0; correlation = r.0; body = body })) c after_r) [
                              | step body body_is made_is ↦
                                  let made : Command = record { client = l.0; correlation = r.0; body = body } in
                                  let t0 = number_takes 4 bytes n fits n_is in
                                  let t1 = number_takes 8 n.1 l t0.0.rest_fits l_is in
                                  let t2 = number_takes 8 l.1 r t1.0.rest_fits r_is in
                                  let t3 = fields_take kind r.1 body t2.0.rest_fits body_is in
                                  let number = number_known n.0 kind kind_is ∙ ap kind_number t3.is_kind in
                                  subst (λ (x : Command). (command_bytes x ≡ bytes) × IsCommand x) (ok_is made c made_is) (taken made n.0 bytes n.1 l.1 r.1 t0.0 t1.0 t2.0 number t3.spelt, record { client = t1.1; correlation = t2.1; body = t3.sound })
                            ]
                      ]
                ]
          ]
    ]

pub command_again : (c : Command) → IsCommand c → command_of (command_bytes c) ≡ Ok c
unfolding command_of command_bytes
command_again c fits =
    let number = number_bytes 4 (kind_number (kind_in c.body)) in
    let client = number_bytes 8 c.client in
    let correlation = number_bytes 8 c.correlation in
    let fields = fields_bytes c.body in
    let regrouped : command_bytes c ≡ number ++ (client ++ (correlation ++ fields)) = append_assoc (number ++ client) correlation fields ∙ append_assoc number client (correlation ++ fields) in
    ap command_of regrouped ∙ rw (number_again 4 (kind_number (kind_in c.body)) (client ++ (correlation ++ fields)) (number_fits (kind_in c.body)), kind_again (kind_in c.body), number_again 8 c.client (correlation ++ fields) fits.client, number_again 8 c.correlation fields fits.correlation, fields_again c.body fits.body) refl

-- ---- where the correlation id stands

-- a number that was read, and the bytes after it
number_is : (n : ℕ) (bytes : List ℕ) (x : ℕ × List ℕ) → number_at n bytes ≡ Ok x → (n ≤ length bytes) × (number_in n bytes ≡ x.0) × (drop n bytes ≡ x.1)
number_is n bytes x e =
    let made : ℕ × List ℕ = (number_in n bytes, drop n bytes) in
    let g = guard_ok (ltb (length bytes) n) Malformed (Ok made) x e in
    let same : made ≡ x = ok_is made x g.1 in
    (ltb-false _ _ g.0, ap (λ (y : ℕ × List ℕ). y.0) same, ap (λ (y : ℕ × List ℕ). y.1) same)

third : (bytes : List ℕ) (n l r : ℕ × List ℕ) → number_at 4 bytes ≡ Ok n → number_at 8 n.1 ≡ Ok l → number_at 8 l.1 ≡ Ok r → correlation_of bytes ≡ r.0
unfolding correlation_of
third bytes n l r p q s =
    let a = number_is 4 bytes n p in
    let b = number_is 8 n.1 l q in
    let c = number_is 8 l.1 r s in
    let rest : drop 12 bytes ≡ l.1 = sym (drop-drop 8 4 bytes) ∙ ap (drop 8) a.2 ∙ b.2 in
    let long : ltb (length bytes) 20 ≡ false = le-ltb _ _ (omega (arith, a.0, b.0, c.0, ap length a.2, ap length b.2, length-drop 4 bytes, length-drop 8 n.1)) in
    rw (long, rest) c.1

pub correlation_in_place : (bytes : List ℕ) (c : Command) → command_of bytes ≡ Ok c → correlation_of bytes ≡ c.correlation
unfolding command_of
correlation_in_place bytes c e =
    elim (bind_ok (number_at 4 bytes) (λ number. kind_of number.0 >>= λ kind. number_at 8 number.1 >>= λ client. number_at 8 client.1 >>= λ correlation. fields_of kind correlation.1 >>= λ body. Ok (record { client = client.0; correlation = correlation.0; body = body })) c e) [
      | step n n_is after_n ↦
          elim (bind_ok (kind_of n.0) (λ kind. number_at 8 n.1 >>= λ client. number_at 8 client.1 >>= λ correlation. fields_of kind correlation.1 >>= λ body. Ok (record { client = client.0; correlation = correlation.0; body = body })) c after_n) [
            | step kind kind_is after_kind ↦
                elim (bind_ok (number_at 8 n.1) (λ client. number_at 8 client.1 >>= λ correlation. fields_of kind correlation.1 >>= λ body. Ok (record { client = client.0; correlation = correlation.0; body = body })) c after_kind) [
                  | step l l_is after_l ↦
                      elim (bind_ok (number_at 8 l.1) (λ correlation. fields_of kind correlation.1 >>= λ body. Ok (record { client = l.0; correlation = correlation.0; body = body })) c after_l) [
                        | step r r_is after_r ↦
                            elim (bind_ok (fields_of kind r.1) (λ body. Ok (record { client = l.0; correlation = r.0; body = body })) c after_r) [
                              | step body body_is made_is ↦
                                  let made : Command = record { client = l.0; correlation = r.0; body = body } in
                                  third bytes n l r n_is l_is r_is ∙ ap (λ (x : Command). x.correlation) (ok_is made c made_is)
                            ]
                      ]
                ]
          ]
    ]
