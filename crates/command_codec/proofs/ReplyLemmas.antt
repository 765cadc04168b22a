-- Replies are read as they were written, and written as they were read.
use Rattle.std.proofs.Common.{◌≡◌, ℕ, ◌^◌, ◌<◌, List, ◌++◌, Ok, refl, sym, ap, ◌∙◌, arith}
use Rattle.command_codec.specs.declared.fault.CommandFault.TheVariants.{Unknown}
use Rattle.command_codec.specs.declared.reply.Reply.{Reply}
use Rattle.command_codec.specs.declared.reply.Reply.TheVariants as replies
use Rattle.command_codec.specs.declared.reply.Kind.{Kind}
use Rattle.command_codec.specs.declared.reply.Kind.TheVariants as kinds
use Rattle.command_codec.specs.Gives.{◌>>=◌}
use Rattle.command_codec.specs.Fields.{number_at, number_bytes, IsBytes}
use Rattle.command_codec.specs.ErrorReply.{error_of}
use Rattle.command_codec.specs.AvailableImage.{available_image_of}
use Rattle.command_codec.specs.PublicationReady.{publication_ready_of}
use Rattle.command_codec.specs.OperationSuccess.{operation_success_of}
use Rattle.command_codec.specs.UnavailableImage.{unavailable_image_of}
use Rattle.command_codec.specs.SubscriptionReady.{subscription_ready_of}
use Rattle.command_codec.specs.CounterReady.{counter_ready_of}
use Rattle.command_codec.specs.UnavailableCounter.{unavailable_counter_of}
use Rattle.command_codec.specs.ClientTimeout.{client_timeout_of}
use Rattle.command_codec.specs.Reply.{all_reply_kinds, reply_number, reply_kind_of, reply_kind_in, reply_fields_of, reply_fields_bytes, reply_of, reply_bytes, IsReply}
use Rattle.command_codec.proofs.FieldLemmas.{bind_ok, step, made_from, number_takes, number_again}
use Rattle.command_codec.proofs.Finding.{found_by_number}
use Rattle.command_codec.proofs.ErrorReplyLemmas.{error_takes, error_again}
use Rattle.command_codec.proofs.AvailableImageLemmas.{available_image_takes, available_image_again}
use Rattle.command_codec.proofs.PublicationReadyLemmas.{publication_ready_takes, publication_ready_again}
use Rattle.command_codec.proofs.OperationSuccessLemmas.{operation_success_takes, operation_success_again}
use Rattle.command_codec.proofs.UnavailableImageLemmas.{unavailable_image_takes, unavailable_image_again}
use Rattle.command_codec.proofs.SubscriptionReadyLemmas.{subscription_ready_takes, subscription_ready_again}
use Rattle.command_codec.proofs.CounterReadyLemmas.{counter_ready_takes, counter_ready_again}
use Rattle.command_codec.proofs.UnavailableCounterLemmas.{unavailable_counter_takes, unavailable_counter_again}
use Rattle.command_codec.proofs.ClientTimeoutLemmas.{client_timeout_takes, client_timeout_again}

-- ---- a line for each kind of reply

kind_again : (kind : Kind) → reply_kind_of (reply_number kind) ≡ Ok kind
unfolding reply_kind_of reply_number
kind_again kinds.Error = refl
kind_again kinds.AvailableImage = refl
kind_again kinds.PublicationReady = refl
kind_again kinds.OperationSuccess = refl
kind_again kinds.UnavailableImage = refl
kind_again kinds.ExclusivePublicationReady = refl
kind_again kinds.SubscriptionReady = refl
kind_again kinds.CounterReady = refl
kind_again kinds.UnavailableCounter = refl
kind_again kinds.ClientTimeout = refl

number_fits : (kind : Kind) → reply_number kind < 256 ^ 4
unfolding reply_number
number_fits kinds.Error = omega arith
number_fits kinds.AvailableImage = omega arith
number_fits kinds.PublicationReady = omega arith
number_fits kinds.OperationSuccess = omega arith
number_fits kinds.UnavailableImage = omega arith
number_fits kinds.ExclusivePublicationReady = omega arith
number_fits kinds.SubscriptionReady = omega arith
number_fits kinds.CounterReady = omega arith
number_fits kinds.UnavailableCounter = omega arith
number_fits kinds.ClientTimeout = omega arith

fields_again : (reply : Reply) → IsReply reply → reply_fields_of (reply_kind_in reply) (reply_fields_bytes reply) ≡ Ok reply
unfolding reply_fields_of reply_fields_bytes
fields_again (replies.Error fields) h = rw (error_again fields h) refl
fields_again (replies.AvailableImage fields) h = rw (available_image_again fields h) refl
fields_again (replies.PublicationReady fields) h = rw (publication_ready_again fields h) refl
fields_again (replies.OperationSuccess fields) h = rw (operation_success_again fields h) refl
fields_again (replies.UnavailableImage fields) h = rw (unavailable_image_again fields h) refl
fields_again (replies.ExclusivePublicationReady fields) h = rw (publication_ready_again fields h) refl
fields_again (replies.SubscriptionReady fields) h = rw (subscription_ready_again fields h) refl
fields_again (replies.CounterReady fields) h = rw (counter_ready_again fields h) refl
fields_again (replies.UnavailableCounter fields) h = rw (unavailable_counter_again fields h) refl
fields_again (replies.ClientTimeout fields) h = rw (client_timeout_again fields h) refl

number_known : (number : ℕ) (kind : Kind) → reply_kind_of number ≡ Ok kind → number ≡ reply_number kind
unfolding reply_kind_of
number_known number kind e = found_by_number reply_number all_reply_kinds Unknown number kind e

-- what was read as a kind's fields
record Reads (kind : Kind) (bytes : List ℕ) (reply : Reply) : Type 0 where
  is_kind : kind ≡ reply_kind_in reply
  spelt : bytes ≡ reply_fields_bytes reply
  sound : IsReply reply

fields_take : (kind : Kind) (bytes : List ℕ) (reply : Reply) → IsBytes bytes → reply_fields_of kind bytes ≡ Ok reply → Reads kind bytes reply
unfolding reply_fields_of reply_fields_bytes
fields_take kinds.Error bytes reply fits e =
    made_from (error_of bytes) (λ fields. replies.Error fields) (Reads kinds.Error bytes) reply (λ fields is.
    let t = error_takes bytes fields fits is in
    record { is_kind = refl; spelt = t.0; sound = t.1 }) e
fields_take kinds.AvailableImage bytes reply fits e =
    made_from (available_image_of bytes) (λ fields. replies.AvailableImage fields) (Reads kinds.AvailableImage bytes) reply (λ fields is.
    let t = available_image_takes bytes fields fits is in
    record { is_kind = refl; spelt = t.0; sound = t.1 }) e
fields_take kinds.PublicationReady bytes reply fits e =
    made_from (publication_ready_of bytes) (λ fields. replies.PublicationReady fields) (Reads kinds.PublicationReady bytes) reply (λ fields is.
    let t = publication_ready_takes bytes fields fits is in
    record { is_kind = refl; spelt = t.0; sound = t.1 }) e
fields_take kinds.OperationSuccess bytes reply fits e =
    made_from (operation_success_of bytes) (λ fields. replies.OperationSuccess fields) (Reads kinds.OperationSuccess bytes) reply (λ fields is.
    let t = operation_success_takes bytes fields fits is in
    record { is_kind = refl; spelt = t.0; sound = t.1 }) e
fields_take kinds.UnavailableImage bytes reply fits e =
    made_from (unavailable_image_of bytes) (λ fields. replies.UnavailableImage fields) (Reads kinds.UnavailableImage bytes) reply (λ fields is.
    let t = unavailable_image_takes bytes fields fits is in
    record { is_kind = refl; spelt = t.0; sound = t.1 }) e
fields_take kinds.ExclusivePublicationReady bytes reply fits e =
    made_from (publication_ready_of bytes) (λ fields. replies.ExclusivePublicationReady fields) (Reads kinds.ExclusivePublicationReady bytes) reply (λ fields is.
    let t = publication_ready_takes bytes fields fits is in
    record { is_kind = refl; spelt = t.0; sound = t.1 }) e
fields_take kinds.SubscriptionReady bytes reply fits e =
    made_from (subscription_ready_of bytes) (λ fields. replies.SubscriptionReady fields) (Reads kinds.SubscriptionReady bytes) reply (λ fields is.
    let t = subscription_ready_takes bytes fields fits is in
    record { is_kind = refl; spelt = t.0; sound = t.1 }) e
fields_take kinds.CounterReady bytes reply fits e =
    made_from (counter_ready_of bytes) (λ fields. replies.CounterReady fields) (Reads kinds.CounterReady bytes) reply (λ fields is.
    let t = counter_ready_takes bytes fields fits is in
    record { is_kind = refl; spelt = t.0; sound = t.1 }) e
fields_take kinds.UnavailableCounter bytes reply fits e =
    made_from (unavailable_counter_of bytes) (λ fields. replies.UnavailableCounter fields) (Reads kinds.UnavailableCounter bytes) reply (λ fields is.
    let t = unavailable_counter_takes bytes fields fits is in
    record { is_kind = refl; spelt = t.0; sound = t.1 }) e
fields_take kinds.ClientTimeout bytes reply fits e =
    made_from (client_timeout_of bytes) (λ fields. replies.ClientTimeout fields) (Reads kinds.ClientTimeout bytes) reply (λ fields is.
    let t = client_timeout_takes bytes fields fits is in
    record { is_kind = refl; spelt = t.0; sound = t.1 }) e

-- ---- replies

pub reply_again : (reply : Reply) → IsReply reply → reply_of (reply_bytes reply) ≡ Ok reply
unfolding reply_of reply_bytes
reply_again reply h =
    let kind = reply_kind_in reply in
    rw (number_again 4 (reply_number kind) (reply_fields_bytes reply) (number_fits kind), kind_again kind, fields_again reply h) refl

-- the type and the fields, in place of what they are equal to
spelt_by : (number : ℕ) (bytes : List ℕ) (reply : Reply) → number ≡ reply_number (reply_kind_in reply) → bytes ≡ reply_fields_bytes reply → number_bytes 4 number ++ bytes ≡ reply_bytes reply
unfolding reply_bytes
spelt_by number bytes reply p q = rw (p, q) refl

pub reply_takes : (bytes : List ℕ) (reply : Reply) → IsBytes bytes → reply_of bytes ≡ Ok reply → (reply_bytes reply ≡ bytes) × IsReply reply
unfolding reply_of
reply_takes bytes reply fits e =
    elim (bind_ok (number_at 4 bytes) (λ number. reply_kind_of number.0 >>= λ kind. reply_fields_of kind number.1) reply e) [
      | step n n_is after_n ↦
          elim (bind_ok (reply_kind_of n.0) (λ kind. reply_fields_of kind n.1) reply after_n) [
            | step kind kind_is after_kind ↦
                let t = number_takes 4 bytes n fits n_is in
                let r = fields_take kind n.1 reply t.0.rest_fits after_kind in
                let number = number_known n.0 kind kind_is ∙ ap reply_number r.is_kind in
                (sym (t.0.parts ∙ spelt_by n.0 n.1 reply number r.spelt), r.sound)
          ]
    ]
