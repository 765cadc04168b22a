-- Replies as bytes: type, then the fields of the type, and nothing after them.
-- (Layouts and type numbers are this project's own.)
use Rattle.std.specs.Prelude.{ℕ, ◌==◌, Bool, true, false, List, [], ◌∷◌, ◌++◌, find, ok_or, Result, Ok}
use Rattle.command_codec.specs.declared.fault.CommandFault.{CommandFault}
use Rattle.command_codec.specs.declared.fault.CommandFault.TheVariants.{Unknown}
use Rattle.command_codec.specs.declared.reply.Reply.{Reply}
use Rattle.command_codec.specs.declared.reply.Reply.TheVariants as replies
use Rattle.command_codec.specs.declared.reply.Kind.{Kind}
use Rattle.command_codec.specs.declared.reply.Kind.TheVariants as kinds
use Rattle.command_codec.specs.Gives.{◌>>=◌}
use Rattle.command_codec.specs.Fields.{number_at, number_bytes}
use Rattle.command_codec.specs.ErrorReply.{error_of, error_bytes, IsErrorReply}
use Rattle.command_codec.specs.AvailableImage.{available_image_of, available_image_bytes, IsAvailableImage}
use Rattle.command_codec.specs.PublicationReady.{publication_ready_of, publication_ready_bytes, IsPublicationReady}
use Rattle.command_codec.specs.OperationSuccess.{operation_success_of, operation_success_bytes, IsOperationSuccess}
use Rattle.command_codec.specs.UnavailableImage.{unavailable_image_of, unavailable_image_bytes, IsUnavailableImage}
use Rattle.command_codec.specs.SubscriptionReady.{subscription_ready_of, subscription_ready_bytes, IsSubscriptionReady}
use Rattle.command_codec.specs.CounterReady.{counter_ready_of, counter_ready_bytes, IsCounterReady}
use Rattle.command_codec.specs.UnavailableCounter.{unavailable_counter_of, unavailable_counter_bytes, IsUnavailableCounter}
use Rattle.command_codec.specs.ClientTimeout.{client_timeout_of, client_timeout_bytes, IsClientTimeout}

-- ---- the kinds of replies, a line each

abbrev pub all_reply_kinds : List Kind
all_reply_kinds =
    kinds.Error ∷ kinds.AvailableImage ∷ kinds.PublicationReady ∷ kinds.OperationSuccess ∷ kinds.UnavailableImage
    ∷ kinds.ExclusivePublicationReady ∷ kinds.SubscriptionReady ∷ kinds.CounterReady ∷ kinds.UnavailableCounter
    ∷ kinds.ClientTimeout ∷ []

-- the number of a kind
unfoldable pub reply_number : Kind → ℕ
reply_number kinds.Error = 0x0F01
reply_number kinds.AvailableImage = 0x0F02
reply_number kinds.PublicationReady = 0x0F03
reply_number kinds.OperationSuccess = 0x0F04
reply_number kinds.UnavailableImage = 0x0F05
reply_number kinds.ExclusivePublicationReady = 0x0F06
reply_number kinds.SubscriptionReady = 0x0F07
reply_number kinds.CounterReady = 0x0F08
reply_number kinds.UnavailableCounter = 0x0F09
reply_number kinds.ClientTimeout = 0x0F0A

-- the kind that has this number
unfoldable pub reply_kind_of : ℕ → Result Kind CommandFault
reply_kind_of number = ok_or (find (λ kind. number == reply_number kind) all_reply_kinds) Unknown

-- the kind of a reply
abbrev pub reply_kind_in : Reply → Kind
reply_kind_in (replies.Error fields) = kinds.Error
reply_kind_in (replies.AvailableImage fields) = kinds.AvailableImage
reply_kind_in (replies.PublicationReady fields) = kinds.PublicationReady
reply_kind_in (replies.OperationSuccess fields) = kinds.OperationSuccess
reply_kind_in (replies.UnavailableImage fields) = kinds.UnavailableImage
reply_kind_in (replies.ExclusivePublicationReady fields) = kinds.ExclusivePublicationReady
reply_kind_in (replies.SubscriptionReady fields) = kinds.SubscriptionReady
reply_kind_in (replies.CounterReady fields) = kinds.CounterReady
reply_kind_in (replies.UnavailableCounter fields) = kinds.UnavailableCounter
reply_kind_in (replies.ClientTimeout fields) = kinds.ClientTimeout

-- the reply whose fields these bytes are
unfoldable pub reply_fields_of : Kind → List ℕ → Result Reply CommandFault
reply_fields_of kinds.Error bytes = error_of bytes >>= λ fields. Ok (replies.Error fields)
reply_fields_of kinds.AvailableImage bytes = available_image_of bytes >>= λ fields. Ok (replies.AvailableImage fields)
reply_fields_of kinds.PublicationReady bytes = publication_ready_of bytes >>= λ fields. Ok (replies.PublicationReady fields)
reply_fields_of kinds.OperationSuccess bytes = operation_success_of bytes >>= λ fields. Ok (replies.OperationSuccess fields)
reply_fields_of kinds.UnavailableImage bytes = unavailable_image_of bytes >>= λ fields. Ok (replies.UnavailableImage fields)
reply_fields_of kinds.ExclusivePublicationReady bytes = publication_ready_of bytes >>= λ fields. Ok (replies.ExclusivePublicationReady fields)
reply_fields_of kinds.SubscriptionReady bytes = subscription_ready_of bytes >>= λ fields. Ok (replies.SubscriptionReady fields)
reply_fields_of kinds.CounterReady bytes = counter_ready_of bytes >>= λ fields. Ok (replies.CounterReady fields)
reply_fields_of kinds.UnavailableCounter bytes = unavailable_counter_of bytes >>= λ fields. Ok (replies.UnavailableCounter fields)
reply_fields_of kinds.ClientTimeout bytes = client_timeout_of bytes >>= λ fields. Ok (replies.ClientTimeout fields)

unfoldable pub reply_fields_bytes : Reply → List ℕ
reply_fields_bytes (replies.Error fields) = error_bytes fields
reply_fields_bytes (replies.AvailableImage fields) = available_image_bytes fields
reply_fields_bytes (replies.PublicationReady fields) = publication_ready_bytes fields
reply_fields_bytes (replies.OperationSuccess fields) = operation_success_bytes fields
reply_fields_bytes (replies.UnavailableImage fields) = unavailable_image_bytes fields
reply_fields_bytes (replies.ExclusivePublicationReady fields) = publication_ready_bytes fields
reply_fields_bytes (replies.SubscriptionReady fields) = subscription_ready_bytes fields
reply_fields_bytes (replies.CounterReady fields) = counter_ready_bytes fields
reply_fields_bytes (replies.UnavailableCounter fields) = unavailable_counter_bytes fields
reply_fields_bytes (replies.ClientTimeout fields) = client_timeout_bytes fields

-- what can be read again: each number fits its field, a text is ASCII and no longer than its length can say
abbrev pub IsReply : Reply → Type 0
IsReply (replies.Error fields) = IsErrorReply fields
IsReply (replies.AvailableImage fields) = IsAvailableImage fields
IsReply (replies.PublicationReady fields) = IsPublicationReady fields
IsReply (replies.OperationSuccess fields) = IsOperationSuccess fields
IsReply (replies.UnavailableImage fields) = IsUnavailableImage fields
IsReply (replies.ExclusivePublicationReady fields) = IsPublicationReady fields
IsReply (replies.SubscriptionReady fields) = IsSubscriptionReady fields
IsReply (replies.CounterReady fields) = IsCounterReady fields
IsReply (replies.UnavailableCounter fields) = IsUnavailableCounter fields
IsReply (replies.ClientTimeout fields) = IsClientTimeout fields

-- whether a reply has a text
abbrev pub reply_has_text : Reply → Bool
reply_has_text (replies.Error fields) = true
reply_has_text (replies.AvailableImage fields) = true
reply_has_text (replies.PublicationReady fields) = false
reply_has_text (replies.OperationSuccess fields) = false
reply_has_text (replies.UnavailableImage fields) = false
reply_has_text (replies.ExclusivePublicationReady fields) = false
reply_has_text (replies.SubscriptionReady fields) = false
reply_has_text (replies.CounterReady fields) = false
reply_has_text (replies.UnavailableCounter fields) = false
reply_has_text (replies.ClientTimeout fields) = false

-- ---- replies

-- The type is looked at first: whatever follows a type that is not known, the reply is unknown.
unfoldable pub reply_of : List ℕ → Result Reply CommandFault
reply_of bytes = do
  number ← number_at 4 bytes
  kind ← reply_kind_of number.0
  reply_fields_of kind number.1

unfoldable pub reply_bytes : Reply → List ℕ
reply_bytes reply = number_bytes 4 (reply_number (reply_kind_in reply)) ++ reply_fields_bytes reply
