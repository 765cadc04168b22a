-- How a reply is laid out.
use Rattle.std.specs.Prelude.{ℕ, List, [], unwrap_or}
use Rattle.driver_core.specs.Identity.{identity_text}
use Rattle.driver_core.specs.declared.state.refusal.Refusal.{Refusal}
use Rattle.driver_core.specs.declared.state.refusal.Refusal.TheVariants.{UnknownCommandType, MalformedCommand, WrongClient, InvalidChannel, UnknownSubscription, UnknownPublication, UnknownCounter, Denied, Conflict, Full, NoRoom}
use Rattle.driver_core.specs.declared.state.replies.Reply.{Reply}
use Rattle.driver_core.specs.declared.state.replies.Reply.TheVariants.{Error, OperationSuccess, PublicationReady, ExclusivePublicationReady, SubscriptionReady, AvailableImage, UnavailableImage, CounterReady, UnavailableCounter, ClientTimeout}
use Rattle.command_codec.specs.declared.error_code.ErrorCode.{ErrorCode}
use Rattle.command_codec.specs.declared.error_code.ErrorCode.TheVariants as code
use Rattle.command_codec.specs.declared.reply.Reply.{Reply as Layout}
use Rattle.command_codec.specs.declared.reply.Reply.TheVariants as layout
use Rattle.command_codec.specs.ErrorCode.{code_text}
use Rattle.policy_core.specs.Verdict.{verdict_text}

-- the code by which clients know a refusal
unfoldable pub code_for : Refusal → ErrorCode
code_for UnknownCommandType = code.UnknownCommandType
code_for MalformedCommand = code.MalformedCommand
code_for WrongClient = code.WrongClient
code_for InvalidChannel = code.InvalidChannel
code_for UnknownSubscription = code.UnknownSubscription
code_for UnknownPublication = code.UnknownPublication
code_for UnknownCounter = code.UnknownCounter
code_for (Denied verdict) = code.Denied
code_for Conflict = code.Conflict
code_for Full = code.Full
code_for NoRoom = code.NoRoom

-- the code's text, or for a denial the verdict's
unfoldable pub refusal_text : Refusal → List ℕ
refusal_text (Denied verdict) = verdict_text verdict
refusal_text refusal = unwrap_or (code_text (code_for refusal)) []

unfoldable pub layout_of : Reply → Layout
layout_of (Error correlation refusal) =
    layout.Error (record { correlation = correlation; code = code_for refusal; text = refusal_text refusal })
layout_of (OperationSuccess correlation) = layout.OperationSuccess (record { correlation = correlation })
layout_of (PublicationReady correlation registration session stream) =
    layout.PublicationReady (
    record { correlation = correlation; registration = registration; session = session; stream = stream })
layout_of (ExclusivePublicationReady correlation registration session stream) =
    layout.ExclusivePublicationReady (
    record { correlation = correlation; registration = registration; session = session; stream = stream })
layout_of (AvailableImage source subscription session stream position identity) =
    layout.AvailableImage (record {
      source = source;
      subscription = subscription;
      session = session;
      stream = stream;
      position = position;
      origin = identity_text identity;
    })
layout_of (UnavailableImage source subscription stream) =
    layout.UnavailableImage (record { source = source; subscription = subscription; stream = stream })
layout_of (SubscriptionReady correlation registration) =
    layout.SubscriptionReady (record { correlation = correlation; registration = registration })
layout_of (CounterReady correlation registration) =
    layout.CounterReady (record { correlation = correlation; registration = registration })
layout_of (UnavailableCounter registration) = layout.UnavailableCounter (record { registration = registration })
layout_of (ClientTimeout client) = layout.ClientTimeout (record { client = client })
