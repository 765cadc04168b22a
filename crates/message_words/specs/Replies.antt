-- Replies in words. Own rules.
use Rattle.std.specs.Prelude.{ℕ, List, ◌++◌, codes}
use Rattle.std.specs.Fmt.{decimal, signed_decimal}
use Rattle.command_codec.specs.ErrorCode.{code_number}
use Rattle.command_codec.specs.declared.error_code.ErrorCode.{ErrorCode}
use Rattle.command_codec.specs.declared.error_code.ErrorCode.TheVariants as error
use Rattle.command_codec.specs.declared.error_reply.ErrorReply.{ErrorReply}
use Rattle.command_codec.specs.declared.available_image.AvailableImage.{AvailableImage}
use Rattle.command_codec.specs.declared.publication_ready.PublicationReady.{PublicationReady}
use Rattle.command_codec.specs.declared.reply.Reply.{Reply}
use Rattle.command_codec.specs.declared.reply.Reply.TheVariants as replies
use Rattle.message_words.specs.Shown.{field_text, text_field}
use Rattle.message_words.specs.declared.key.Key.TheVariants as keys

abbrev pub code_name : ErrorCode → List ℕ
code_name error.InvalidChannel = codes "INVALID_CHANNEL"
code_name error.UnknownSubscription = codes "UNKNOWN_SUBSCRIPTION"
code_name error.UnknownPublication = codes "UNKNOWN_PUBLICATION"
code_name error.UnknownCounter = codes "UNKNOWN_COUNTER"
code_name error.UnknownCommandType = codes "UNKNOWN_COMMAND_TYPE_ID"
code_name error.MalformedCommand = codes "MALFORMED_COMMAND"
code_name error.Denied = codes "DENIED"
code_name error.NoMemory = codes "NO_MEMORY"
code_name error.Full = codes "FULL"
code_name error.WrongClient = codes "WRONG_CLIENT"
code_name error.Conflict = codes "CONFLICT"
code_name error.NoRoom = codes "NO_ROOM"

abbrev pub error_line : ErrorReply → List ℕ
error_line reply =
    codes "on-error correlation=" ++ (decimal reply.correlation ++ (codes " code=" ++ (signed_decimal (code_number reply.code)
    ++ (codes " " ++ (code_name reply.code ++ (codes " " ++ field_text (text_field keys.Text keys.TextHex reply.text)))))))

abbrev pub available_line : AvailableImage → List ℕ
available_line reply =
    codes "on-available-image source=" ++ (decimal reply.source ++ (codes " subscription=" ++ (decimal reply.subscription
    ++ (codes " session=" ++ (signed_decimal reply.session ++ (codes " stream=" ++ (signed_decimal reply.stream
    ++ (codes " position=" ++ (decimal reply.position ++ (codes " " ++ field_text (text_field keys.Origin keys.OriginHex reply.origin)))))))))))

abbrev pub ready_text : PublicationReady → List ℕ
ready_text reply =
    codes " correlation=" ++ (decimal reply.correlation ++ (codes " registration=" ++ (decimal reply.registration
    ++ (codes " session=" ++ (signed_decimal reply.session ++ (codes " stream=" ++ signed_decimal reply.stream))))))

unfoldable pub reply_line : Reply → List ℕ
reply_line (replies.Error reply) = error_line reply
reply_line (replies.AvailableImage reply) = available_line reply
reply_line (replies.PublicationReady reply) = codes "on-publication-ready" ++ ready_text reply
reply_line (replies.OperationSuccess reply) = codes "on-operation-success correlation=" ++ decimal reply.correlation
reply_line (replies.UnavailableImage reply) =
    codes "on-unavailable-image source=" ++ (decimal reply.source ++ (codes " subscription=" ++ (decimal reply.subscription
    ++ (codes " stream=" ++ signed_decimal reply.stream))))
reply_line (replies.ExclusivePublicationReady reply) = codes "on-exclusive-publication-ready" ++ ready_text reply
reply_line (replies.SubscriptionReady reply) = codes "on-subscription-ready correlation=" ++ (decimal reply.correlation ++ (codes " registration=" ++ decimal reply.registration))
reply_line (replies.CounterReady reply) = codes "on-counter-ready correlation=" ++ (decimal reply.correlation ++ (codes " registration=" ++ decimal reply.registration))
reply_line (replies.UnavailableCounter reply) = codes "on-unavailable-counter registration=" ++ decimal reply.registration
reply_line (replies.ClientTimeout reply) = codes "on-client-timeout client=" ++ decimal reply.client
