-- Why a request is refused, as a code and in words. Own rules; the codes of offers are Aeron's.
use Rattle.std.specs.Prelude.{ℕ, ℤ, pos, negsuc, List, codes}
use Rattle.driver_service.specs.declared.reason.Reason.{Reason}
use Rattle.driver_service.specs.declared.reason.Reason.TheVariants as reasons
use Rattle.driver_service.specs.declared.reason.Refusal.{Refusal}
use Rattle.driver_service.specs.declared.reason.Refusal.TheVariants.{Denied, Because}

unfoldable pub reason_code : Reason → ℤ
reason_code reasons.NotConnected = negsuc 0
reason_code reasons.BackPressured = negsuc 1
reason_code reasons.AdminAction = negsuc 2
reason_code reasons.Closed = negsuc 3
reason_code reasons.MaxPosition = negsuc 4
reason_code reasons.Skipped = negsuc 5
reason_code reasons.UnknownCounter = pos 5
reason_code reasons.UnknownRequest = pos 6
reason_code reasons.MalformedRequest = pos 7
reason_code reasons.TooLong = pos 8
reason_code reasons.NoMemory = pos 1002
reason_code reasons.Full = pos 1003
reason_code reasons.WrongClient = pos 1004
reason_code reasons.NoLook = pos 1007
reason_code reasons.QueueFull = pos 1008
reason_code reasons.NotOperator = pos 1009
reason_code reasons.Stopped = pos 1010
reason_code reasons.PublicationBound = pos 1011
reason_code reasons.PageBound = pos 1012
reason_code reasons.SubscriptionBound = pos 1013
reason_code reasons.CounterBound = pos 1014
reason_code reasons.UsedCorrelation = pos 1015
reason_code reasons.Unread = pos 1016

unfoldable pub reason_text : Reason → List ℕ
reason_text reasons.NotConnected = codes "no subscriber"
reason_text reasons.BackPressured = codes "back pressure"
reason_text reasons.AdminAction = codes "offer again"
reason_text reasons.Closed = codes "closed"
reason_text reasons.MaxPosition = codes "greatest position reached"
reason_text reasons.Skipped = codes "skipped after a refusal"
reason_text reasons.UnknownCounter = codes "unknown counter"
reason_text reasons.UnknownRequest = codes "unknown request"
reason_text reasons.MalformedRequest = codes "malformed request"
reason_text reasons.TooLong = codes "too long"
reason_text reasons.NoMemory = codes "no memory"
reason_text reasons.Full = codes "full"
reason_text reasons.WrongClient = codes "client gone"
reason_text reasons.NoLook = codes "no look"
reason_text reasons.QueueFull = codes "queue full"
reason_text reasons.NotOperator = codes "only for operators"
reason_text reasons.Stopped = codes "stopped"
reason_text reasons.PublicationBound = codes "bound on publications"
reason_text reasons.PageBound = codes "bound on pages"
reason_text reasons.SubscriptionBound = codes "bound on subscriptions"
reason_text reasons.CounterBound = codes "bound on counters"
reason_text reasons.UsedCorrelation = codes "correlation id was used"
reason_text reasons.Unread = codes "polls nothing"

unfoldable pub refusal_code : Refusal → ℤ
refusal_code (Denied text) = pos 1001
refusal_code (Because reason) = reason_code reason

unfoldable pub refusal_text : Refusal → List ℕ
refusal_text (Denied text) = text
refusal_text (Because reason) = reason_text reason
