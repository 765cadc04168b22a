-- How many messages a log takes. Own rules.
use Rattle.std.specs.Prelude.{◌≡◌, ℕ, ◌+◌, List}
use Rattle.term_log.specs.declared.offer.Offer.{Offer}
use Rattle.term_log.specs.declared.offer.Offer.TheVariants.{At, TooLong, MaxPosition, BackPressured, AdminAction}
use Rattle.term_log.specs.Frames.{messages_of}
use Rattle.term_log.specs.Whole.{Whole, answer_to, offered}

-- how many messages a log took that gave this answer: only a position says that it took one
abbrev pub taken_by : Offer → ℕ
taken_by (At position) = 1
taken_by TooLong = 0
taken_by MaxPosition = 0
taken_by BackPressured = 0
taken_by AdminAction = 0

-- an offer has one message more exactly where it is answered by a position
abbrev pub OffersCountMessages : Type 0
OffersCountMessages =
    (w : Whole) (message : List ℕ) → messages_of (offered w message).frames ≡ messages_of w.frames + taken_by (answer_to w message)
