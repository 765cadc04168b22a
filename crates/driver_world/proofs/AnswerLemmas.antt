-- Want of memory, and any other answer.
use Rattle.std.proofs.Common.{◌≡◌, List, Option, refl}
use Rattle.log_steps.specs.declared.answer.Answer.{Answer}
use Rattle.log_steps.specs.declared.answer.Answer.TheVariants.{NoMemory, Attached, Full, Stopped, PolicyInForce, PolicyFull, Imaged, Unimaged, Dropped, Replies, Offered as OfferedAs, Polled, Gone as IsGone, Counters, Value as ValueIs, Denied, UnknownCounter, WrongClient, BadStep, Received, Heard, Limited, Elicited, Idle, Sent as SentTo, Resent, Reported}
use Rattle.driver_steps.specs.EndDecisions.{decided_unless, denials_unless}
use Rattle.driver_steps.specs.Ends.{RunEnd as DriverEnd, Moved as DriverMoved, IsAnswerOf as DriverAnswer, after_by as driver_after}
use Rattle.driver_world.specs.declared.actor.Actor.{Actor}
use Rattle.driver_world.specs.declared.seats.Seat.{Seat}
use Rattle.driver_world.specs.Audits.{Decided}
use Rattle.driver_world.specs.Ends.{RunEnd, Moved, IsAnswerOf, after_by}
use Rattle.driver_world.specs.Standing.{decided_left, seats_left}
use Rattle.driver_world.specs.Views.{Seats, seated}
use Rattle.policy_core.specs.declared.decision.Decision.{Decision}

-- an answer that is not want of memory is told as it is, and leaves what is left
pub record Other (answer : Answer) : Type 0 where
  pub unless : (decision : Option Decision) → decided_unless answer decision ≡ decision
  pub denials : (all : List Decision) → denials_unless answer all ≡ all
  pub drivers : (what : DriverMoved) → DriverAnswer what answer → answer ≡ what.answer
  pub for_driver : (what : DriverMoved) → answer ≡ what.answer → DriverAnswer what answer
  pub worlds : (what : Moved) → IsAnswerOf what answer → answer ≡ what.answer
  pub for_world : (what : Moved) → answer ≡ what.answer → IsAnswerOf what answer
  pub driver_left : (e : DriverEnd) (what : DriverMoved) → driver_after e what answer ≡ what.after
  pub left : (e : RunEnd) (what : Moved) → after_by e what answer ≡ what.after
  pub decided : (before after : Decided) → decided_left answer before after ≡ after
  pub seats : (actor : Actor) (seat : Seat) (seats : Seats) → seats_left actor seat answer seats ≡ seated actor seat seats

-- what holds of want of memory and of any other answer holds of all
pub by_answer : (P : Answer → Type 0) → P NoMemory → ((answer : Answer) → Other answer → P answer) → (answer : Answer) → P answer
by_answer P none other NoMemory = none
by_answer P none other (Attached number messages) =
    other (Attached number messages) (record { unless = λ d. refl; denials = λ l. refl; drivers = λ w is. is; for_driver = λ w is. is; worlds = λ w is. is; for_world = λ w is. is; driver_left = λ e w. refl; left = λ e w. refl; decided = λ b a. refl; seats = λ a t s. refl })
by_answer P none other (Full messages) =
    other (Full messages) (record { unless = λ d. refl; denials = λ l. refl; drivers = λ w is. is; for_driver = λ w is. is; worlds = λ w is. is; for_world = λ w is. is; driver_left = λ e w. refl; left = λ e w. refl; decided = λ b a. refl; seats = λ a t s. refl })
by_answer P none other (Stopped messages) =
    other (Stopped messages) (record { unless = λ d. refl; denials = λ l. refl; drivers = λ w is. is; for_driver = λ w is. is; worlds = λ w is. is; for_world = λ w is. is; driver_left = λ e w. refl; left = λ e w. refl; decided = λ b a. refl; seats = λ a t s. refl })
by_answer P none other (PolicyInForce epoch messages) =
    other (PolicyInForce epoch messages) (record { unless = λ d. refl; denials = λ l. refl; drivers = λ w is. is; for_driver = λ w is. is; worlds = λ w is. is; for_world = λ w is. is; driver_left = λ e w. refl; left = λ e w. refl; decided = λ b a. refl; seats = λ a t s. refl })
by_answer P none other (PolicyFull messages) =
    other (PolicyFull messages) (record { unless = λ d. refl; denials = λ l. refl; drivers = λ w is. is; for_driver = λ w is. is; worlds = λ w is. is; for_world = λ w is. is; driver_left = λ e w. refl; left = λ e w. refl; decided = λ b a. refl; seats = λ a t s. refl })
by_answer P none other (Imaged number messages) =
    other (Imaged number messages) (record { unless = λ d. refl; denials = λ l. refl; drivers = λ w is. is; for_driver = λ w is. is; worlds = λ w is. is; for_world = λ w is. is; driver_left = λ e w. refl; left = λ e w. refl; decided = λ b a. refl; seats = λ a t s. refl })
by_answer P none other (Unimaged why messages) =
    other (Unimaged why messages) (record { unless = λ d. refl; denials = λ l. refl; drivers = λ w is. is; for_driver = λ w is. is; worlds = λ w is. is; for_world = λ w is. is; driver_left = λ e w. refl; left = λ e w. refl; decided = λ b a. refl; seats = λ a t s. refl })
by_answer P none other (Received words) =
    other (Received words) (record { unless = λ d. refl; denials = λ l. refl; drivers = λ w is. is; for_driver = λ w is. is; worlds = λ w is. is; for_world = λ w is. is; driver_left = λ e w. refl; left = λ e w. refl; decided = λ b a. refl; seats = λ a t s. refl })
by_answer P none other Heard =
    other Heard (record { unless = λ d. refl; denials = λ l. refl; drivers = λ w is. is; for_driver = λ w is. is; worlds = λ w is. is; for_world = λ w is. is; driver_left = λ e w. refl; left = λ e w. refl; decided = λ b a. refl; seats = λ a t s. refl })
by_answer P none other (Limited position) =
    other (Limited position) (record { unless = λ d. refl; denials = λ l. refl; drivers = λ w is. is; for_driver = λ w is. is; worlds = λ w is. is; for_world = λ w is. is; driver_left = λ e w. refl; left = λ e w. refl; decided = λ b a. refl; seats = λ a t s. refl })
by_answer P none other Elicited =
    other Elicited (record { unless = λ d. refl; denials = λ l. refl; drivers = λ w is. is; for_driver = λ w is. is; worlds = λ w is. is; for_world = λ w is. is; driver_left = λ e w. refl; left = λ e w. refl; decided = λ b a. refl; seats = λ a t s. refl })
by_answer P none other Idle =
    other Idle (record { unless = λ d. refl; denials = λ l. refl; drivers = λ w is. is; for_driver = λ w is. is; worlds = λ w is. is; for_world = λ w is. is; driver_left = λ e w. refl; left = λ e w. refl; decided = λ b a. refl; seats = λ a t s. refl })
by_answer P none other (SentTo bytes outlets) =
    other (SentTo bytes outlets) (record { unless = λ d. refl; denials = λ l. refl; drivers = λ w is. is; for_driver = λ w is. is; worlds = λ w is. is; for_world = λ w is. is; driver_left = λ e w. refl; left = λ e w. refl; decided = λ b a. refl; seats = λ a t s. refl })
by_answer P none other (Resent to datagrams) =
    other (Resent to datagrams) (record { unless = λ d. refl; denials = λ l. refl; drivers = λ w is. is; for_driver = λ w is. is; worlds = λ w is. is; for_world = λ w is. is; driver_left = λ e w. refl; left = λ e w. refl; decided = λ b a. refl; seats = λ a t s. refl })
by_answer P none other (Reported to datagrams) =
    other (Reported to datagrams) (record { unless = λ d. refl; denials = λ l. refl; drivers = λ w is. is; for_driver = λ w is. is; worlds = λ w is. is; for_world = λ w is. is; driver_left = λ e w. refl; left = λ e w. refl; decided = λ b a. refl; seats = λ a t s. refl })
by_answer P none other (Dropped fault) =
    other (Dropped fault) (record { unless = λ d. refl; denials = λ l. refl; drivers = λ w is. is; for_driver = λ w is. is; worlds = λ w is. is; for_world = λ w is. is; driver_left = λ e w. refl; left = λ e w. refl; decided = λ b a. refl; seats = λ a t s. refl })
by_answer P none other (Replies messages) =
    other (Replies messages) (record { unless = λ d. refl; denials = λ l. refl; drivers = λ w is. is; for_driver = λ w is. is; worlds = λ w is. is; for_world = λ w is. is; driver_left = λ e w. refl; left = λ e w. refl; decided = λ b a. refl; seats = λ a t s. refl })
by_answer P none other (OfferedAs offered) =
    other (OfferedAs offered) (record { unless = λ d. refl; denials = λ l. refl; drivers = λ w is. is; for_driver = λ w is. is; worlds = λ w is. is; for_world = λ w is. is; driver_left = λ e w. refl; left = λ e w. refl; decided = λ b a. refl; seats = λ a t s. refl })
by_answer P none other (Polled fragments) =
    other (Polled fragments) (record { unless = λ d. refl; denials = λ l. refl; drivers = λ w is. is; for_driver = λ w is. is; worlds = λ w is. is; for_world = λ w is. is; driver_left = λ e w. refl; left = λ e w. refl; decided = λ b a. refl; seats = λ a t s. refl })
by_answer P none other IsGone =
    other IsGone (record { unless = λ d. refl; denials = λ l. refl; drivers = λ w is. is; for_driver = λ w is. is; worlds = λ w is. is; for_world = λ w is. is; driver_left = λ e w. refl; left = λ e w. refl; decided = λ b a. refl; seats = λ a t s. refl })
by_answer P none other (Counters rows) =
    other (Counters rows) (record { unless = λ d. refl; denials = λ l. refl; drivers = λ w is. is; for_driver = λ w is. is; worlds = λ w is. is; for_world = λ w is. is; driver_left = λ e w. refl; left = λ e w. refl; decided = λ b a. refl; seats = λ a t s. refl })
by_answer P none other (ValueIs number) =
    other (ValueIs number) (record { unless = λ d. refl; denials = λ l. refl; drivers = λ w is. is; for_driver = λ w is. is; worlds = λ w is. is; for_world = λ w is. is; driver_left = λ e w. refl; left = λ e w. refl; decided = λ b a. refl; seats = λ a t s. refl })
by_answer P none other (Denied verdict) =
    other (Denied verdict) (record { unless = λ d. refl; denials = λ l. refl; drivers = λ w is. is; for_driver = λ w is. is; worlds = λ w is. is; for_world = λ w is. is; driver_left = λ e w. refl; left = λ e w. refl; decided = λ b a. refl; seats = λ a t s. refl })
by_answer P none other UnknownCounter =
    other UnknownCounter (record { unless = λ d. refl; denials = λ l. refl; drivers = λ w is. is; for_driver = λ w is. is; worlds = λ w is. is; for_world = λ w is. is; driver_left = λ e w. refl; left = λ e w. refl; decided = λ b a. refl; seats = λ a t s. refl })
by_answer P none other BadStep =
    other BadStep (record { unless = λ d. refl; denials = λ l. refl; drivers = λ w is. is; for_driver = λ w is. is; worlds = λ w is. is; for_world = λ w is. is; driver_left = λ e w. refl; left = λ e w. refl; decided = λ b a. refl; seats = λ a t s. refl })
by_answer P none other WrongClient =
    other WrongClient (record { unless = λ d. refl; denials = λ l. refl; drivers = λ w is. is; for_driver = λ w is. is; worlds = λ w is. is; for_world = λ w is. is; driver_left = λ e w. refl; left = λ e w. refl; decided = λ b a. refl; seats = λ a t s. refl })
