-- Endpoints that are to be destinations of publications which learn theirs, and what each of them sends (Aeron Transport Protocol
-- Specification, setup eliciting status message). Own rules.
use Rattle.std.specs.Prelude.{◌≡◌, ℕ, ◌-◌, ◌<◌, ◌⊎◌, ◌&&◌, Bool, true, false, not, nat_le, List, [], ◌∷◌, ◌++◌, Option, Some, None, is_some, filter, length, map, pos, slice_set, take}
use Rattle.std.specs.List.{list_any}
use Rattle.std.specs.Ordering.{int_eq}
use Rattle.channel_uri.specs.Address.{is_same}
use Rattle.driver_core.specs.ImageRequests.{image_named}
use Rattle.driver_core.specs.State.{State}
use Rattle.frame_codec.specs.declared.status_message.StatusMessage.{StatusMessage}
use Rattle.frame_codec.specs.StatusMessage.{status_bytes}
use Rattle.media_agents.specs.Acts.{Access, Act, lacked, looked, shared}
use Rattle.media_agents.specs.declared.eliciting.Elicitation.{Elicitation}
use Rattle.media_agents.specs.declared.eliciting.Wanted.{Wanted}
use Rattle.media_agents.specs.Traffic.{AreTried}
use Rattle.media_wire.specs.Letters.{letter}
use Rattle.media_wire.specs.declared.letter.Letter.{Letter}
use Rattle.published_registry.specs.Histories.{History, IsContinuedBy, registry_of}

-- ---- whom the receiver is to elicit

abbrev pub is_it : Elicitation → Elicitation → Bool
is_it it other =
    is_same other.endpoint it.endpoint
    && (is_same other.control it.control && (int_eq other.session_id it.session_id && int_eq other.stream_id it.stream_id))

-- it is among these
abbrev pub is_among : List Elicitation → Elicitation → Bool
is_among all it = list_any (is_it it) all

-- it joins the others, unless it was among them
abbrev pub IsAsked : Elicitation → List Elicitation → List Elicitation → Type 0
IsAsked it old new =
    ((is_among old it ≡ true) × (new ≡ old)) ⊎ ((is_among old it ≡ false) × (length old < 32) × (new ≡ old ++ it ∷ []))

-- there are 32, and it is not among them
abbrev pub IsFull : Elicitation → List Elicitation → Type 0
IsFull it all = (is_among all it ≡ false) × (length all ≡ 32)

-- ---- what is due

-- none was sent yet, or a second ago, or earlier
abbrev pub is_past : ℕ → Option ℕ → Bool
is_past now None = true
is_past now (Some sent) = nat_le 1000000000 (now - sent)

-- an image of that session and stream is open at the endpoint
abbrev pub is_open : State → Elicitation → Bool
is_open s it = is_some (image_named s it.endpoint it.session_id it.stream_id)

abbrev pub is_due : State → ℕ → Wanted → Bool
is_due s now wanted = is_past now wanted.sent && not (is_open s wanted.elicitation)

abbrev pub marked : Bool → ℕ → Wanted → Wanted
marked true now wanted = record wanted { sent = Some now; due = true }
marked false now wanted = record wanted { due = false }

-- by a look at that moment it is due, or not
abbrev pub looked_at : State → ℕ → Wanted → Wanted
looked_at s now wanted = marked (is_due s now wanted) now wanted

-- ---- what is sent

-- the status message of a receiver of that id, of no position and no window, that asks for a SETUP
abbrev pub eliciting : ℕ → Elicitation → StatusMessage
eliciting receiver it = record {
  flags = record { bits = 128 };
  session_id = it.session_id;
  stream_id = it.stream_id;
  consumption_term_id = pos 0;
  consumption_term_offset = 0;
  receiver_window = 0;
  receiver_id = receiver;
}

-- as it is written: the flags are the sixth byte
abbrev pub eliciting_bytes : ℕ → Elicitation → List ℕ
eliciting_bytes receiver it = slice_set (status_bytes (eliciting receiver it)) 5 128

abbrev pub eliciting_letter : ℕ → Wanted → Letter
eliciting_letter receiver wanted =
    letter wanted.elicitation.endpoint wanted.elicitation.control (eliciting_bytes receiver wanted.elicitation)

-- one for each that is due, in their order
abbrev pub letters_due : ℕ → List Wanted → List Letter
letters_due receiver all = map (eliciting_letter receiver) (filter (λ (wanted : Wanted). wanted.due) all)

-- ---- a turn

-- those that were handed over so far, and those that are kept, with when each was sent last
pub record Eliciting : Type 0 where
  pub handed : List Elicitation
  pub wanted : List Wanted

-- one that is handed over joins the others, of which there are 32 at most
abbrev pub with_handed : Option Elicitation → Eliciting → Eliciting
with_handed None old = old
with_handed (Some it) old = record {
  handed = old.handed ++ it ∷ [];
  wanted = take 32 (old.wanted ++ record { elicitation = it; sent = None; due = false } ∷ []);
}

-- one goes out for each that is due by that registry
abbrev pub ElicitsBy : State → ℕ → Eliciting → Eliciting → List Letter → Type 0
ElicitsBy s now old new letters =
    (new ≡ record old { wanted = map (looked_at s now) old.wanted }) × (letters ≡ letters_due s.settings.receiver_id new.wanted)

-- by a look those go out that are due; none where there is no look
abbrev pub ElicitsIf : ℕ → History → Eliciting → Eliciting → List Letter → List Access → Type 0
ElicitsIf now look old new letters accesses =
    (ElicitsBy (registry_of look) now old new letters × (accesses ≡ looked look ∷ [])) ⊎ ((new ≡ old) × (letters ≡ []) × (accesses ≡ lacked ∷ []))

-- one may be handed over, and then by a look a datagram is sent for each that is due
pub record Elicits (now : ℕ) (before after : History) (old new : Eliciting) (acts : List Act) : Type 0 where
  pub handed : Option Elicitation
  pub later : IsContinuedBy before after
  pub letters : List Letter
  pub looks : List Access
  pub goes : ElicitsIf now after (with_handed handed old) new letters looks
  pub sent : List Act
  pub tried : AreTried letters sent
  pub order : acts ≡ map shared looks ++ sent
