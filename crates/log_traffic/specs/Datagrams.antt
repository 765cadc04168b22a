-- How frames that are sent again are put into datagrams: of at most the MTU, each with as many as fit of one term. Own
-- rules.
use Rattle.std.specs.Prelude.{◌≡◌, ℕ, suc, zero, ◌-◌, ◌/◌, ◌==◌, ◌&&◌, Bool, true, nat_le, List, [], ◌∷◌, drop, length, Option, Some, None, if◌then◌else◌}
use Rattle.log_traffic.specs.declared.datagrams.Ahead.{Ahead}
use Rattle.term_log.specs.declared.reading.LogFrame.{LogFrame}
use Rattle.term_log.specs.Ranges.{over_left}
use Rattle.term_log.specs.Reading.{Given, given_of, sent_bytes}

-- a frame is of the term of that number, and has no more bytes than a budget
abbrev pub fits : ℕ → ℕ → ℕ → Given → Bool
fits term number budget g = g.position / term == number && nat_le (length g.bytes) budget

-- the longest run of frames from the first on that are of one term, and have no more bytes than a budget
abbrev pub fitting : ℕ → ℕ → ℕ → List Given → List Given
fitting term number budget [] = []
fitting term number budget (g ∷ gs) =
    if fits term number budget g then g ∷ fitting term number (budget - length g.bytes) gs else []

-- those that go into the first datagram
abbrev pub first_run : ℕ → ℕ → List Given → List Given
first_run term mtu [] = []
first_run term mtu (g ∷ gs) = fitting term (g.position / term) mtu (g ∷ gs)

abbrev pub ahead : List Given → List (List ℕ) → List (List ℕ)
ahead [] others = []
ahead (g ∷ gs) others = sent_bytes (g ∷ gs) ∷ others

-- the datagrams of frames, at most n of them
abbrev pub datagrams_in : ℕ → ℕ → ℕ → List Given → List (List ℕ)
datagrams_in zero term mtu gs = []
datagrams_in (suc n) term mtu gs =
    ahead (first_run term mtu gs) (datagrams_in n term mtu (drop (length (first_run term mtu gs)) gs))

-- The datagrams of frames: in the first stand those of the first run, and so on with what is left.
unfoldable pub datagrams_of : ℕ → ℕ → List Given → List (List ℕ)
datagrams_of term mtu gs = datagrams_in (length gs) term mtu gs

-- the greatest size of a datagram, and those that are still to come
pub record Resending : Type 0 where
  pub mtu : ℕ
  pub datagrams : List (List ℕ)

-- ---- what is taken

-- the frames that are still to come, where the next one was read
abbrev pub behind_next : Option LogFrame → List Given → List Given
behind_next None later = []
behind_next (Some frame) later = given_of frame ∷ later

abbrev pub frames_in : Ahead → List Given
frames_in ahead = behind_next ahead.next (over_left ahead.later)

-- a frame is taken where the first one fits
abbrev pub TakesFitting : ℕ → ℕ → ℕ → List Given → List Given → Option LogFrame → Type 0
TakesFitting term number budget old new None = (fitting term number budget old ≡ []) × (new ≡ old)
TakesFitting term number budget old new (Some frame) = (old ≡ given_of frame ∷ new) × (fits term number budget (given_of frame) ≡ true)

-- no frames have no datagram
abbrev pub datagram_with : List Given → Option (List ℕ)
datagram_with [] = None
datagram_with (g ∷ gs) = Some (sent_bytes (g ∷ gs))

-- a run is copied, and what is after it is left
pub record Copies (run old new : List Given) (copy : List ℕ) : Type 0 where
  pub copy_is : copy ≡ sent_bytes run
  pub left : new ≡ drop (length run) old

pub record CopiesFirst (run old new : List Given) (copy : Option (List ℕ)) : Type 0 where
  pub copy_is : copy ≡ datagram_with run
  pub left : new ≡ drop (length run) old

-- the first of the datagrams is taken; none where none is left
abbrev pub TakesNext : List (List ℕ) → List (List ℕ) → Option (List ℕ) → Type 0
TakesNext old new None = old ≡ []
TakesNext old new (Some bytes) = old ≡ bytes ∷ new
