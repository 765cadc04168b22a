-- What holds of all that is sent again, whichever log it is of.
use Rattle.std.specs.Prelude.{◌≡◌, ℕ, ◌+◌, ◌<◌, ◌≤◌, ◌/◌, List, [], ◌∷◌, ◌++◌, length, map, All}
use Rattle.frame_codec.specs.declared.nak.Nak.{Nak}
use Rattle.log_traffic.specs.Resending.{asked_of, asking_in, asking_of, resent_of}
use Rattle.term_log.specs.Frames.{IsRun}
use Rattle.term_log.specs.Ident.{IsIdent}
use Rattle.term_log.specs.Log.{Log}
use Rattle.term_log.specs.Reading.{Given, sent_bytes}
use Rattle.term_log.specs.Whole.{Stands, Whole}

-- ---- frames in datagrams

-- the frames of datagrams, one after another
abbrev pub joined : List (List Given) → List Given
joined [] = []
joined (run ∷ runs) = run ++ joined runs

abbrev pub SameTerm : ℕ → Given → Given → Type 0
SameTerm term g h = g.position / term ≡ h.position / term

-- the first of these frames is of another term, or does not fit after a run
abbrev pub IsFull : ℕ → ℕ → Given → List Given → List Given → Type 0
IsFull term mtu first run [] = Unit {0}
IsFull term mtu first run (g ∷ gs) = SameTerm term g first → mtu < length (sent_bytes run) + length g.bytes

-- a datagram has some frames, all of one term, and no more bytes than the MTU; the frame after them does not go into it
abbrev pub IsPacked : ℕ → ℕ → List Given → List Given → Type 0
IsPacked term mtu [] behind = ⊥
IsPacked term mtu (g ∷ gs) behind =
    All (λ h. SameTerm term h g) gs × (length (sent_bytes (g ∷ gs)) ≤ mtu) × IsFull term mtu g (g ∷ gs) behind

abbrev pub ArePacked : ℕ → ℕ → List (List Given) → Type 0
ArePacked term mtu [] = Unit {0}
ArePacked term mtu (run ∷ runs) = IsPacked term mtu run (joined runs) × ArePacked term mtu runs

-- datagrams have together exactly these frames, each once and in order
pub record Carry (term mtu : ℕ) (gs : List Given) (datagrams : List (List ℕ)) : Type 0 where
  pub runs : List (List Given)
  pub bytes : datagrams ≡ map sent_bytes runs
  pub together : joined runs ≡ gs
  pub packed : ArePacked term mtu runs

-- ---- of logs

-- its sizes are sound, and each frame is no longer than the MTU and ends within its term
pub record IsSound (w : Whole) : Type 0 where
  pub ident : IsIdent w.ident
  pub run : IsRun w.ident w.ident.start w.frames

-- as is each that a log stands for (`TermLog::ident` says that sizes are sound)
abbrev pub HeldLogsAreSound : Type 0
HeldLogsAreSound = (l : Log) (w : Whole) → IsIdent l.kept.ident → Stands l w → IsSound w

-- Whatever a NAK asks for, the datagrams carry exactly the frames whose ranges meet its range.
abbrev pub ResendsCarryWhatIsAsked : Type 0
ResendsCarryWhatIsAsked =
    (w : Whole) (nak : Nak) → IsSound w → Carry w.ident.term_length w.ident.mtu (asked_of w nak) (resent_of w nak)

-- what a NAK asks of a log that is held, it asks of each whole log that it stands for
abbrev pub HeldLogsAreAskedAsWholes : Type 0
HeldLogsAreAskedAsWholes = (now : ℕ) (l : Log) (w : Whole) (nak : Nak) → Stands l w → asking_of now l nak ≡ asking_in now w nak
