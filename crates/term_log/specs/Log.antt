-- A term log: what it keeps of its frames, who reads it, and what becomes of an offer. Own rules but for the greatest
-- position (Aeron Transport Protocol Specification, positions, and flow control by a limit).
use Rattle.std.specs.Prelude.{ℕ, ◌+◌, ◌-◌, ◌*◌, ◌/◌, ◌%◌, ◌<◌, ◌≤◌, ◌^◌, Bool, true, false, not, List, [], ◌∷◌, length, min, max, nat_lt, nat_le, if◌then◌else◌, refl}
use Rattle.std.specs.Coded.{Coded, code_by, coded×, coded_list}
use Rattle.log_pairs.specs.Pairs.{pair_code, least_of}
use Rattle.log_pairs.specs.declared.pair.Pair.{Pair}
use Rattle.term_log.specs.declared.ident.Ident.{Ident}
use Rattle.term_log.specs.declared.ident.LogKind.{LogKind}
use Rattle.term_log.specs.declared.ident.LogKind.TheVariants.{Ipc, Udp}
use Rattle.term_log.specs.declared.offer.Offer.{Offer}
use Rattle.term_log.specs.declared.offer.Offer.TheVariants.{At, TooLong, MaxPosition, BackPressured, AdminAction}
use Rattle.term_log.specs.Ident.{greatest_position, payload_length}
use Rattle.term_log.specs.Frames.{Frame, pad, total}
use Rattle.term_log.specs.Cut.{cut}
use Rattle.term_log.specs.Kept.{Kept, kept_code, rest_of, offset_of}
use Rattle.term_log.specs.Pairs.{IsNear, AreNear}
use Rattle.term_log.specs.Sender.{Sending, sending_code, is_past}

-- what is kept of all frames, the subscriptions that read, and what the sender keeps
pub record Log : Type 0 where
  pub kept : Kept
  pub pairs : List Pair
  pub sender : Sending

abbrev pub log_code : Coded Log
log_code =
    code_by (Kept × (List Pair × Sending)) (coded× kept_code (coded× (coded_list pair_code) sending_code))
    (λ l. (l.kept, (l.pairs, l.sender)))
    (λ p. record { kept = p.0; pairs = p.1.0; sender = p.1.1 })
    (λ _. refl)

-- the first position that is held: the start of the second term before that of the tail, or the log's start
abbrev pub low_of : Kept → ℕ
low_of k = max k.ident.start ((k.tail / k.ident.term_length - 2) * k.ident.term_length)

-- no offer is taken from this position on: half a term past the least position, of the pairs, or of pairs and sender;
-- a log over IPC that nobody reads takes none
abbrev pub limit_among : LogKind → ℕ → ℕ → ℕ → List Pair → ℕ
limit_among Udp tail half sender pairs = least_of sender pairs + half
limit_among Ipc tail half sender [] = tail
limit_among Ipc tail half sender (pair ∷ pairs) = least_of pair.position pairs + half

unfoldable pub limit_of : Log → ℕ
limit_of l = limit_among l.kept.ident.kind l.kept.tail (l.kept.ident.term_length / 2) l.sender.position l.pairs

-- somebody reads it over IPC; over UDP a status message was accepted within the timeout
abbrev pub connected_among : LogKind → List Pair → Bool → Bool
connected_among Udp pairs heard = heard
connected_among Ipc [] heard = false
connected_among Ipc (pair ∷ pairs) heard = true

unfoldable pub connected_of : Log → ℕ → ℕ → Bool
connected_of l now timeout = connected_among l.kept.ident.kind l.pairs (not (is_past now l.sender.status timeout))

-- the greatest length of a message
abbrev pub greatest_message : Ident → ℕ
greatest_message i = min (i.term_length / 8) 16777216

-- the frames of a message
abbrev pub frames_of : Kept → List ℕ → List Frame
frames_of k message = cut (payload_length k.ident) message

-- how many bytes of the tail's term are left
abbrev pub rest_at : Ident → ℕ → ℕ
rest_at i tail = i.term_length - tail % i.term_length

-- what a log with that tail answers, which takes no offer from `limit` on: the first that applies
unfoldable pub answer_of : Ident → ℕ → ℕ → List ℕ → Offer
answer_of i tail limit message =
    if nat_lt (greatest_message i) (length message) then TooLong
    else if nat_lt (greatest_position i) (tail + total (cut (payload_length i) message)) then MaxPosition
    else if nat_le limit tail then BackPressured
    else if nat_lt (rest_at i tail) (total (cut (payload_length i) message)) then AdminAction
    else At (tail + total (cut (payload_length i) message))

abbrev pub offer_of : Log → List ℕ → Offer
offer_of l message = answer_of l.kept.ident l.kept.tail (limit_of l) message

-- what is appended at that tail: the whole message, or a pad over the rest of the term, or nothing
abbrev pub appended_at : Offer → Ident → ℕ → List ℕ → List Frame
appended_at (At position) i tail message = cut (payload_length i) message
appended_at AdminAction i tail message = pad (rest_at i tail) ∷ []
appended_at TooLong i tail message = []
appended_at MaxPosition i tail message = []
appended_at BackPressured i tail message = []

abbrev pub appended : Offer → Kept → List ℕ → List Frame
appended answer k message = appended_at answer k.ident k.tail message

-- why what is appended fits, where something is
abbrev pub HasRoom : Offer → Log → List ℕ → Type 0
HasRoom (At position) l message =
    (length message < 2 ^ 24) × (offset_of l.kept + total (frames_of l.kept message) ≤ l.kept.ident.term_length)
    × (l.kept.tail + total (frames_of l.kept message) ≤ greatest_position l.kept.ident)
    × (2 * total (frames_of l.kept message) ≤ l.kept.ident.term_length) × (l.kept.tail < limit_of l)
HasRoom AdminAction l message =
    (l.kept.tail + rest_of l.kept ≤ greatest_position l.kept.ident) × (2 * rest_of l.kept ≤ l.kept.ident.term_length) × (l.kept.tail < limit_of l)
HasRoom TooLong l message = Unit {0}
HasRoom MaxPosition l message = Unit {0}
HasRoom BackPressured l message = Unit {0}

-- the sender's position counts where there is a sender
abbrev pub IsSenderNear : LogKind → ℕ → ℕ → ℕ → ℕ → Type 0
IsSenderNear Ipc start tail term sender = (start ≤ sender) × (sender ≤ tail)
IsSenderNear Udp start tail term sender = IsNear start tail term sender

-- no frame ends past the greatest position, and all positions of a log are within a term of its tail
pub record IsLog (k : Kept) (pairs : List Pair) (sender : ℕ) : Type 0 where
  pub high : k.tail ≤ greatest_position k.ident
  pub near : AreNear k.ident.start k.tail k.ident.term_length pairs
  pub sender_near : IsSenderNear k.ident.kind k.ident.start k.tail k.ident.term_length sender
