-- Which calls a request makes. Own rules.
use Rattle.std.specs.Prelude.{◌≡◌, ◌≤◌, ℕ, ◌⊎◌, Bool, true, List, [], ◌∷◌, take, Result, Ok, Err, min}
use Rattle.driver_service.specs.declared.reason.Refusal.{Refusal}
use Rattle.driver_service.specs.Calls.{Call, CallsOnly, Does, Stay, Command, Offer, Poll, Mail, Look, Value, Publication, Image}
use Rattle.service_records.specs.declared.fault.RecordFault.{RecordFault}
use Rattle.service_records.specs.declared.request.Request.{Request}
use Rattle.service_records.specs.declared.request.Request.TheVariants as requests
use Rattle.service_records.specs.Pairs.{pairs_of}
use Rattle.service_records.specs.Request.{request_of}

-- how many fragments a poll gives at most
abbrev pub fragments : ℕ → ℕ
fragments limit = min limit 4096

abbrev pub IsOffer : ℕ → List ℕ → Call → Type 0
IsOffer registration message (Offer r m _) = (r ≡ registration) × (m ≡ message)
IsOffer registration message _ = ⊥

abbrev pub IsPoll : ℕ → ℕ → ℕ → Call → Type 0
IsPoll subscription source limit (Poll s l n _ _) = (s ≡ subscription) × (l ≡ source) × (n ≡ limit)
IsPoll subscription source limit _ = ⊥

-- for so many fragments at most
abbrev pub IsPollWithin : ℕ → ℕ → ℕ → Call → Type 0
IsPollWithin subscription source limit (Poll s l n _ _) = (s ≡ subscription) × (l ≡ source) × (n ≤ limit)
IsPollWithin subscription source limit _ = ⊥

-- of one of these pairs
abbrev pub IsPollOf : ℕ → List (ℕ × ℕ) → Call → Type 0
IsPollOf limit [] call = ⊥
IsPollOf limit (pair ∷ pairs) call = IsPollWithin pair.0 pair.1 limit call ⊎ IsPollOf limit pairs call

-- the pairs that are polled of those that came: 64 at most
abbrev pub polled_pairs : List ℕ → List (ℕ × ℕ)
polled_pairs tail = take 64 (pairs_of tail)

abbrev pub IsMail : Call → Type 0
IsMail (Mail _ _) = Unit {0}
IsMail _ = ⊥

abbrev pub IsCommand : List ℕ → Call → Type 0
IsCommand bytes (Command given _) = given ≡ bytes
IsCommand bytes _ = ⊥

abbrev pub IsLook : Call → Type 0
IsLook (Look _ _) = Unit {0}
IsLook _ = ⊥

abbrev pub IsValue : ℕ → Call → Type 0
IsValue number (Value n _) = n ≡ number
IsValue number _ = ⊥

abbrev pub IsPublication : ℕ → Call → Type 0
IsPublication registration (Publication r _) = r ≡ registration
IsPublication registration _ = ⊥

abbrev pub IsImage : ℕ → ℕ → Call → Type 0
IsImage subscription source (Image s l _) = (s ≡ subscription) × (l ≡ source)
IsImage subscription source _ = ⊥

-- A call that gave nothing, so that the same one may be made again: an offer that was not taken, a poll without a fragment.
abbrev pub GaveNothing : Call → Type 0
GaveNothing (Offer registration message (Err refusal)) = Unit {0}
GaveNothing (Poll subscription source limit written (Ok count)) = count ≡ 0
GaveNothing call = ⊥

abbrev pub IsTry : (Call → Type 0) → Call → Type 0
IsTry own call = own call × GaveNothing call

-- whether an answer to an offer is the last one: a message that was taken is not offered again
abbrev pub Finishes : Bool → Result ℕ Refusal → Type 0
Finishes final (Ok position) = final ≡ true
Finishes final (Err refusal) = Unit {0}

-- The call that a request with that tail names. One that only an operator may make names none.
abbrev pub IsNamed : Request → List ℕ → Call → Type 0
IsNamed requests.Command tail call = IsCommand tail call
IsNamed (requests.Offer seen wait registration) tail call = IsOffer registration tail call
IsNamed (requests.Poll limit wait subscription source) tail call = IsPollWithin subscription source (fragments limit) call
IsNamed (requests.Mail wait) tail call = IsMail call
IsNamed requests.List tail call = IsLook call
IsNamed (requests.Value number) tail call = IsValue number call
IsNamed requests.Stop tail call = ⊥
IsNamed requests.Reload tail call = ⊥
IsNamed requests.Status tail call = ⊥
IsNamed (requests.Decisions from choice) tail call = ⊥
IsNamed (requests.PollAll limit wait) tail call = IsPollOf (fragments limit) (polled_pairs tail) call
IsNamed (requests.PublicationPositions registration) tail call = IsPublication registration call
IsNamed (requests.ImagePositions subscription source) tail call = IsImage subscription source call

-- A call that a request makes: the one that it names, or that the client is heard of.
abbrev pub IsAllowed : Request → List ℕ → Call → Type 0
IsAllowed request tail call = (call ≡ Stay) ⊎ IsNamed request tail call

-- the calls of a record: those of its request, or none
abbrev pub IsOwn : Result (Request × List ℕ) RecordFault → Call → Type 0
IsOwn (Ok x) call = IsAllowed x.0 x.1 call
IsOwn (Err fault) call = ⊥

-- what bytes do that came as a record, whatever they are
abbrev pub DoesRecord : {S : Type 0} → Does S → List ℕ → S → S → Type 0
DoesRecord does bytes old new = CallsOnly does (IsOwn (request_of bytes)) old new
