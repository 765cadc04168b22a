-- Polls of several pairs in one request: round after round, until one gives something. Own rules.
use Rattle.std.specs.Prelude.{◌≡◌, ◌≤◌, ◌<◌, ℕ, ◌+◌, ◌==◌, ◌⊎◌, if◌then◌else◌, List, [], ◌∷◌, ◌++◌, All, length, Result, Ok, Err, IfOk, OnOk}
use Rattle.driver_service.specs.Calls.{Call, Does, Run}
use Rattle.driver_service.specs.Gathering.{Gathered, Gathers, full}
use Rattle.driver_service.specs.Reasons.{refusal_code, refusal_text}
use Rattle.driver_service.specs.declared.reason.Refusal.{Refusal}
use Rattle.service_records.specs.Answer.{answer_bytes}
use Rattle.service_records.specs.declared.answer.Answer.TheVariants as answers
use Rattle.service_records.specs.declared.pairs.Pair.{Pair}

-- the place of a pair, before what it gave
abbrev pub part_head : ℕ → List ℕ
part_head place = answer_bytes (answers.Part place) []

-- a poll that is refused
abbrev pub part_refused_bytes : Refusal → List ℕ
part_refused_bytes refusal = answer_bytes (answers.PartRefused (refusal_code refusal)) (refusal_text refusal)

-- What the poll of the pair in that place is answered: the place, and what was written of its fragments; and why it is refused, where
-- it is. Nothing where there are no fragments.
abbrev pub part_bytes : ℕ → List ℕ → Result ℕ Refusal → List ℕ
part_bytes place written (Ok count) = if count == 0 then [] else (part_head place ++ written)
part_bytes place written (Err refusal) = part_head place ++ written ++ part_refused_bytes refusal

-- whether it gave something: 1, or 0
abbrev pub part_count : Result ℕ Refusal → ℕ
part_count (Ok count) = if count == 0 then 0 else 1
part_count (Err refusal) = 1

-- the poll of a pair: how much stood in the answer before it, its calls, what they wrote, and what they come to
pub record Polled : Type 0 where
  pub had : ℕ
  pub calls : List Call
  pub written : List ℕ
  pub gave : Result ℕ Refusal

-- the calls of a round
abbrev pub round_calls : List Polled → List Call
round_calls [] = []
round_calls (part ∷ parts) = part.calls ++ round_calls parts

-- the records of a round, whose first poll is of the pair in that place
abbrev pub round_bytes : ℕ → List Polled → List ℕ
round_bytes place [] = []
round_bytes place (part ∷ parts) = part_bytes place part.written part.gave ++ round_bytes (place + 1) parts

-- how many of its pairs gave something
abbrev pub round_count : List Polled → ℕ
round_count [] = 0
round_count (part ∷ parts) = part_count part.gave + round_count parts

-- one poll of a pair in its place
pub record Part {S E : Type 0} (does : Does S) (place : ℕ) (pair : Pair) (limit : ℕ) (old new : S) (out after : List ℕ) (told : Result ℕ E) : Type 0 where
  pub had : ℕ
  pub written : List ℕ
  pub gave : Result ℕ Refusal
  pub polled : Gathered does pair.subscription pair.source limit had old new written gave
  pub answered : IfOk told (λ (n : ℕ). (had ≡ length out + length (part_head place)) × (n ≡ part_count gave) × (n ≤ 1) × (after ≡ out ++ part_bytes place written gave))

-- polls of these pairs in their order, from the first one on
abbrev pub InOrder : ℕ → List (ℕ × ℕ) → List Polled → Type 0
InOrder limit pairs [] = Unit {0}
InOrder limit [] (part ∷ parts) = ⊥
InOrder limit (pair ∷ pairs) (part ∷ parts) = Gathers pair.0 pair.1 limit part.had part.calls part.written part.gave × InOrder limit pairs parts

-- Each was polled where what stood in the answer was shorter than `full`, and behind that and its own place.
abbrev pub Follows : ℕ → ℕ → List Polled → Type 0
Follows place had [] = Unit {0}
Follows place had (part ∷ parts) = (had < full) × (part.had ≡ had + length (part_head place)) × Follows (place + 1) (had + length (part_bytes place part.written part.gave)) parts

-- a whole round: each pair was polled once, or those from the first one on after which the answer is as long as that
pub record IsRound (limit : ℕ) (pairs : List (ℕ × ℕ)) (parts : List Polled) (out after : List ℕ) (count : ℕ) : Type 0 where
  pub order : InOrder limit pairs parts
  pub follows : Follows 0 (length out) parts
  pub reached : (length parts ≡ length pairs) ⊎ (full ≤ length after)
  pub written : after ≡ out ++ round_bytes 0 parts
  pub counted : count ≡ round_count parts

-- a round that gave nothing
abbrev pub IsIdle : ℕ → List (ℕ × ℕ) → List ℕ → List Polled → Type 0
IsIdle limit pairs out parts = IsRound limit pairs parts out out 0

-- what a round comes to: all of it, with its records, or the part of it until memory ran out
abbrev pub RoundTold : {E : Type 0} → ℕ → List (ℕ × ℕ) → List Polled → List ℕ → List ℕ → Result ℕ E → Type 0
RoundTold limit pairs parts out after (Ok count) = IsRound limit pairs parts out after count
RoundTold limit pairs parts out after (Err fault) = InOrder limit pairs parts

pub record Round {S E : Type 0} (does : Does S) (limit : ℕ) (pairs : List (ℕ × ℕ)) (old new : S) (out after : List ℕ) (told : Result ℕ E) : Type 0 where
  pub parts : List Polled
  pub run : Run does old (round_calls parts) new
  pub answered : RoundTold limit pairs parts out after told

-- the calls of rounds
abbrev pub all_calls : List (List Polled) → List Call
all_calls [] = []
all_calls (parts ∷ rounds) = round_calls parts ++ all_calls rounds

-- rounds that gave nothing, and one more
pub record PollsAll {S E : Type 0} (does : Does S) (limit : ℕ) (pairs : List (ℕ × ℕ)) (old new : S) (out after : List ℕ) (told : Result ℕ E) : Type 0 where
  pub earlier : List (List Polled)
  pub idle : All (IsIdle limit pairs out) earlier
  pub between : S
  pub run : Run does old (all_calls earlier) between
  pub last : Round does limit pairs between new out after told

-- the records of the last round, and the one that closes them
pub record AnswersAll {S E : Type 0} (does : Does S) (limit : ℕ) (pairs : List (ℕ × ℕ)) (old new : S) (out after : List ℕ) (told : Result Unit E) : Type 0 where
  pub gave : Result ℕ E
  pub written : List ℕ
  pub polls : PollsAll does limit pairs old new out written gave
  pub answered : OnOk told ((count : ℕ) × (gave ≡ Ok count) × (after ≡ written ++ answer_bytes (answers.Done count) []))
