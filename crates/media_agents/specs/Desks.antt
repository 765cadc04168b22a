-- Where a question of a driver's owner is, until it is answered and the answer is taken. Own rules.
use Rattle.std.specs.Prelude.{◌≡◌, ℕ, List, [], ◌∷◌, ◌++◌, Option, Some, None}
use Rattle.driver_core.specs.declared.state.outcome.Response.{Response}
use Rattle.driver_core.specs.declared.state.outcome.Response.TheVariants.{Attached}
use Rattle.media_agents.specs.Answering.{GivenAnswer}
use Rattle.media_agents.specs.declared.answering.Question.{Question}
use Rattle.media_agents.specs.Mails.{RingState, assigned}
use Rattle.published_registry.specs.Histories.{Known}

-- the ring that a client gets that attaches, and the answer, from when it is there until it is taken
pub record DeskState : Type 0 where
  pub ring : ℕ
  pub answered : Option GivenAnswer

-- the question is answered so
abbrev pub answered_with : Question → Option Response → Known → DeskState → DeskState
answered_with question response receipt desk = record desk { answered = Some (record { question = question; response = response; receipt = receipt }) }

-- After whatever holds of the desk's lock there were so far, in their order, there was one more, which left that answer: that is the
-- ring which a client gets that attaches by it. Each hold is kept as what it found and what it left.
pub record IsTold (old new : List (DeskState × DeskState) → Type 0) (question : Question) (response : Option Response) (receipt : Known) (ring : ℕ) : Type 0 where
  pub found : DeskState
  pub told : (holds : List (DeskState × DeskState)) → old holds → new (holds ++ (found, answered_with question response receipt found) ∷ [])
  pub ring_is : ring ≡ found.ring

-- a client that attached has that ring
abbrev pub assigned_by : Option Response → ℕ → List RingState → List RingState
assigned_by (Some (Attached client)) ring rings = assigned ring client rings
assigned_by response ring rings = rings

module _ {Desk : Type 0} (Told : Desk → List (DeskState × DeskState) → Type 0) where
  -- the desk was told once, if there is a question, and the client that attached by it has the ring that the desk names
  abbrev pub Reports : Option Question → Option Response → Known → Desk × List RingState → Desk × List RingState → Type 0
  Reports None response receipt old new = new ≡ old
  Reports (Some question) response receipt old new =
      (ring : ℕ) × IsTold (Told old.0) (Told new.0) question response receipt ring × (new.1 ≡ assigned_by response ring old.1)
