-- What the first sent by then, as answers come.
use Rattle.std.proofs.Common.{◌≡◌, List, [], ◌∷◌, ◌++◌, length, sym, ap, ◌∙◌, append_assoc}
use Rattle.std.proofs.lemmas.List.{append-nil}
use Rattle.log_steps.specs.declared.answer.Answer.{Answer}
use Rattle.two_drivers.specs.Sent.{Datagram}
use Rattle.two_drivers.specs.Worlds.{sent_of, sent_of_all}
use Rattle.two_drivers.specs.declared.pair_step.PairStep.{PairStep}

-- the answer of one more step
pub sent_push : (steps : List PairStep) (answers : List Answer) (step : PairStep) (answer : Answer) → length steps ≡ length answers →
    sent_of_all (steps ++ step ∷ []) (answers ++ answer ∷ []) ≡ sent_of_all steps answers ++ sent_of step answer
sent_push [] [] step answer same = append-nil (sent_of step answer)
sent_push [] (one ∷ answers) step answer same = absurd (cc same)
sent_push (one ∷ steps) [] step answer same = absurd (cc same)
sent_push (one ∷ steps) (first ∷ answers) step answer same =
    ap (λ (later : List Datagram). sent_of one first ++ later) (sent_push steps answers step answer (cc same))
    ∙ sym (append_assoc (sent_of one first) (sent_of_all steps answers) (sent_of step answer))
