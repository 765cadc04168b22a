-- The first of what is left is given, or nothing is left.
use Rattle.std.proofs.Common.{◌≡◌, ℕ, ◌-◌, ◌∷◌, List, Some, None, length, sym, ap, ap₂, ◌∙◌, arith, rules}
use Rattle.std.specs.Option.{option_map}
use Rattle.term_log.specs.Reading.{Given, given_of, first_of, admitted, behind, frames_in, frames_left}
use Rattle.term_log.proofs.Walks.{in_first, in_none}
use Rattle.term_log.proofs.reading.FramesIterator.next.Goals as goal

pub returns-in-Some-clause-steps : goal.returns-in-Some-clause-steps
unfolding frames_left
returns-in-Some-clause-steps c =
    let s = c.args.self.now in
    let bytes : List ℕ = s.rest.now in
    let g : Given = given_of c.in-Some.frame in
    let found : admitted s.budget (first_of (s.end - length bytes) bytes) ≡ Some g = sym c.peek.ensures ∙ ap (option_map given_of) c.in-Some.is in
    let rest : c.behind-self.result.now ≡ behind g g.frame bytes = c.behind-self.ensures in
    let left : c.saturating_sub-self.result ≡ s.budget - length g.bytes = omega (arith, c.saturating_sub-self.ensures) in
    in_first (length bytes) s.end s.budget bytes g found (omega arith)
    ∙ ap₂ (λ (k : ℕ) (xs : List ℕ). g ∷ frames_in (length xs) s.end k xs) (sym left) (sym rest)

pub returns-in-Some-clause-goes : goal.returns-in-Some-clause-goes
unfolding frames_left
returns-in-Some-clause-goes c =
    let shorter = ap length (returns-in-Some-clause-steps c) in search rules

pub returns-in-None-clause-steps : goal.returns-in-None-clause-steps
unfolding frames_left
returns-in-None-clause-steps c =
    let s = c.args.self.now in
    let bytes : List ℕ = s.rest.now in
    let missed : admitted s.budget (first_of (s.end - length bytes) bytes) ≡ None = sym c.peek.ensures ∙ ap (option_map given_of) c.in-None.is in
    let none = in_none (length bytes) s.end s.budget bytes missed in
    (none, none)
