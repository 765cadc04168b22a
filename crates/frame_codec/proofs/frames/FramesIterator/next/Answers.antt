-- The first of what is left was read, or nothing is left.
use Rattle.std.proofs.Common.{◌∷◌, length, sym, ap, ◌∙◌, arith, rules}
use Rattle.frame_codec.specs.Frame.{sent}
use Rattle.frame_codec.specs.Frames.{frames_in, frames_left}
use Rattle.frame_codec.proofs.FramesLemmas.{frames_first, frames_none}
use Rattle.frame_codec.proofs.frames.FramesIterator.next.Goals as goal

pub returns-in-Ok-clause-steps : goal.returns-in-Ok-clause-steps
unfolding frames_left
returns-in-Ok-clause-steps c =
    let rest = c.args.self.now.rest.now in
    frames_first (length rest) rest (sent c.in-Ok.frame) c.in-Ok.ensures.exact (omega arith)
    ∙ ap (λ others. sent c.in-Ok.frame ∷ frames_in (length others) others) (sym c.behind-self.ensures)

pub returns-in-Ok-clause-goes : goal.returns-in-Ok-clause-goes
unfolding frames_left
returns-in-Ok-clause-goes c =
    let shorter = ap length (returns-in-Ok-clause-steps c) in search rules

pub returns-in-Err-clause-steps : goal.returns-in-Err-clause-steps
unfolding frames_left
returns-in-Err-clause-steps c =
    let rest = c.args.self.now.rest.now in
    let none = frames_none (length rest) rest _ c.in-Err.ensures.exact in
    (none, none)
