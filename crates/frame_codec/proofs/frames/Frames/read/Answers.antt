-- All frames were read, or the first fault among them stands.
use Rattle.std.proofs.Common.{sym, ap, ◌∙◌, rules}
use Rattle.frame_codec.specs.Frame.{sent}
use Rattle.frame_codec.specs.Frames.{frames_left, all_later}
use Rattle.frame_codec.specs.Steps.{fault_of}
use Rattle.frame_codec.proofs.FramesLemmas.{first_refused, frames_read, frames_refused}
use Rattle.frame_codec.proofs.frames.Frames.read.Goals as goal

pub returns-in_err-first : goal.returns-in_err-first
returns-in_err-first c =
    let refused = first_refused c.args.bytes.now _ c.in_err-first.ensures.exact in search rules

pub returns-in_err-check_later : goal.returns-in_err-check_later
returns-in_err-check_later c =
    let left = ap (λ bytes. fault_of (all_later c.in_ok-first.first.header bytes)) (sym c.behind.ensures) in
    let refused = frames_refused c.args.bytes.now (sent c.in_ok-first.first) _ c.in_ok-first.ensures.exact (left ∙ sym c.in_err-check_later.ensures) in
    search rules

pub returns : goal.returns
unfolding frames_left
returns c =
    let left = ap (λ bytes. fault_of (all_later c.in_ok-first.first.header bytes)) (sym c.behind.ensures) in
    frames_read c.args.bytes.now (sent c.in_ok-first.first) c.in_ok-first.ensures.exact (left ∙ sym c.in_ok-check_later.ensures)
